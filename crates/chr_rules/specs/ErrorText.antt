-- The text of an error.
use Rattle.std.specs.Prelude.{ℕ, List, ◌++◌, codes}
use Rattle.std.specs.Fmt.{decimal}
use Rattle.chr_rules.specs.declared.error.RuleError.{RuleError}
use Rattle.chr_rules.specs.declared.error.RuleErrorKind.{RuleErrorKind}
use Rattle.chr_rules.specs.declared.error.RuleErrorKind.TheVariants.{Undeclared, BuiltinInHead, NotAGoal, NotATest, GuardVariable, GuardOnly, DuplicateName, TooManyHeads, ArityTooLarge, TooManyRules, BackslashInPropagation, TooManyVariables, Memory}

-- the name of a kind
abbrev pub rule_error_kind_text : RuleErrorKind → List ℕ
rule_error_kind_text Undeclared = codes "Undeclared"
rule_error_kind_text BuiltinInHead = codes "BuiltinInHead"
rule_error_kind_text NotAGoal = codes "NotAGoal"
rule_error_kind_text NotATest = codes "NotATest"
rule_error_kind_text GuardVariable = codes "GuardVariable"
rule_error_kind_text GuardOnly = codes "GuardOnly"
rule_error_kind_text DuplicateName = codes "DuplicateName"
rule_error_kind_text TooManyHeads = codes "TooManyHeads"
rule_error_kind_text ArityTooLarge = codes "ArityTooLarge"
rule_error_kind_text TooManyRules = codes "TooManyRules"
rule_error_kind_text BackslashInPropagation = codes "BackslashInPropagation"
rule_error_kind_text TooManyVariables = codes "TooManyVariables"
rule_error_kind_text Memory = codes "Memory"

-- line LINE rule K: KIND
abbrev pub rule_error_text : RuleError → List ℕ
rule_error_text e = codes "line " ++ decimal e.line ++ codes " rule " ++ decimal e.rule ++ codes ": " ++ rule_error_kind_text e.kind
