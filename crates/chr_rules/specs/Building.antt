-- What is there while a program is checked.
use Rattle.std.specs.Prelude.{◌≡◌, ℕ, Result}
use Rattle.chr_semantics.specs.Syntax.{Rule, rule}
use Rattle.chr_semantics.specs.Names.{Names}
use Rattle.chr_semantics.specs.Program.{Program}
use Rattle.chr_semantics.specs.Checked as semantics
use Rattle.chr_semantics.specs.Checked.{Checked, rule_in}
use Rattle.chr_rules.specs.declared.error.RuleErrorKind.{RuleErrorKind}
use Rattle.chr_rules.specs.declared.error.RuleErrorKind.TheVariants.{Memory}
use Rattle.chr_rules.specs.declared.error.RuleError.{RuleError}

abbrev pub checked_of : Names → ℕ → Program → Checked
checked_of names declared rules = record { names = names; declared = declared; rules = rules }

-- the program with this rule, or what is wrong with the rule
abbrev pub with_rule_in_line : Checked → ℕ → Rule → Result Checked semantics.RuleError
with_rule_in_line c line r = rule_in c (rule line r)

-- a fault in a line and a rule; `Memory` has neither
abbrev pub IsPlaced : RuleErrorKind → ℕ → ℕ → RuleError → Type 0
IsPlaced Memory line k e = e ≡ record { kind = Memory; line = 0; rule = 0 }
IsPlaced kind line k e = e ≡ record { kind = kind; line = line; rule = k }
