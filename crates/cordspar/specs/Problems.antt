-- What C sees of a refusal.
use Rattle.std.specs.Prelude.{ℕ}
use Rattle.chr_read.specs.declared.error.ReadError.{ReadError}
use Rattle.chr_read.specs.declared.error.ReadErrorKind.{ReadErrorKind}
use Rattle.chr_read.specs.declared.error.ReadErrorKind.TheVariants as read
use Rattle.chr_rules.specs.declared.error.RuleError.{RuleError}
use Rattle.chr_rules.specs.declared.error.RuleErrorKind.{RuleErrorKind}
use Rattle.chr_rules.specs.declared.error.RuleErrorKind.TheVariants as rule
use Rattle.embedding.specs.declared.refusal.Refusal.{Refusal}
use Rattle.embedding.specs.declared.refusal.Refusal.TheVariants.{Program, Rules, Query, Goals, BudgetTooLarge, Memory}
use Rattle.cordspar.specs.declared.problem.Problem.{Problem}

abbrev pub read_kind : ReadErrorKind → ℕ
read_kind read.NotUtf8 = 1
read_kind read.TooLong = 2
read_kind read.BadChar = 3
read_kind read.UnclosedComment = 4
read_kind read.NumberTooLarge = 5
read_kind read.Expected = 6
read_kind read.TooDeep = 7
read_kind read.Memory = 8

abbrev pub rule_kind : RuleErrorKind → ℕ
rule_kind rule.Memory = 8
rule_kind rule.Undeclared = 9
rule_kind rule.BuiltinInHead = 10
rule_kind rule.NotAGoal = 11
rule_kind rule.NotATest = 12
rule_kind rule.GuardVariable = 13
rule_kind rule.GuardOnly = 14
rule_kind rule.DuplicateName = 15
rule_kind rule.TooManyHeads = 16
rule_kind rule.ArityTooLarge = 17
rule_kind rule.TooManyRules = 18
rule_kind rule.BackslashInPropagation = 19
rule_kind rule.TooManyVariables = 20

abbrev pub read_problem : ℕ → ReadError → Problem
read_problem source e = record { line = e.line; column = e.column; rule = 0; source = source; kind = read_kind e.kind }

abbrev pub rule_problem : ℕ → RuleError → Problem
rule_problem source e = record { line = e.line; column = 0; rule = e.rule; source = source; kind = rule_kind e.kind }

-- of the call
abbrev pub call_problem : ℕ → Problem
call_problem kind = record { line = 0; column = 0; rule = 0; source = 0; kind = kind }

abbrev pub problem_of : Refusal → Problem
problem_of (Program e) = read_problem 1 e
problem_of (Rules e) = rule_problem 1 e
problem_of (Query e) = read_problem 2 e
problem_of (Goals e) = rule_problem 2 e
problem_of BudgetTooLarge = call_problem 21
problem_of Memory = call_problem 8
