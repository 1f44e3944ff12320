-- What is looked for in an item, and what is wrong with a rule, part by part.
use Rattle.std.specs.Prelude.{ℕ, ◌≡◌, ◌≢◌, Bool, List, [], ◌∷◌, ◌++◌, ◌&&◌, nat_lt, nat_le, length, Option, Some, option_map, Result, Ok, Err}
use Rattle.std.specs.List.{list_any}
use Rattle.chr_semantics.specs.Names.{Names}
use Rattle.chr_semantics.specs.Program.{Goal, Program, Test}
use Rattle.chr_semantics.specs.Syntax as syntax
use Rattle.chr_semantics.specs.Syntax.{Item}
use Rattle.chr_semantics.specs.Meaning.{Scope, all_heads, fresh_scope, goal_from, has_backslash, head_from, in_turn, propagates, rule_from, test_from}
use Rattle.chr_semantics.specs.Checked as semantics
use Rattle.chr_semantics.specs.Checked.{undeclared, builtin_in_head, not_a_goal, not_a_test, guard_variable, guard_only, duplicate_name, too_many_heads, arity_too_large, too_many_rules, backslash_in_propagation, too_many_variables, is_undeclared, is_built_in, is_no_goal, is_no_test, is_guard_only, is_free, is_wide, on_sides, head_items, has_label}
use Rattle.chr_semantics.specs.declared.limits.TheConstants.{MAX_HEADS, MAX_RULE_VARIABLES, MAX_RULES}
use Rattle.chr_rules.specs.Parts.{has_sought}
use Rattle.chr_rules.specs.declared.checks.Check.{Check}
use Rattle.chr_rules.specs.declared.checks.Check.TheVariants as C
use Rattle.chr_rules.specs.declared.error.RuleErrorKind.{RuleErrorKind}
use Rattle.chr_rules.specs.declared.error.RuleErrorKind.TheVariants as fault
use Rattle.chr_rules.specs.declared.error.RuleError.{RuleError}

abbrev pub check_view : {A : Type 0} → Check A → Item → Bool
check_view (C.Undeclared names declared) = is_undeclared names.now declared
check_view C.BuiltIn = is_built_in
check_view C.NoGoal = is_no_goal
check_view C.NoTest = is_no_test
check_view C.GuardOnly = is_guard_only
check_view (C.Part sought) = on_sides (has_sought sought)

-- a mistake as it is answered
abbrev pub fault_of : semantics.RuleErrorKind → RuleErrorKind
fault_of undeclared = fault.Undeclared
fault_of builtin_in_head = fault.BuiltinInHead
fault_of not_a_goal = fault.NotAGoal
fault_of not_a_test = fault.NotATest
fault_of guard_variable = fault.GuardVariable
fault_of guard_only = fault.GuardOnly
fault_of duplicate_name = fault.DuplicateName
fault_of too_many_heads = fault.TooManyHeads
fault_of arity_too_large = fault.ArityTooLarge
fault_of too_many_rules = fault.TooManyRules
fault_of backslash_in_propagation = fault.BackslashInPropagation
fault_of too_many_variables = fault.TooManyVariables

abbrev pub error_of : semantics.RuleError → RuleError
error_of r = record { kind = fault_of r.kind; line = r.line; rule = r.rule }

-- the answer, unless memory was refused
abbrev pub IsFault : RuleErrorKind → Option semantics.RuleErrorKind → Type 0
IsFault f m = f ≢ fault.Memory → option_map fault_of m ≡ Some f

-- Memory is answered with no line and no rule. Any other answer is the refusal.
abbrev pub IsError : {S : Type 0} → RuleError → Result S semantics.RuleError → Type 0
IsError e (Ok s) = e ≡ record { kind = fault.Memory; line = 0; rule = 0 }
IsError e (Err r) = e ≢ record { kind = fault.Memory; line = 0; rule = 0 } → e ≡ error_of r

-- what is wrong with the items of a rule, before its heads are looked at as such
abbrev pub wrong_items : Names → ℕ → syntax.Rule → List (Bool × semantics.RuleErrorKind)
wrong_items names declared r =
    (list_any (is_undeclared names declared) (head_items r ++ r.body), undeclared) ∷
    (list_any is_built_in (head_items r), builtin_in_head) ∷
    (list_any is_no_goal (head_items r ++ r.body), not_a_goal) ∷
    (list_any is_no_test r.guard, not_a_test) ∷ []

-- what is wrong with the items, the label and the number of heads of a rule whose heads have these variables
abbrev pub wrong_parts : List (List ℕ) → Program → syntax.Rule → List (Bool × semantics.RuleErrorKind)
wrong_parts vars earlier r =
    (list_any (on_sides (is_free vars)) r.guard, guard_variable) ∷
    (list_any is_guard_only r.body, guard_only) ∷
    (has_label r.label earlier, duplicate_name) ∷
    (nat_lt MAX_HEADS (length (all_heads r)), too_many_heads) ∷
    (list_any (on_sides is_wide) (head_items r ++ (r.guard ++ r.body)), arity_too_large) ∷ []

-- what is wrong with the number and the arrow of a rule
abbrev pub wrong_number_or_arrow : Program → syntax.Rule → List (Bool × semantics.RuleErrorKind)
wrong_number_or_arrow earlier r =
    (nat_le MAX_RULES (length earlier), too_many_rules) ∷
    (propagates r.arrow && has_backslash r, backslash_in_propagation) ∷ []

-- what is wrong with a rule whose heads have these variables
abbrev pub wrong_rule : List (List ℕ) → Program → syntax.Rule → List (Bool × semantics.RuleErrorKind)
wrong_rule vars earlier r = wrong_parts vars earlier r ++ wrong_number_or_arrow earlier r

-- what is wrong with this number of variables
abbrev pub too_many : ℕ → List (Bool × semantics.RuleErrorKind)
too_many n = (nat_lt MAX_RULE_VARIABLES n, too_many_variables) ∷ []

-- the variables of the heads
abbrev pub head_variables : Names → syntax.Rule → List (List ℕ)
head_variables names r = (in_turn head_from (fresh_scope names, []) (all_heads r)).0.variables

-- what is wrong with a rule whose items are right
abbrev pub wrong_beside_items : Names → Program → syntax.Rule → List (Bool × semantics.RuleErrorKind)
wrong_beside_items names earlier r = wrong_rule (head_variables names r) earlier r ++ too_many (rule_from names 0 r).1.vars

-- the tests of the guard, and then the goals of the body
abbrev pub guard_and_body_from : Scope → syntax.Rule → Scope × List Test × List Goal
guard_and_body_from s r =
    let guard = in_turn test_from (s, []) r.guard in
    let body = in_turn goal_from (guard.0, []) r.body in (body.0, guard.1, body.1)
