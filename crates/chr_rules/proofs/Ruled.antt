-- What is wrong with a rule, and what it stands for, part by part.
use Rattle.std.proofs.Common.{◌≡◌, ◌∙◌, ◌<◌, ◌≤◌, ◌++◌, ℕ, List, [], Bool, if◌then◌else◌, Option, Some, None, Result, length, ap, refl, sym, option_map}
use Rattle.std.proofs.lemmas.Bool.{le-ltb, lt-ltb}
use Rattle.std.specs.Prelude.{IfErr}
use Rattle.std.specs.Result.{IsErrAnd}
use Rattle.chr_semantics.specs.Names.{Names}
use Rattle.chr_semantics.specs.Program as semantics
use Rattle.chr_semantics.specs.Program.{Goal, Head, Program, Test}
use Rattle.chr_semantics.specs.Syntax as syntax
use Rattle.chr_semantics.specs.Meaning.{Scope, all_heads, fresh_scope, goal_from, head_from, in_turn, kept_count, label_of, rule_from, test_from}
use Rattle.chr_semantics.specs.Checked as checks
use Rattle.chr_semantics.specs.Checked.{first_of, error_in_rule, too_many_variables}
use Rattle.chr_rules.specs.Checks.{IsFault, fault_of, guard_and_body_from, head_variables, too_many, wrong_beside_items, wrong_items, wrong_rule}
use Rattle.chr_rules.specs.declared.error.RuleErrorKind.{RuleErrorKind}
use Rattle.chr_rules.specs.declared.error.RuleErrorKind.TheVariants.{Memory, TooManyVariables}
use Rattle.chr_rules.proofs.Each.{err_answers}
use Rattle.chr_rules.proofs.Mistakes.{fault_of_part, first_after, first_within, no_fault}

-- `Memory` may be returned whatever is wrong with the rule
pub memory_refused : {T : Type 0} (r : Result T RuleErrorKind) (m : Option checks.RuleErrorKind) → IsErrAnd r (λ fault. fault ≡ Memory) → IfErr r (λ fault. IsFault fault m)
memory_refused r m h = err_answers r Memory (λ fault. IsFault fault m) h (λ n. absurd (n refl))

-- the items are looked at first
pub error_beside_items : (names : Names) (d : ℕ) (earlier : Program) (r : syntax.Rule) → None ≡ option_map fault_of (first_of (wrong_items names d r)) → error_in_rule names d earlier r ≡ first_of (wrong_beside_items names earlier r)
error_beside_items names d earlier r n = first_after (wrong_items names d r) (wrong_beside_items names earlier r) (no_fault _ n)

-- the fault of a first part is that of both
pub first_of_both : (xs ys : List (Bool × checks.RuleErrorKind)) (f : RuleErrorKind) → Some f ≡ option_map fault_of (first_of xs) → option_map fault_of (first_of (xs ++ ys)) ≡ Some f
first_of_both xs ys f e = fault_of_part (first_of xs) (first_of (xs ++ ys)) f e (λ m h. first_within xs ys m h)

pub second_of_both : (xs ys : List (Bool × checks.RuleErrorKind)) → None ≡ option_map fault_of (first_of xs) → first_of (xs ++ ys) ≡ first_of ys
second_of_both xs ys n = first_after xs ys (no_fault _ n)

pub rule_refused : (names : Names) (earlier : Program) (r : syntax.Rule) (vars : List (List ℕ)) (f : RuleErrorKind) → vars ≡ head_variables names r
    → Some f ≡ option_map fault_of (first_of (wrong_rule vars earlier r)) → option_map fault_of (first_of (wrong_beside_items names earlier r)) ≡ Some f
rule_refused names earlier r vars f v e =
    first_of_both (wrong_rule (head_variables names r) earlier r) (too_many (rule_from names 0 r).1.vars) f (e ∙ ap (λ vs. option_map fault_of (first_of (wrong_rule vs earlier r))) v)

-- where nothing else is wrong, the number of variables decides
pub last_decides : (names : Names) (earlier : Program) (r : syntax.Rule) (hs : Scope × List Head) → hs ≡ in_turn head_from (fresh_scope names, []) (all_heads r)
    → None ≡ option_map fault_of (first_of (wrong_rule hs.0.variables earlier r)) → first_of (wrong_beside_items names earlier r) ≡ first_of (too_many (length (guard_and_body_from hs.0 r).0.variables))
last_decides names earlier r hs v e =
    second_of_both (wrong_rule (head_variables names r) earlier r) (too_many (rule_from names 0 r).1.vars) (e ∙ ap (λ q. option_map fault_of (first_of (wrong_rule q.0.variables earlier r))) v)
    ∙ ap (λ q. first_of (too_many (length (guard_and_body_from q.0 r).0.variables))) (sym v)

-- the tests of a guard and the goals of a body
abbrev pub both_of : Scope × List Test → Scope × List Goal → Scope × List Test × List Goal
both_of gs bs = (bs.0, gs.1, bs.1)

pub both_made : (s : Scope) (r : syntax.Rule) (gs : Scope × List Test) (bs : Scope × List Goal) → gs ≡ in_turn test_from (s, []) r.guard → bs ≡ in_turn goal_from (gs.0, []) r.body → both_of gs bs ≡ guard_and_body_from s r
both_made s r gs bs a b = ap (both_of gs) b ∙ ap (λ q. both_of q (in_turn goal_from (q.0, []) r.body)) a

pub too_many_there : (n : ℕ) → 64 < n → option_map fault_of (first_of (too_many n)) ≡ Some TooManyVariables
too_many_there n more = ap (λ b. option_map fault_of (if b then Some too_many_variables else None)) (lt-ltb 64 n more)

pub too_many_absent : (n : ℕ) → n ≤ 64 → first_of (too_many n) ≡ None
too_many_absent n few = ap (λ b. if b then Some too_many_variables else None) (le-ltb 64 n few)

-- what a rule stands for, from what its parts do
abbrev pub made_of : ℕ → syntax.Rule → Scope × List Head → Scope × List Test × List Goal → Names × semantics.Rule
made_of k r hs bs = (
  bs.0.names,
  record {
    label = label_of k r.label;
    kept = kept_count r;
    heads = hs.1;
    guard = bs.1;
    body = bs.2;
    head_vars = length hs.0.variables;
    vars = length bs.0.variables;
  },
)

pub rule_made : (names : Names) (k : ℕ) (r : syntax.Rule) (hs : Scope × List Head) (bs : Scope × List Test × List Goal) → hs ≡ in_turn head_from (fresh_scope names, []) (all_heads r)
    → bs ≡ guard_and_body_from hs.0 r → made_of k r hs bs ≡ rule_from names k r
rule_made names k r hs bs a b = ap (made_of k r hs) b ∙ ap (λ q. made_of k r q (guard_and_body_from q.0 r)) a
