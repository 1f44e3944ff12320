-- The variables of an accepted rule or query are below their number.
use Rattle.std.proofs.Math.ListN.{get_or-map}
use Rattle.std.proofs.lemmas.List.{length-map}
use Rattle.std.proofs.Common.{get_or, ◌∙◌, ◌<◌, ◌≡◌, ◌≤◌, ◌+◌, ◌++◌, ℕ, List, [], false, Option, Some, None, Ok, length, nat_lt, refl, ap, sym, subst, arith}
use Rattle.std.specs.Prelude.{All}
use Rattle.std.specs.List.{list_any}
use Rattle.std.proofs.lemmas.List.Elements.{All-get_or, All-nil, All-push}
use Rattle.chr_semantics.specs.Names.{Names}
use Rattle.chr_semantics.specs.Program as semantics
use Rattle.chr_semantics.specs.Program.{Program}
use Rattle.chr_semantics.specs.Syntax as syntax
use Rattle.chr_semantics.specs.Syntax.{Item, Part}
use Rattle.chr_semantics.specs.Meaning.{all_heads, fresh_scope, head_from, in_turn, rule_from, test_from}
use Rattle.chr_semantics.specs.Checked.{Checked, RuleErrorKind, guard_variable, too_many_variables, checked, checked_query, each, error_in_query, error_in_rule, is_free, on_sides, query_from, rule_in, unless, with_rule}
use Rattle.chr_semantics.specs.Bounds.{AreBounded, IsBounded, IsQueryBounded, IsTestBelow}
use Rattle.chr_rules.specs.RuleView.{rule_view, rules_view}
use Rattle.chr_rules.specs.declared.rule.Rule.{Rule}
use Rattle.chr_rules.specs.Checks.{head_variables, too_many, wrong_items, wrong_rule}
use Rattle.chr_rules.proofs.Covered.{heads_cover}
use Rattle.chr_rules.proofs.Counted.{goals_count, heads_count, tests_count}
use Rattle.chr_rules.proofs.Few.{few_heads, heads_made}
use Rattle.chr_rules.proofs.Kept.{kept_in_all, kept_in_checked}
use Rattle.chr_rules.proofs.Mistakes.{none_each}
use Rattle.chr_rules.proofs.Unmet.{tests_stay}

at_most : (m n : ℕ) → nat_lt m n ≡ false → n ≤ m
at_most m n h = grind (arith, h)

-- an accepted rule
rule_bounded : (names : Names) (d k : ℕ) (earlier : Program) (r : syntax.Rule) → error_in_rule names d earlier r ≡ None → IsBounded (rule_from names k r).1
rule_bounded names d k earlier r h =
    let all = wrong_items names d r ++ (wrong_rule (head_variables names r) earlier r ++ too_many (rule_from names 0 r).1.vars) in
    let hs = in_turn head_from (fresh_scope names, []) (all_heads r) in
    let gs = in_turn test_from (hs.0, []) r.guard in
    let heads = heads_count (fresh_scope names) (all_heads r) in
    let tests = tests_count hs.0 r.guard in
    let goals = goals_count gs.0 r.body in
    let known = none_each all 4 (list_any (on_sides (is_free (head_variables names r))) r.guard, guard_variable) h refl in
    let same = tests_stay (hs.0, []) r.guard known in
    record {
      heads = heads.below;
      guard = subst (λ vs. All (IsTestBelow (length vs)) gs.1) same tests.below;
      body = goals.below;
      covered = λ x lt. heads_cover (fresh_scope names) (all_heads r) x (omega arith) lt;
      ordered = omega (arith, tests.more_met, goals.more_met);
      few = at_most 64 _ (none_each all 11 (nat_lt 64 (rule_from names 0 r).1.vars, too_many_variables) h refl);
      few_heads = omega (arith, (few_heads names d earlier r h).0, heads_made (fresh_scope names, []) (all_heads r));
    }

one_more_bounded : (c : Checked) (r : syntax.Rule) → error_in_rule c.names c.declared c.rules r ≡ None → AreBounded c.rules → AreBounded (with_rule c r).rules
one_more_bounded c r h held = All-push IsBounded c.rules (rule_from c.names (length c.rules + 1) r).1 held (rule_bounded c.names c.declared (length c.rules + 1) c.rules r h)

pub bounded_in_all : (c d : Checked) (ps : List Part) → each rule_in c ps ≡ Ok d → AreBounded c.rules → AreBounded d.rules
bounded_in_all = kept_in_all AreBounded one_more_bounded

-- the rules of an accepted program
pub program_bounded : (c : Checked) (ps : syntax.Program) → checked ps ≡ Ok c → AreBounded c.rules
program_bounded c ps h = kept_in_checked AreBounded one_more_bounded (All-nil IsBounded) c ps h

query_made : (names more : Names) (is : List Item) (q : semantics.Query) → query_from names is ≡ (more, q) → IsQueryBounded q
query_made names more is q h = subst (λ (x : Names × semantics.Query). IsQueryBounded x.1) h (goals_count (fresh_scope names) is).below

-- an accepted query
pub query_bounded : (c : Checked) (s : syntax.Query) (names : Names) (q : semantics.Query) → checked_query c s ≡ Ok (names, q) → IsQueryBounded q
query_bounded c s names q h = by (error_in_query c.names c.declared s.items) h
  where
    by : (m : Option RuleErrorKind) → unless m s.line 0 (query_from c.names s.items) ≡ Ok (names, q) → IsQueryBounded q
    by None e = let same : query_from c.names s.items ≡ (names, q) = cc in query_made c.names names s.items q same
    by (Some m) e = cc

-- each of bounded rules is bounded
pub bounded_at : {A : Type 0} (rules : List (Rule A)) (k : ℕ) (r : Rule A) → k < length rules → r ≡ get_or rules k r → AreBounded (rules_view rules) → IsBounded (rule_view r)
bounded_at rules k r h e all =
    let within : k < length (rules_view rules) = omega (arith, h, length-map rules rule_view) in
    subst IsBounded (get_or-map rule_view rules k r ∙ ap rule_view (sym e)) (All-get_or IsBounded (rules_view rules) k (rule_view r) within all)
