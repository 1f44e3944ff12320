-- Verdicts on constraints that were made equal to heads, or were not.
use Rattle.std.proofs.Common.{◌≡◌, ◌∙◌, ◌++◌, [], List, None, Option, Some, ap, false, option_map, refl, sym, ℕ}
use Rattle.std.proofs.lemmas.Option.{slice_get-map}
use Rattle.std.specs.Prelude.{◌-◌, map, option_and_then, slice_get}
use Rattle.chr_semantics.specs.Match.{Row, fits}
use Rattle.chr_semantics.specs.Program.{Head, Rule, Test}
use Rattle.chr_semantics.specs.Search.{fired_before}
use Rattle.chr_semantics.specs.State.{State, rows}
use Rattle.chr_semantics.specs.Subst.{Subst}
use Rattle.chr_semantics.specs.Tree.{Tree}
use Rattle.chr_semantics.specs.Verdict.{Verdict, applied, first_absent, first_of_another, first_repeated, join_rows, joined, of_joining, of_match, of_rows, or_else, parted, past, row_vars, rows_of, tested, unlike, verdict}
use Rattle.chr_bind.specs.Guards.{test_view}
use Rattle.chr_bind.specs.declared.guard.Test as rust

module _ (rule : Rule) (rs : List Row) (u : Subst) (n : ℕ) (heads : List Head) (nothing : u ≡ []) (first : n ≡ past (row_vars rs)) (same : heads ≡ rule.heads) where
  pub of_parted : (on old way : List ℕ) (t v : Tree) → join_rows u n 1 heads rs ≡ parted on t v → way ≡ old ++ on → old ≡ [] → unlike way t v ≡ of_rows rule rs
  of_parted on old way t v e ew eo =
      let is : join_rows [] (past (row_vars rs)) 1 rule.heads rs ≡ parted on t v = rw (sym nothing, sym first, sym same) e in
      rw (ew, eo) (sym (ap (of_joining rule rs) is))

  pub of_joined : (w : Subst) → join_rows u n 1 heads rs ≡ joined w → of_match rule rs w (fits rule.heads rs) ≡ of_rows rule rs
  of_joined w e =
      let is : join_rows [] (past (row_vars rs)) 1 rule.heads rs ≡ joined w = rw (sym nothing, sym first, sym same) e in
      sym (ap (of_joining rule rs) is)

-- where nothing hinders it before the terms are looked at
pub judged_by_rows : (s : State) (r : ℕ) (rule : Rule) (ids : List ℕ) → fired_before s.history r ids ≡ false → first_absent s ids ≡ None → first_repeated ids ≡ None
    → (let rs = rows_of (rows s) ids in or_else (first_of_another 1 rule.heads rs) (of_rows rule rs)) ≡ verdict s r rule ids
judged_by_rows s r rule ids f a d = rw (f, a, d) refl

-- no verdict is one that is none
pub none_viewed : {X Y : Type 0} (f : X → Y) (o : Option X) (p : Option Y) → option_map f o ≡ p → o ≡ None → p ≡ None
none_viewed f o p e is = sym e ∙ ap (option_map f) is

-- of constraints of which one has another symbol, or none
module _ (rule : Rule) (rs : List Row) (heads : List Head) (head : heads ≡ rule.heads) where
  pub by_other_symbol : (v : Verdict) → first_of_another 1 heads rs ≡ Some v → v ≡ or_else (first_of_another 1 rule.heads rs) (of_rows rule rs)
  by_other_symbol v e = sym (ap (λ (o : Option Verdict). or_else o (of_rows rule rs)) (ap (λ (hs : List Head). first_of_another 1 hs rs) (sym head) ∙ e))

  pub by_their_terms : (v : Verdict) → first_of_another 1 heads rs ≡ None → v ≡ of_rows rule rs → v ≡ or_else (first_of_another 1 rule.heads rs) (of_rows rule rs)
  by_their_terms v e h = h ∙ sym (ap (λ (o : Option Verdict). or_else o (of_rows rule rs)) (ap (λ (hs : List Head). first_of_another 1 hs rs) (sym head) ∙ e))

-- a rule and constraints that are those of a list
pub of_the_list : (rule r : Rule) (rs cs : List Row) (v : Verdict) → rule ≡ r → rs ≡ cs → v ≡ or_else (first_of_another 1 rule.heads rs) (of_rows rule rs) → v ≡ or_else (first_of_another 1 r.heads cs) (of_rows r cs)
of_the_list rule r rs cs v is all h = rw (sym is, sym all) h

-- the k-th test of the rule's guard under a match, where there is one
abbrev pub under : Rule → ℕ → Option Subst → Option Test
under rule k m = option_and_then (λ m. option_map (applied m) (slice_get rule.guard (k - 1))) m

-- a test of the guard, of constraints that the heads match or don't
module _ (rule : Rule) (k : ℕ) (o : Option Subst) where
  pub no_match : o ≡ None → None ≡ under rule k o
  no_match e = sym (ap (under rule k) e)

  pub no_test : (m : Subst) → o ≡ Some m → None ≡ slice_get rule.guard (k - 1) → None ≡ under rule k o
  no_test m e none = ap (option_map (applied m)) none ∙ sym (ap (under rule k) e)

  pub that_test : (m : Subst) (t made : Test) → o ≡ Some m → Some t ≡ slice_get rule.guard (k - 1) → made ≡ applied m t → Some made ≡ under rule k o
  that_test m t made e is same = ap Some same ∙ (ap (option_map (applied m)) is ∙ sym (ap (under rule k) e))

-- what stands at a place of a guard
pub at_none : {A : Type 0} (tests : List (rust.Test A)) (k : ℕ) → None ≡ slice_get tests k → None ≡ slice_get (map test_view tests) k
at_none tests k e = ap (option_map test_view) e ∙ sym (slice_get-map test_view tests k)

pub at_some : {A : Type 0} (tests : List (rust.Test A)) (k : ℕ) (t : rust.Test A) → Some t ≡ slice_get tests k → Some (test_view t) ≡ slice_get (map test_view tests) k
at_some tests k t e = ap (option_map test_view) e ∙ sym (slice_get-map test_view tests k)

-- a rule and constraints that are those of a list
pub test_of_the_list : (s : State) (ids : List ℕ) (k : ℕ) (rule r : Rule) (rs : List Row) (made : Option Test) → rule ≡ r → rs ≡ rows_of (rows s) ids
    → made ≡ under rule k (fits rule.heads rs) → made ≡ tested s r ids k
test_of_the_list s ids k rule r rs made is all h = rw (sym is, sym all) h
