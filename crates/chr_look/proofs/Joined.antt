-- Heads made equal to constraints, one after another.
use Rattle.std.proofs.Common.{◌≡◌, ◌∙◌, ◌+◌, ◌-◌, ◌≤◌, ◌++◌, ◌∷◌, [], All, length, take, List, arith, ap, refl, suc, subst, ℕ, Bool, Option}
use Rattle.std.proofs.lemmas.List.{length-append, take-append-le, take_all}
use Rattle.std.specs.Prelude.{Vec}
use Rattle.chr_semantics.specs.Bounds.{AreBelow, IsBelow}
use Rattle.chr_semantics.specs.Match.{Row}
use Rattle.chr_semantics.specs.Subst.{Subst, instance}
use Rattle.chr_semantics.specs.Tree.{Tree, Trees, int, more, node, none, var}
use Rattle.chr_semantics.specs.Verdict.{Joining, join_arguments, join_rows, joined, renamed}
use Rattle.chr_semantics.specs.declared.limits.TheConstants.{MAX_RULE_VARIABLES}
use Rattle.chr_term.specs.TermView.{trees_view}
use Rattle.chr_term.specs.declared.term.Sym.{Sym}
use Rattle.chr_term.specs.declared.term.Term.{Term}
use Rattle.chr_rules.specs.RuleView.{heads_from}
use Rattle.chr_look.specs.Joinings.{Joins}
use Rattle.chr_look.specs.declared.joining.Parting.{Parting}

-- what holds of all, holds of the first one, and of the others
pub first_of : {X : Type 0} (P : X → Type 0) (xs : List X) (x : X) (rest : List X) → xs ≡ x ∷ rest → All P xs → P x
first_of P xs x rest e all = subst (All P) e all 0 x (omega arith)

pub rest_of : {X : Type 0} (P : X → Type 0) (xs : List X) (x : X) (rest : List X) → xs ≡ x ∷ rest → All P xs → All P rest
rest_of P xs x rest e all k d lt = subst (All P) e all (suc k) d (omega (arith, lt))

-- what was pushed last is gone
pub popped : (items old new : List ℕ) (k n : ℕ) → items ≡ old ++ k ∷ [] → n ≡ length items → new ≡ take (n - 1) items → new ≡ old
popped items old new k n e len rest =
    let long = length-append old (k ∷ []) in
    let count : n - 1 ≡ length old = omega (arith, len, ap length e, long) in
    rest ∙ ap (λ (m : ℕ). take m items) count ∙ ap (take (length old)) e ∙ take-append-le (length old) old (k ∷ []) (omega arith) ∙ take_all (length old) old (omega arith)

-- renamed apart from the variables below n, a rule's variables are below the next numbers
mutual
  pub renamed_below : (n m : ℕ) (t : Tree) → n + MAX_RULE_VARIABLES ≤ m → IsBelow MAX_RULE_VARIABLES t → IsBelow m (instance (λ x. var (n + x)) t)
  renamed_below n m (var x) le h = omega (arith, le, h)
  renamed_below n m (int z) le h = tt
  renamed_below n m (node f ts) le h = all_renamed_below n m ts le h

  pub all_renamed_below : (n m : ℕ) (ts : Trees) → n + MAX_RULE_VARIABLES ≤ m → AreBelow MAX_RULE_VARIABLES ts → AreBelow m (renamed n ts)
  all_renamed_below n m none le h = tt
  all_renamed_below n m (more t ts) le h = (renamed_below n m t le h.0, all_renamed_below n m ts le h.1)

-- where the first head is made equal, the others go on
pub heads_joined : {A : Type 0} (u v new : Subst) (n k j : ℕ) (flags : List Bool) (heads : List (Sym × Vec (Term A) A)) (h : Sym × Vec (Term A) A) (hs : List (Sym × Vec (Term A) A)) (rows : List Row) (r : Row) (rs : List Row)
    (old way : List ℕ) (p : Option (Parting A)) → heads ≡ h ∷ hs → rows ≡ r ∷ rs → join_arguments u 1 (renamed n (trees_view h.1.items)) r.1.args ≡ joined v
    → Joins (join_rows v n (k + 1) (heads_from flags (j + 1) hs) rs) new old way p → Joins (join_rows u n k (heads_from flags j heads) rows) new old way p
heads_joined u v new n k j flags heads h hs rows r rs old way p eh er ej joins =
    subst (λ (x : Joining). Joins x new old way p) (rw (eh, er, ej) refl) joins
