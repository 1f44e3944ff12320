-- A substitution is solved exactly where applying it twice is applying it once, and no variable is bound to itself.
use Rattle.std.proofs.Common.{◌≡◌, ℕ, Bool, true, false, cond, ◌==◌, [], ◌∷◌, ap, refl, ◌∙◌, sym}
use Rattle.std.proofs.lemmas.Bool.{or_cases, or_left, or_right, or_parts, false_from_ne_true, true≢false}
use Rattle.std.proofs.lemmas.Bool.Decides.{Decides-eqb}
use Rattle.std.proofs.Common.{inl, inr}
use Rattle.chr_semantics.specs.Tree.{Tree, var, int, node, Trees, none, more}
use Rattle.chr_semantics.specs.Subst.{IsSolved, SolvedLaw, Solves, Subst, apply, binds_var, instance, instances, occurs, occurs_any, value_at}

-- a term that a replacement leaves as it is has no variable that is replaced by another term
mutual
  kept_var : (f : ℕ → Tree) (y : ℕ) (t : Tree) → instance f t ≡ t → occurs y t ≡ true → f y ≡ var y
  kept_var f y (var z) e h = let same : y ≡ z = (Decides-eqb y z).0 h in ap f same ∙ e ∙ ap var (sym same)
  kept_var f y (int z) e h = absurd (true≢false (sym h))
  kept_var f y (node g ts) e h = kept_var_all f y ts (cc) h

  kept_var_all : (f : ℕ → Tree) (y : ℕ) (ts : Trees) → instances f ts ≡ ts → occurs_any y ts ≡ true → f y ≡ var y
  kept_var_all f y none e h = absurd (true≢false (sym h))
  kept_var_all f y (more t ts) e h = elim (or_cases (occurs y t) (occurs_any y ts) h) [ inl here ↦ kept_var f y t (cc) here | inr there ↦ kept_var_all f y ts (cc) there ]

-- a replacement that leaves each variable of a term leaves the term
mutual
  kept_term : (f : ℕ → Tree) (t : Tree) → ((y : ℕ) → occurs y t ≡ true → f y ≡ var y) → instance f t ≡ t
  kept_term f (var z) h = h z ((Decides-eqb z z).1 refl)
  kept_term f (int z) h = refl
  kept_term f (node g ts) h = ap (node g) (kept_terms f ts h)

  kept_terms : (f : ℕ → Tree) (ts : Trees) → ((y : ℕ) → occurs_any y ts ≡ true → f y ≡ var y) → instances f ts ≡ ts
  kept_terms f none h = refl
  kept_terms f (more t ts) h =
      cc (kept_term f t (λ y k. h y (or_left (occurs y t) (occurs_any y ts) k)), kept_terms f ts (λ y k. h y (or_right (occurs y t) (occurs_any y ts) k)))

-- where nothing is bound
pub nothing_solved : IsSolved []
nothing_solved x y bound = absurd (true≢false (sym bound))

-- what is not bound stands for itself
pub unbound_stays : (s : Subst) (x : ℕ) → binds_var s x ≡ false → value_at s x ≡ var x
unbound_stays [] x h = refl
unbound_stays (p ∷ s) x h = let r = or_parts (p.0 == x) (binds_var s x) h in ap (λ (b : Bool). cond b p.1 (value_at s x)) r.0 ∙ unbound_stays s x r.1

-- a variable in what a variable stands for is not bound
inside_is_free : (s : Subst) → IsSolved s → (x y : ℕ) → occurs y (value_at s x) ≡ true → value_at s y ≡ var y
inside_is_free s h x y inside = by_test (binds_var s y) refl
  where
    by_test : (b : Bool) → binds_var s y ≡ b → value_at s y ≡ var y
    by_test true bound = absurd (true≢false (sym inside ∙ h x y bound))
    by_test false free = unbound_stays s y free

pub solved_twice : (s : Subst) → IsSolved s → Solves (value_at s) s
solved_twice s h x = kept_term (value_at s) (value_at s x) (inside_is_free s h x)

-- a variable that is bound does not stand for itself, and occurs in no term that stays
pub bound_moves : (s : Subst) → IsSolved s → (y : ℕ) → binds_var s y ≡ true → value_at s y ≡ var y → ⊥
bound_moves s h y bound e = true≢false (sym ((Decides-eqb y y).1 refl) ∙ ap (occurs y) (sym e) ∙ h y y bound)

pub bound_absent : (s : Subst) → IsSolved s → (y : ℕ) (t : Tree) → binds_var s y ≡ true → apply s t ≡ t → occurs y t ≡ false
bound_absent s h y t bound e = false_from_ne_true (occurs y t) (λ inside. bound_moves s h y bound (kept_var (value_at s) y t e inside))

pub solved_law : SolvedLaw
solved_law = record {
  twice = solved_twice;
  enough = λ s h moves x y bound. false_from_ne_true (occurs y (value_at s x)) (λ inside. moves y bound (kept_var (value_at s) y (value_at s x) (h x) inside));
}
