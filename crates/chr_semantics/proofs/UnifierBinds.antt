-- A unifier binds what was bound, and beside that only variables of the two terms.
use Rattle.std.proofs.Common.{Bool, List, None, Option, Some, [], ap, cond, false, inl, inr, refl, subst, suc, sym, true, true≢false, zero, ℕ, ◌++◌, ◌||◌, ◌==◌, ◌∙◌, ◌∷◌, ◌≡◌, ◌⊎◌}
use Rattle.std.specs.List.{list_any}
use Rattle.std.proofs.lemmas.Bool.{or_cases}
use Rattle.std.proofs.lemmas.Bool.Decides.{Decides-eqb}
use Rattle.chr_semantics.specs.Mgu.{Equations, apart, apart_under, elimination, elimination_from, mgu, vars}
use Rattle.chr_semantics.specs.Subst.{Subst, apply, binds_var, occurs, with_binding}
use Rattle.chr_semantics.specs.Tree.{Tree}
use Rattle.chr_semantics.proofs.UnifierEqual.{binds_more}
use Rattle.chr_semantics.proofs.UnifierGeneral.{gives_step}
use Rattle.chr_semantics.proofs.UnifierNone.{Fine, FineIn, Has, Has-left, Has-right, Has-within, absent_in, apart_fine, fine_under, vars_in, without}

-- the eliminations bind only variables of the equations
elimination_binds : (n : ℕ) (s : Subst) (es : Equations) (vs : List ℕ) (r : Subst) → Fine vs es → elimination n s es ≡ Some r → (y : ℕ) → binds_var r y ≡ true → (binds_var s y ≡ true) ⊎ Has y vs
elimination_binds n s [] vs r fine is y bound = let same : s ≡ r = cc in inl (ap (λ (w : Subst). binds_var w y) same ∙ bound)
elimination_binds zero s (e ∷ es) vs r fine is y bound = cc
elimination_binds (suc n) s (e ∷ es) vs r fine is y bound =
    let x = e.0 in
    let u = e.1 in
    let w = gives_step n s e r (occurs e.0 e.1) (apart_under ((e.0, e.1) ∷ []) es) is in
    let later = fine_under x u vs es (absent_in x vs u w.0 fine.1) fine.3 in
    by_case (elimination_binds n (with_binding x u s) w.1.0 (without x vs) r (subst (FineIn (without x vs)) w.1.1 later) w.1.2 y bound)
  where
    first : (e.0 == y) ≡ true → Has y vs
    first e0 = let same : e.0 ≡ y = (Decides-eqb e.0 y).0 e0 in subst (λ (z : ℕ). Has z vs) same fine.0

    by_case : (binds_var (with_binding e.0 e.1 s) y ≡ true) ⊎ Has y (without e.0 vs) → (binds_var s y ≡ true) ⊎ Has y vs
    by_case (inl b) = elim (or_cases (e.0 == y) (binds_var s y) (sym (binds_more e.0 y e.1 s) ∙ b)) [ inl e0 ↦ inr (first e0) | inr old ↦ inl old ]
    by_case (inr h) = inr (Has-within e.0 y vs h)

from_binds : (n : ℕ) (s : Subst) (o : Option Equations) (vs : List ℕ) (r : Subst) → FineIn vs o → elimination_from n s o ≡ Some r → (y : ℕ) → binds_var r y ≡ true → (binds_var s y ≡ true) ⊎ Has y vs
from_binds n s None vs r fine is = cc
from_binds n s (Some es) vs r fine is = elimination_binds n s es vs r fine is

-- a variable that a unifier binds was bound, or stands in one of the terms under what was bound
mgu_binds : (s : Subst) (a b : Tree) (r : Subst) → mgu s a b ≡ Some r → (y : ℕ) → binds_var r y ≡ true → (binds_var s y ≡ true) ⊎ Has y (vars (apply s a) ++ vars (apply s b))
unfolding mgu
mgu_binds s a b r is =
    let vs = vars (apply s a) ++ vars (apply s b) in
    from_binds _ s (apart (apply s a) (apply s b)) vs r
    (apart_fine vs (apply s a) (apply s b) (vars_in vs (apply s a) (λ y h. Has-left y (vars (apply s a)) (vars (apply s b)) h)) (vars_in vs (apply s b) (λ y h. Has-right y (vars (apply s a)) (vars (apply s b)) h))) is

Has-any : (y : ℕ) (vs : List ℕ) → Has y vs → list_any (λ (v : ℕ). v == y) vs ≡ true
Has-any y [] h = absurd h
Has-any y (v ∷ vs) (inl e) = rw ((Decides-eqb v y).1 (sym e)) refl
Has-any y (v ∷ vs) (inr h) = right (v == y) (Has-any y vs h)
  where
    right : (b : Bool) {c : Bool} → c ≡ true → (b || c) ≡ true
    right true e = refl
    right false e = e

pub unifier_binds : (s : Subst) (a b : Tree) (r : Subst) → mgu s a b ≡ Some r → (y : ℕ) → binds_var r y ≡ true → (binds_var s y || list_any (λ (v : ℕ). v == y) (vars (apply s a) ++ vars (apply s b))) ≡ true
unifier_binds s a b r is y bound = by_case (mgu_binds s a b r is y bound)
  where
    by_case : (binds_var s y ≡ true) ⊎ Has y (vars (apply s a) ++ vars (apply s b)) → (binds_var s y || list_any (λ (v : ℕ). v == y) (vars (apply s a) ++ vars (apply s b))) ≡ true
    by_case (inl e) = rw e refl
    by_case (inr h) = right (binds_var s y) (Has-any y _ h)
      where
        right : (b : Bool) {c : Bool} → c ≡ true → (b || c) ≡ true
        right true e = refl
        right false e = e
