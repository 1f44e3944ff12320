-- Arithmetic symbols have two arguments.
use Rattle.std.proofs.Common.{◌≡◌, ◌≤◌, ◌<◌, ℕ, List, [], ◌∷◌, true, false, length, nat_le, ◌&&◌, arith, refl}
use Rattle.chr_semantics.specs.Suspicion.{is_arithmetic}
use Rattle.chr_term.specs.TermView.{trees_view}
use Rattle.chr_term.specs.declared.term.Term.{Term}

pub of_two : {A : Type 0} (f : ℕ) (ts : List (Term A)) → length ts ≡ 2 → is_arithmetic f (trees_view ts) ≡ (nat_le 2 f && nat_le f 6)
of_two f [] e = absurd (omega (arith, e))
of_two f (t ∷ []) e = absurd (omega (arith, e))
of_two f (t ∷ u ∷ []) e = refl
of_two f (t ∷ u ∷ v ∷ ts) e = absurd (omega (arith, e))

pub of_two_from : {A : Type 0} (f : ℕ) (ts : List (Term A)) → length ts ≡ 2 → 2 ≤ f → nat_le f 6 ≡ is_arithmetic f (trees_view ts)
of_two_from f ts e le =
    let at_least : nat_le 2 f ≡ true = grind arith in
    rw (of_two f ts e, at_least) refl

pub of_few : {A : Type 0} (f : ℕ) (ts : List (Term A)) → length ts < 2 → false ≡ is_arithmetic f (trees_view ts)
of_few f [] lt = refl
of_few f (t ∷ []) lt = refl
of_few f (t ∷ u ∷ ts) lt = absurd (omega (arith, lt))

pub of_many : {A : Type 0} (f : ℕ) (ts : List (Term A)) → 2 < length ts → false ≡ is_arithmetic f (trees_view ts)
of_many f [] lt = absurd (omega (arith, lt))
of_many f (t ∷ []) lt = absurd (omega (arith, lt))
of_many f (t ∷ u ∷ []) lt = absurd (omega (arith, lt))
of_many f (t ∷ u ∷ v ∷ ts) lt = refl
