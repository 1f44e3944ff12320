-- Plain facts of options and truth values.
use Rattle.std.proofs.Common.{◌≡◌, Bool, true, false, refl, sym}
use Rattle.std.specs.Prelude.{Option, Some, None}

-- equal options have equal values
pub some_same : {X : Type 0} (x y : X) → ◌≡◌ {A = Option X} (Some x) (Some y) → x ≡ y
some_same x y e = cc

-- some value is not none
pub some_none : {X : Type 0} (x : X) → ◌≡◌ {A = Option X} (Some x) None → ⊥
some_none x e = cc

-- two truth values that follow from each other
pub bools_agree : (a b : Bool) → (a ≡ true → b ≡ true) → (b ≡ true → a ≡ true) → a ≡ b
bools_agree true d f h = sym (f refl)
bools_agree false true f h = h refl
bools_agree false false f h = refl
