-- Lemmas on tests.
use Rattle.std.proofs.Common.{◌≡◌, ℕ, Bool, true, false, ◌||◌, ◌==◌, refl, ◌∙◌, sym, true≢false}
use Rattle.std.proofs.lemmas.Bool.Decides.{Decides-eqb}

-- a number against another, and the other way round
pub eqb_sym : (x y : ℕ) → (x == y) ≡ (y == x)
eqb_sym x y = both (x == y) (y == x) refl refl
  where
    both : (b c : Bool) → (x == y) ≡ b → (y == x) ≡ c → b ≡ c
    both true true e f = refl
    both false false e f = refl
    both true false e f = absurd (true≢false (sym ((Decides-eqb y x).1 (sym ((Decides-eqb x y).0 e))) ∙ f))
    both false true e f = absurd (true≢false (sym ((Decides-eqb x y).1 (sym ((Decides-eqb y x).0 f))) ∙ e))

-- nothing added, added on the other side, and added to both
pub or_false : (x : Bool) → x ≡ (x || false)
or_false true = refl
or_false false = refl

pub or_turned : (x y : Bool) → (x || y) ≡ (y || x)
or_turned true true = refl
or_turned true false = refl
or_turned false true = refl
or_turned false false = refl

pub or_assoc : (x y z : Bool) → (x || (y || z)) ≡ ((x || y) || z)
or_assoc true y z = refl
or_assoc false y z = refl
