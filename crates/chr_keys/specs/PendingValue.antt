-- Changes that are noted, as contracts see them.
use Rattle.std.specs.Prelude.{ℕ, List, refl}
use Rattle.std.specs.Coded.{Coded, code_by, coded×, coded_ℕ, coded_list}

-- those that are still to be made, and how many more can be noted
pub record PendingValue (C : Type 0) : Type 0 where
  pub left : List C
  pub room : ℕ

abbrev pub pending_code : {C : Type 0} → Coded C → Coded (PendingValue C)
pending_code {C} code = code_by (List C × ℕ) (coded× (coded_list code) coded_ℕ) (λ p. (p.left, p.room)) (λ p. record { left = p.0; room = p.1 }) (λ _. refl)
