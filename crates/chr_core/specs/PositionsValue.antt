-- What contracts see of the positions of the answers to one task.
use Rattle.std.specs.Prelude.{ℕ, List, Option, refl}
use Rattle.std.specs.Coded.{Coded, code_by, coded×, coded_ℕ, coded_list, coded_option}

-- the newest one of a stored constraint's task, those of a guest's, and how many more of these take no memory
pub record PositionsValue : Type 0 where
  pub row : Option ℕ
  pub guests : List ℕ
  pub spare : ℕ

abbrev pub positions_code : Coded PositionsValue
positions_code = code_by (Option ℕ × (List ℕ × ℕ)) (coded× (coded_option coded_ℕ) (coded× (coded_list coded_ℕ) coded_ℕ)) (λ v. (v.row, (v.guests, v.spare))) (λ p. record { row = p.0; guests = p.1.0; spare = p.1.1 }) (λ _. refl)
