-- What contracts see of a list of identities.
use Rattle.std.specs.Prelude.{ℕ, List, refl}
use Rattle.std.specs.Coded.{Coded, code_by, coded×, coded_ℕ, coded_list}

-- the identities, and how many more take no memory
pub record IdsValue : Type 0 where
  pub ids : List ℕ
  pub spare : ℕ

abbrev pub ids_code : Coded IdsValue
ids_code = code_by (List ℕ × ℕ) (coded× (coded_list coded_ℕ) coded_ℕ) (λ v. (v.ids, v.spare)) (λ p. record { ids = p.0; spare = p.1 }) (λ _. refl)
