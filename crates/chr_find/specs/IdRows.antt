-- Rows by their identities.
use Rattle.std.specs.Coded.{Coded, code_by, coded×, coded_list, coded_ℕ}
use Rattle.std.specs.Prelude.{◌≡◌, ℕ, List, [], ◌∷◌, refl}
use Rattle.std.specs.declared.cmp.Ordering.{Ordering}
use Rattle.chr_semantics.specs.Match as semantics
use Rattle.chr_semantics.specs.Tree.{Trees}
use Rattle.chr_store.specs.Rows.{row_atom}
use Rattle.chr_store.specs.contracts.id.IdOrd.TheImpl.{ghosts}
use Rattle.chr_store.specs.declared.id.Id.{Id}
use Rattle.chr_store.specs.declared.row.Row.{Row}
use Rattle.chr_term.specs.Code.{trees_code}

abbrev pub id_cmp : Id → Id → Ordering
id_cmp = ghosts.cmp

-- as values that are told apart
abbrev id_code : Coded Id
id_code = code_by ℕ coded_ℕ (λ i. i.0) (λ n. record { 0 = n }) (λ _. refl)

module _ {A : Type 0} where
  abbrev row_code : Coded (Row A)
  row_code = code_by (ℕ × Trees) (coded× coded_ℕ trees_code) (λ r. (r.sym.0, r.args)) (λ p. record { sym = record { 0 = p.0 }; args = p.1 }) (λ _. refl)

  abbrev pub id_rows_code : Coded (List (Id × Row A))
  id_rows_code = coded_list (coded× id_code row_code)

  -- as the semantics have them
  abbrev pub id_rows : List (Id × Row A) → List semantics.Row
  id_rows [] = []
  id_rows (e ∷ es) = (e.0.0, row_atom e.1) ∷ id_rows es

  -- the row of the identity is the only one
  abbrev pub IsOnly : ℕ → List (Id × Row A) → Type 0
  IsOnly i es = (e : Id × Row A) × (es ≡ e ∷ []) × (e.0.0 ≡ i)
