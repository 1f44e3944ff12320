-- What contracts see of bindings.
use Rattle.std.specs.Prelude.{ℕ, refl}
use Rattle.std.specs.Coded.{Coded, code_by, coded×, coded_ℕ, coded_list}
use Rattle.chr_semantics.specs.Subst.{Subst}
use Rattle.chr_term.specs.Code.{tree_code}

-- how many variables there are, the solved substitution, and how many more variables take no memory
pub record BindingsValue : Type 0 where
  pub len : ℕ
  pub subst : Subst
  pub spare : ℕ

abbrev pub bindings_code : Coded BindingsValue
bindings_code =
    code_by (ℕ × (Subst × ℕ)) (coded× coded_ℕ (coded× (coded_list (coded× coded_ℕ tree_code)) coded_ℕ)) (λ b. (b.len, (b.subst, b.spare))) (λ p. record { len = p.0; subst = p.1.0; spare = p.1.1 }) (λ _. refl)
