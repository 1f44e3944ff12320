-- A firing as a value.
use Rattle.std.specs.Prelude.{ℕ, List, refl}
use Rattle.std.specs.Coded.{Coded, code_by, coded×, coded_ℕ, coded_list}
use Rattle.chr_store.specs.declared.fired.Fired.{Fired}

abbrev pub fired_code : Coded Fired
fired_code = code_by (ℕ × List ℕ) (coded× coded_ℕ (coded_list coded_ℕ)) (λ f. (f.rule, f.ids)) (λ p. record { rule = p.0; ids = p.1 }) (λ _. refl)
