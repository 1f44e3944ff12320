-- Lists with a value for each place, and a default past their end.
use Rattle.std.proofs.Common.{◌≡◌, ◌∙◌, ◌<◌, ◌++◌, ◌∷◌, ◌==◌, ◌⊎◌, [], inl, inr, List, ap, cond, get_or, length, refl, set, suc, sym, zero, ℕ}
use Rattle.std.proofs.lemmas.Bool.{cases_eq, eq-eqb, ne_eqb}
use Rattle.std.proofs.lemmas.List.{get_or-set_other, get_or-set_same}

-- the default put behind them is none more
pub grown : {X : Type 0} (xs : List X) (k : ℕ) (d : X) → get_or (xs ++ d ∷ []) k d ≡ get_or xs k d
grown [] zero d = refl
grown [] (suc k) d = refl
grown (x ∷ xs) zero d = refl
grown (x ∷ xs) (suc k) d = grown xs k d

-- where one is written
pub written : {X : Type 0} (xs : List X) (h k : ℕ) (v d : X) → h < length xs → get_or (set xs h v) k d ≡ cond (h == k) v (get_or xs k d)
written xs h k v d l = by (cases_eq h k)
  where
    by : (h ≡ k) ⊎ (h ≡ k → ⊥) → get_or (set xs h v) k d ≡ cond (h == k) v (get_or xs k d)
    by (inl e) = rw (eq-eqb h k e) (ap (λ j. get_or (set xs h v) j d) (sym e) ∙ get_or-set_same xs h v d l)
    by (inr n) = rw (ne_eqb h k n) (get_or-set_other xs h k v d (λ e. n (sym e)))
