-- What is noted of a search at a head of a rule.
use Rattle.std.proofs.Common.{◌≡◌, ◌++◌, ◌∷◌, [], List, ap, refl, suc, zero, ℕ}
use Rattle.std.specs.Prelude.{Vec}
use Rattle.chr_look.specs.CostView.{cost_at, cost_in}
use Rattle.chr_look.specs.declared.costs.HeadCost.{HeadCost}

-- a row without costs behind them is none more
pub rows_grown : {A : Type 0} (rows : List (Vec HeadCost A)) (v : Vec HeadCost A) (r k : ℕ) → v.items ≡ [] → cost_in (rows ++ v ∷ []) r k ≡ cost_in rows r k
rows_grown [] v zero k e = ap (λ (xs : List HeadCost). cost_at xs k) e
rows_grown [] v (suc r) k e = refl
rows_grown (x ∷ xs) v zero k e = refl
rows_grown (x ∷ xs) v (suc r) k e = rows_grown xs v r k e
