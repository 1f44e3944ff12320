-- Which firings are entered.
use Rattle.std.specs.Prelude.{◌≡◌, ◌≢◌, AllPairs, false, true}
use Rattle.std.specs.List.{list_all}
use Rattle.chr_semantics.specs.Search.{fired_before}
use Rattle.chr_store.specs.declared.fired.Fired.{Fired}
use Rattle.chr_base.specs.Agreement.{is_alive}
use Rattle.chr_base.specs.Model.{BaseModel}

-- the constraints live and differ, and the rule has not fired with them
pub record CanEnter (b : BaseModel) (fired : Fired) : Type 0 where
  pub alive : list_all (is_alive b.store) fired.ids ≡ true
  pub different : AllPairs (λ i j. i ≢ j) fired.ids
  pub is_new : fired_before b.entries.list fired.rule fired.ids ≡ false
