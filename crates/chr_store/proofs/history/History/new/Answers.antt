use Rattle.chr_store.proofs.FiredRows.{shown_none}
use Rattle.chr_store.proofs.history.History.new.Goals as goal

pub returns : goal.returns
returns g c = shown_none _ _ c.new.ensures.empty c.new-2.ensures.counts
