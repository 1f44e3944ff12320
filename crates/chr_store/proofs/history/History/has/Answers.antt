use Rattle.std.proofs.Common.{◌∙◌}
use Rattle.chr_store.proofs.FiredRows.{fired_among}
use Rattle.chr_store.proofs.history.History.has.Goals as goal

pub returns : goal.returns
returns g c = c.contains.ensures ∙ fired_among c.args.fired.now c.args.self.now.entries.keys
