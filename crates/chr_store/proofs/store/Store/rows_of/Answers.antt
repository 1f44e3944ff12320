use Rattle.std.proofs.Common.{◌∙◌}
use Rattle.chr_store.specs.declared.lists.Look.TheVariants.{Symbol}
use Rattle.chr_store.proofs.store.Store.rows_of.Goals as goal

pub returns : goal.returns
returns g c = c.of.ensures.ids ∙ c.args.self.now.listed (Symbol c.args.sym)
