use Rattle.std.proofs.Common.{◌∙◌}
use Rattle.chr_store.specs.declared.lists.Look.TheVariants.{Keyed}
use Rattle.chr_store.proofs.store.Store.rows_keyed.Goals as goal

pub returns : goal.returns
returns g c = c.of.ensures.ids ∙ c.args.self.now.listed (Keyed c.args.sym c.args.key)
