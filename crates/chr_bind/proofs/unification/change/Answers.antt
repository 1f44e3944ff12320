use Rattle.std.proofs.lemmas.Option.{slice_get-get_or}
use Rattle.chr_bind.proofs.Changed.{set_back}
use Rattle.chr_bind.proofs.unification.change.Goals as goal

pub returns-clause-undone : goal.returns-clause-undone
returns-clause-undone c = set_back c.args.links.now c.args.place c.args.link _ (slice_get-get_or c.args.links.now c.args.place _ c.requires)
