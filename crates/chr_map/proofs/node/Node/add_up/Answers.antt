use Rattle.chr_map.proofs.Changed.{none_up}
use Rattle.chr_map.proofs.node.Node.add_up.Goals as goal

pub returns-in-None : goal.returns-in-None
returns-in-None g c = none_up c.args.self.now c.args.place c.args.up c.in-None.is
