use Rattle.std.proofs.Common.{◌∙◌}
use Rattle.chr_map.proofs.Changed.{resized_swaps}
use Rattle.chr_map.proofs.Parts.{rolled_room}
use Rattle.chr_map.proofs.node.Node.swap_tree.Goals as goal

pub returns-clause-swaps : goal.returns-clause-swaps
returns-clause-swaps g c = resized_swaps c.args.self.now c.exchange.new.self _ c.args.place c.args.tree.now c.exchange.new.tree c.exchange.ensures.swaps

pub returns-clause-room : goal.returns-clause-room
returns-clause-room g c = rolled_room _ ∙ c.exchange.ensures.room
