use Rattle.std.proofs.Common.{◌+◌, ◌*◌}
use Rattle.chr_map.specs.Entries.{subtree_seen, node_seen}
use Rattle.chr_map.proofs.taking.+take_out.Given as goal

abbrev pub decreases-take_out : goal.decreases-take_out
decreases-take_out g l = 3 * (subtree_seen l.subtree.now).nodes + 2

abbrev pub decreases-take_below : goal.decreases-take_below
decreases-take_below g l = 3 * (node_seen l.node.now).nodes + 1

abbrev pub decreases-take_in : goal.decreases-take_in
decreases-take_in g l = 3 * (node_seen l.node.now).nodes
