use Rattle.std.proofs.Common.{◌+◌, ◌*◌}
use Rattle.chr_map.specs.Entries.{subtree_seen, node_seen}
use Rattle.chr_map.proofs.taking.+take_last.Given as goal

abbrev pub decreases-take_last : goal.decreases-take_last
decreases-take_last g l = 3 * (subtree_seen l.subtree.now).nodes + 2

abbrev pub decreases-take_last_below : goal.decreases-take_last_below
decreases-take_last_below g l = 3 * (node_seen l.node.now).nodes + 1
