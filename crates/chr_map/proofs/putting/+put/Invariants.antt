use Rattle.std.proofs.Common.{◌+◌, ◌*◌}
use Rattle.chr_map.specs.Entries.{subtree_seen, node_seen}
use Rattle.chr_map.proofs.putting.+put.Given as goal

abbrev pub decreases-put_in_tree : goal.decreases-put_in_tree
decreases-put_in_tree g l = 3 * (subtree_seen l.subtree.now).nodes + 2

abbrev pub decreases-put_below : goal.decreases-put_below
decreases-put_below g l = 3 * (node_seen l.node.now).nodes + 1

abbrev pub decreases-put_at : goal.decreases-put_at
decreases-put_at g l = 3 * (node_seen l.node.now).nodes
