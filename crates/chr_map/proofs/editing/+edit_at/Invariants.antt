use Rattle.std.proofs.Common.{◌+◌, ◌*◌}
use Rattle.chr_map.specs.Entries.{subtree_seen, node_seen}
use Rattle.chr_map.proofs.editing.+edit_at.Given as goal

abbrev pub decreases-edit_at : goal.decreases-edit_at
decreases-edit_at g l = 3 * (subtree_seen l.subtree.now).nodes + 2

abbrev pub decreases-edit_below : goal.decreases-edit_below
decreases-edit_below g l = 3 * (node_seen l.node.now).nodes + 1

abbrev pub decreases-edit_in : goal.decreases-edit_in
decreases-edit_in g l = 3 * (node_seen l.node.now).nodes
