use Rattle.chr_map.specs.Entries.{subtree_seen}
use Rattle.chr_map.proofs.search.+found.Given as goal

abbrev pub decreases-found : goal.decreases-found
decreases-found g l = (subtree_seen l.subtree.now).nodes
