use Rattle.std.proofs.Common.{◌+◌}
use Rattle.chr_semantics.specs.Subst.{apply, instances, value_at}
use Rattle.chr_term.specs.TermView.{view, trees_view}
use Rattle.chr_bind.specs.Chains.{subst_of}
use Rattle.chr_term.specs.Size.{size, size_all}
use Rattle.chr_bind.proofs.chains.Chains.+short_number.Given as goal

abbrev pub decreases-short_number : goal.decreases-short_number
decreases-short_number g l = size (apply (subst_of l.self.now) (view l.term.now))

abbrev pub decreases-short_node_number : goal.decreases-short_node_number
decreases-short_node_number g l = size_all (instances (value_at (subst_of l.self.now)) (trees_view l.args.now)) + 1
