use Rattle.std.proofs.Common.{◌+◌}
use Rattle.chr_semantics.specs.Subst.{apply, instances, value_at}
use Rattle.chr_term.specs.TermView.{view, trees_view}
use Rattle.chr_bind.specs.Chains.{subst_of}
use Rattle.chr_term.specs.Size.{size, size_all}
use Rattle.chr_bind.proofs.chains.Chains.+number.Given as goal

abbrev pub decreases-full_number : goal.decreases-full_number
decreases-full_number g l = size (apply (subst_of l.self.now) (view l.term.now))

abbrev pub decreases-node_number : goal.decreases-node_number
decreases-node_number g l = size_all (instances (value_at (subst_of l.self.now)) (trees_view l.args.now)) + 1
