use Rattle.std.proofs.Common.{◌≡◌, vec_len}
use Rattle.chr_bind.specs.Chains.{links_before}
use Rattle.chr_bind.proofs.unification.undo.Given as goal

abbrev pub decreases-loop-place : goal.decreases-loop-place
decreases-loop-place g l = vec_len l.before

abbrev pub invariant-loop-place : goal.invariant-loop-place
invariant-loop-place g l = links_before l.before.items l.links ≡ links_before l.fn.before.items l.fn.links
