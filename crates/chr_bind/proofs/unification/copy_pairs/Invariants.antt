use Rattle.std.proofs.Common.{◌≡◌, take}
use Rattle.chr_bind.specs.Chains.{lent_pairs, owned_pairs}
use Rattle.chr_bind.proofs.unification.copy_pairs.Given as goal

abbrev pub invariant-loop-pair : goal.invariant-loop-pair
invariant-loop-pair g l = owned_pairs l.items.items ≡ lent_pairs (take l.pair-index l.added)
