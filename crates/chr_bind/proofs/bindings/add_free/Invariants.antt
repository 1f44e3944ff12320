use Rattle.std.proofs.Common.{◌≡◌, ◌+◌, vec_capacity, vec_len}
use Rattle.chr_bind.specs.Chains.{IsSound, Pairs}
use Rattle.chr_bind.proofs.bindings.add_free.Given as goal

abbrev pub invariant-loop : goal.invariant-loop
invariant-loop g l =
    ((pairs : Pairs) → IsSound l.fn.links.items pairs → IsSound l.links.items pairs) × (vec_len l.links ≡ vec_len l.fn.links + l.counter) × (vec_capacity l.links ≡ vec_capacity l.fn.links)
