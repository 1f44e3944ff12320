use Rattle.std.proofs.Common.{◌≡◌, ℕ, ◌+◌, length}
use Rattle.chr_semantics.specs.Mgu.{elimination_from}
use Rattle.chr_bind.specs.Agenda.{IsBelowAgenda, rest_apart}
use Rattle.chr_bind.specs.Chains.{IsSound, free_count, pairs_in, solution, links_before}
use Rattle.chr_bind.proofs.unification.make_rest_equal.Given as goal

abbrev pub decreases-loop-binding : goal.decreases-loop-binding
decreases-loop-binding g l = free_count l.links

abbrev pub invariant-loop-binding : goal.invariant-loop-binding
invariant-loop-binding g l =
    let first = solution (pairs_in l.made l.fn.progress.added.items) in
    let now = solution (pairs_in l.made l.progress.added.items) in
    IsSound l.links (pairs_in l.made l.progress.added.items)
    × IsBelowAgenda (length l.links) l.agenda.items
    × (links_before l.progress.before.items l.links ≡ links_before l.fn.progress.before.items l.fn.links)
    × (k : ℕ) × (length l.progress.added.items ≡ length l.fn.progress.added.items + k) × ((m : ℕ) → elimination_from (m + k) first (rest_apart first l.fn.agenda.items) ≡ elimination_from m now (rest_apart now l.agenda.items))
