use Rattle.std.proofs.Common.{◌≡◌, ◌≤◌, ◌+◌, ◌++◌, vec_capacity, vec_len}
use Rattle.chr_board.specs.IsDesk.{tasks_at}
use Rattle.chr_board.specs.OfferedView.{offered_view}
use Rattle.chr_board.proofs.offered_task.push_tasks.Given as goal

abbrev pub invariant-loop-index : goal.invariant-loop-index
invariant-loop-index g l =
    (offered_view l.offered.items ≡ offered_view l.initial.offered.items ++ tasks_at l.place 0 l.index)
    × (vec_len l.offered ≡ vec_len l.initial.offered + l.index)
    × (vec_len l.initial.offered + l.tasks ≤ vec_capacity l.offered)
