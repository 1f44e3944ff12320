-- There are at most as many as there are offered tasks.
use Rattle.std.proofs.Common.{◌≤◌, arith, length, take}
use Rattle.std.proofs.lemmas.List.{length-map, length-take}
use Rattle.chr_board.specs.OfferedView.{is_in, offered_task_view, offered_view}
use Rattle.chr_board.proofs.Phases.{count_of-few}
use Rattle.chr_board.proofs.offered_task.count.Goals as goal

pub overflow_add-count : goal.overflow_add-count
overflow_add-count c =
    let seen = take c.loop-task.task-index c.args.offered.now in
    omega (arith, c.loop-task.invariant, count_of-few (is_in c.args.phase) (offered_view seen), length-map seen offered_task_view, length-take c.loop-task.task-index c.args.offered.now)
