use Rattle.std.proofs.Common.{◌≡◌, take}
use Rattle.chr_semantics.specs.Desk.{count_of}
use Rattle.chr_board.specs.OfferedView.{is_in, offered_view}
use Rattle.chr_board.proofs.offered_task.count.Given as goal

abbrev pub invariant-loop-task : goal.invariant-loop-task
invariant-loop-task l = l.count ≡ count_of (is_in l.phase) (offered_view (take l.task-index l.offered))
