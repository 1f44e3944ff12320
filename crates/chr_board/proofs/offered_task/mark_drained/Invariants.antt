use Rattle.std.proofs.Common.{◌≡◌, take}
use Rattle.chr_board.specs.IsDesk.{marked}
use Rattle.chr_board.specs.OfferedView.{offered_view}
use Rattle.chr_board.proofs.offered_task.mark_drained.Given as goal

abbrev pub invariant-loop-serial : goal.invariant-loop-serial
invariant-loop-serial g l = offered_view l.offered.items ≡ marked (offered_view l.initial.offered.items) (take l.serial-index l.serials)
