use Rattle.std.proofs.Common.{◌∙◌, ap, arith, set, sym}
use Rattle.chr_board.specs.OfferedView.{phase_view, offered_view}
use Rattle.chr_board.specs.declared.offered_task.OfferedTask.{OfferedTask}
use Rattle.chr_board.proofs.Phases.{moved, not_moved}
use Rattle.chr_board.proofs.offered_task.move_to.Goals as goal

pub returns-then-serial-len : goal.returns-then-serial-len
returns-then-serial-len g c =
    ap (λ (r : OfferedTask). offered_view (set c.args.offered.now.items c.args.serial (record r { phase = c.args.phase }))) c.index_mut.ensures.value
    ∙ moved c.args.offered.now.items c.args.serial c.index_mut.result.now c.args.phase (omega (arith, c.if-serial-len.true, c.len.ensures, c.args.offered.now.ok.0))

pub returns-else-serial-len : goal.returns-else-serial-len
returns-else-serial-len g c =
    sym (not_moved c.args.offered.now.items c.args.serial (phase_view c.args.phase) (omega (arith, c.if-serial-len.false, c.len.ensures, c.args.offered.now.ok.0)))
