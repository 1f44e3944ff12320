-- The offered tasks, the slips and the totals of a desk, as the definitions see them.
use Rattle.std.specs.Prelude.{ℕ, Bool, List, map}
use Rattle.chr_semantics.specs.Desk as semantics
use Rattle.chr_semantics.specs.Desk.{Serial, is_waiting, is_out, is_given_up, is_posted, is_drained}
use Rattle.chr_shelf.specs.declared.answer.Answer.{Answer}
use Rattle.chr_shelf.specs.declared.run.RunName.{Ghosts}
use Rattle.chr_shelf.specs.Seat.{index_of, place_of, ticket_of}
use Rattle.chr_board.specs.declared.offered_task.Phase.{Phase}
use Rattle.chr_board.specs.declared.offered_task.Phase.TheVariants.{Waiting, Out, GivenUp, Posted, Drained}
use Rattle.chr_board.specs.declared.offered_task.OfferedTask.{OfferedTask}
use Rattle.chr_board.specs.declared.slip.Slip.{Slip}
use Rattle.chr_board.specs.declared.totals.Totals.{Totals}

abbrev pub phase_view : Phase → semantics.Phase
phase_view Waiting = semantics.waiting
phase_view Out = semantics.out
phase_view GivenUp = semantics.given_up
phase_view Posted = semantics.posted
phase_view Drained = semantics.drained

-- whether a serial is in this phase
abbrev pub is_in : Phase → Serial → Bool
is_in Waiting s = is_waiting s
is_in Out s = is_out s
is_in GivenUp s = is_given_up s
is_in Posted s = is_posted s
is_in Drained s = is_drained s

abbrev pub offered_task_view : OfferedTask → Serial
offered_task_view r = record { place = r.place; index = r.index; phase = phase_view r.phase }

abbrev pub offered_view : List OfferedTask → List Serial
offered_view offered = map offered_task_view offered

abbrev pub slip_view : Slip → semantics.Slip
slip_view s = record { serial = s.serial; place = s.place; index = s.index }

abbrev pub totals_view : Totals → semantics.Totals
totals_view t = record {
  put = t.put;
  taken = t.taken;
  posted = t.posted;
  given_up = t.given_up;
  drained = t.drained;
  waiting = t.waiting;
  left = t.left;
}

module _ {J A : Type 0} {G : Ghosts J} where
  -- the place and the index of the task that an answer is of
  abbrev pub seat_of : Answer J A G → ℕ × ℕ
  seat_of a = (place_of (ticket_of a), index_of a)
