-- The task of the slip is out.
use Rattle.std.proofs.Common.{◌≡◌, ◌∙◌, ◌-◌, List, map, subst, sym, true}
use Rattle.std.specs.Prelude.{vec_capacity}
use Rattle.chr_semantics.specs.Desk.{Serial}
use Rattle.chr_board.specs.IsDesk.{IsDesk}
use Rattle.chr_board.specs.OfferedView.{offered_view, seat_of, slip_view}
use Rattle.chr_board.proofs.Keeps.{give_up_keeps, owed_some}
use Rattle.chr_board.proofs.Slips.{IsHeld, held_is}
use Rattle.chr_board.proofs.desk.Desk.give_up.Goals as goal

pub overflow_sub-self : goal.overflow_sub-self
overflow_sub-self g c =
    let d = c.args.self.now in
    let held : IsHeld (offered_view d.offered.items) (slip_view c.args.slip) = held_is _ _ (sym c.holds-held.ensures ∙ c.if-held.true) in
    owed_some _ _ _ _ _ _ _ d.is_desk c.args.slip.serial held.task held.is_there held.is_out

pub invariant_of-self : goal.invariant_of-self
invariant_of-self g c =
    let d = c.args.self.now in
    let held : IsHeld (offered_view d.offered.items) (slip_view c.args.slip) = held_is _ _ (sym c.holds-held.ensures ∙ c.if-held.true) in
    record {
      is_desk = subst (λ (ss : List Serial). IsDesk ss d.next (d.owed - 1) d.serials.items (map seat_of d.posted.items) (vec_capacity d.serials) (vec_capacity d.posted)) (sym c.move_to.ensures)
          (give_up_keeps _ _ _ _ _ _ _ d.is_desk c.args.slip.serial held.task held.is_there held.is_out);
    }
