-- The least serial that waits is the next one.
use Rattle.std.proofs.Common.{◌≡◌, ◌∙◌, ◌&&◌, ◌+◌, ◌<◌, ◌≤◌, List, Some, None, ap, arith, length, map, refl, subst, sym, slice_get, true}
use Rattle.std.specs.Prelude.{vec_capacity}
use Rattle.std.proofs.lemmas.List.{length-map}
use Rattle.chr_semantics.specs.Desk.{Serial, is_slip_of, next_serial, out, with_phase}
use Rattle.chr_board.specs.DeskView.{desk_view}
use Rattle.chr_board.specs.IsDesk.{IsDesk}
use Rattle.chr_board.specs.OfferedView.{offered_task_view, offered_view, seat_of, slip_view}
use Rattle.chr_board.specs.declared.offered_task.OfferedTask.{OfferedTask}
use Rattle.chr_board.proofs.Keeps.{next_is, none_next, take_keeps}
use Rattle.chr_board.proofs.Slips.{none_taken, one_taken, open_next, task_at, slip_of_task}
use Rattle.chr_board.proofs.desk.Desk.take.Goals as goal

pub returns-then-self-len-clause-none : goal.returns-then-self-len-clause-none
returns-then-self-len-clause-none g c =
    let d = c.args.self.now in
    let ss : List Serial = offered_view d.offered.items in
    let past : length ss ≤ d.next = omega (arith, length-map d.offered.items offered_task_view, d.offered.ok.0, c.len.ensures, c.if-self-len.true) in
    open_next (desk_view d) c.if-self.false ∙ none_next ss d.next d.is_desk.waits_from d.is_desk.within past

pub returns-then-self-len-clause-state : goal.returns-then-self-len-clause-state
returns-then-self-len-clause-state g c =
    let d = c.args.self.now in
    let ss : List Serial = offered_view d.offered.items in
    let past : length ss ≤ d.next = omega (arith, length-map d.offered.items offered_task_view, d.offered.ok.0, c.len.ensures, c.if-self-len.true) in
    sym (none_taken (desk_view d) (open_next (desk_view d) c.if-self.false ∙ none_next ss d.next d.is_desk.waits_from d.is_desk.within past))

pub invariant_of-self : goal.invariant_of-self
invariant_of-self g c =
    let d = c.args.self.now in
    let ss : List Serial = offered_view d.offered.items in
    let before : d.next < length d.offered.items = omega (arith, d.offered.ok.0, c.len.ensures, c.if-self-len.false) in
    let lt : d.next < length ss = omega (arith, length-map d.offered.items offered_task_view, before) in
    let one = task_at d.offered.items d.next before in
    record {
      is_desk = subst (λ (tt : List Serial). IsDesk tt (d.next + 1) d.owed d.serials.items (map seat_of d.posted.items) (vec_capacity d.serials) (vec_capacity d.posted)) (sym c.move_to.ensures)
          (take_keeps ss d.next d.owed d.serials.items (map seat_of d.posted.items) (vec_capacity d.serials) (vec_capacity d.posted) d.is_desk one.0 one.1 lt);
    }

pub returns-clause-some : goal.returns-clause-some
returns-clause-some g c =
    let d = c.args.self.now in
    let ss : List Serial = offered_view d.offered.items in
    let lt : d.next < length ss = omega (arith, length-map d.offered.items offered_task_view, d.offered.ok.0, c.len.ensures, c.if-self-len.false) in
    open_next (desk_view d) c.if-self.false ∙ next_is ss d.next d.is_desk.waits_from lt

pub returns-clause-state : goal.returns-clause-state
returns-clause-state g c =
    let d = c.args.self.now in
    let ss : List Serial = offered_view d.offered.items in
    let lt : d.next < length ss = omega (arith, length-map d.offered.items offered_task_view, d.offered.ok.0, c.len.ensures, c.if-self-len.false) in
    let next : next_serial (desk_view d) ≡ Some d.next = open_next (desk_view d) c.if-self.false ∙ next_is ss d.next d.is_desk.waits_from lt in
    ap (λ (tt : List Serial). record (desk_view d) { serials = tt }) c.move_to.ensures ∙ sym (one_taken (desk_view d) d.next next)

pub returns-clause-slip : goal.returns-clause-slip
returns-clause-slip g c =
    let d = c.args.self.now in
    let ss : List Serial = offered_view d.offered.items in
    let before : d.next < length d.offered.items = omega (arith, d.offered.ok.0, c.len.ensures, c.if-self-len.false) in
    ap (λ (tt : List Serial). is_slip_of (record { serial = d.next; place = c.index.result.now.place; index = c.index.result.now.index }) (slice_get tt d.next)) c.move_to.ensures
    ∙ ap (λ (r : OfferedTask). is_slip_of (record { serial = d.next; place = r.place; index = r.index }) (slice_get (with_phase out ss d.next) d.next)) c.index.ensures
    ∙ slip_of_task d.offered.items d.next c.index.result.now before
