-- There is room for the answers to the tasks that are taken in.
use Rattle.std.proofs.Common.{◌≡◌, ◌∙◌, ◌+◌, ◌≤◌, List, ap, arith, length, map, refl, sym}
use Rattle.std.specs.Prelude.{vec_capacity}
use Rattle.chr_semantics.specs.Desk.{Desk, Serial}
use Rattle.chr_semantics.specs.declared.limits.TheConstants.{MAX_OFFERED_TASKS}
use Rattle.chr_board.specs.DeskView.{desk_view}
use Rattle.chr_board.specs.OfferedView.{offered_view, seat_of}
use Rattle.chr_board.proofs.Keeps.{offer_keeps, same_desk}
use Rattle.chr_board.proofs.desk.Desk.offer.Goals as goal

pub invariant_of-self : goal.invariant_of-self
invariant_of-self g c =
    let old = c.args.self.now in
    let d = c.room.new.self in
    let ss : List Serial = offered_view d.offered.items in
    let same : length ss ≡ length (offered_view old.offered.items) = ap (λ x. length x.serials) c.room.ensures.same in
    let few : length ss + c.args.tasks ≤ MAX_OFFERED_TASKS =
    omega (arith, same, c.in_ok-check.ensures.few) in
    record {
      is_desk = same_desk d.next (d.owed + c.args.tasks) (sym c.push_tasks.ensures) refl refl refl refl
          (offer_keeps ss d.next d.owed d.serials.items (map seat_of d.posted.items) (vec_capacity d.serials) (vec_capacity d.posted) d.is_desk c.args.place c.args.tasks
          (vec_capacity d.serials) (vec_capacity d.posted) few c.in-Ok.ensures.serials c.in-Ok.ensures.posted);
    }
