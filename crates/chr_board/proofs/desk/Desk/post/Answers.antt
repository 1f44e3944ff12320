-- The task of the slip is out, and the answer is one to it.
use Rattle.std.proofs.Common.{◌≡◌, ◌∙◌, ◌-◌, ◌<◌, ◌≤◌, ◌++◌, ◌∷◌, [], List, ap, ap₂, arith, cond, length, map, subst, sym, true}
use Rattle.std.specs.Prelude.{ℕ, vec_capacity, vec_len}
use Rattle.std.specs.List.{zip}
use Rattle.std.proofs.lemmas.List.{map-append}
use Rattle.chr_semantics.specs.Desk.{Desk, Serial, posted, with_phase}
use Rattle.chr_board.specs.DeskView.{desk_view}
use Rattle.chr_board.specs.IsDesk.{IsDesk, seat}
use Rattle.chr_board.specs.OfferedView.{offered_view, seat_of, slip_view}
use Rattle.chr_board.proofs.Keeps.{owed_some, post_keeps, same_desk}
use Rattle.chr_board.proofs.Slips.{IsHeld, as_many, held_is, posted_is, zip-snoc}
use Rattle.chr_board.proofs.desk.Desk.post.Goals as goal

pub overflow_sub-self : goal.overflow_sub-self
overflow_sub-self g c =
    let d = c.args.self.now in
    let held : IsHeld (offered_view d.offered.items) (slip_view c.args.slip) = held_is _ _ (sym c.holds-held.ensures ∙ c.if-held.true) in
    owed_some _ _ _ _ _ _ _ d.is_desk c.args.slip.serial held.task held.is_there held.is_out

pub push_reserved-requires : goal.push_reserved-requires
push_reserved-requires g c =
    let d = c.args.self.now in
    let held : IsHeld (offered_view d.offered.items) (slip_view c.args.slip) = held_is _ _ (sym c.holds-held.ensures ∙ c.if-held.true) in
    let some = owed_some _ _ _ _ _ _ _ d.is_desk c.args.slip.serial held.task held.is_there held.is_out in
    omega (arith, some, d.is_desk.post_room)

pub push_reserved-requires-then-held : goal.push_reserved-requires-then-held
push_reserved-requires-then-held g c =
    let d = c.args.self.now in
    let held : IsHeld (offered_view d.offered.items) (slip_view c.args.slip) = held_is _ _ (sym c.holds-held.ensures ∙ c.if-held.true) in
    let some = owed_some _ _ _ _ _ _ _ d.is_desk c.args.slip.serial held.task held.is_there held.is_out in
    omega (arith, some, as_many seat_of _ _ _ _ _ _ _ d.is_desk, d.is_desk.answer_room)

pub invariant_of-self : goal.invariant_of-self
invariant_of-self g c =
    let d = c.args.self.now in
    let held : IsHeld (offered_view d.offered.items) (slip_view c.args.slip) = held_is _ _ (sym c.holds-held.ensures ∙ c.if-held.true) in
    let of_slip : seat held.task ≡ seat_of c.args.answer = held.seat_is ∙ ap₂ (λ x y. (x, y)) (sym c.requires.place) (sym c.requires.index) in
    record {
      is_desk = same_desk d.next (d.owed - 1) (sym c.move_to.ensures) (sym c.push_reserved.ensures.items)
          (ap (λ x. map seat_of d.posted.items ++ x ∷ []) of_slip ∙ sym (map-append seat_of d.posted.items (c.args.answer ∷ [])) ∙ ap (map seat_of) (sym c.push_reserved-then-held.ensures.items))
          (sym c.push_reserved.ensures.capacity) (sym c.push_reserved-then-held.ensures.capacity)
          (post_keeps _ _ _ _ _ _ _ d.is_desk c.args.slip.serial held.task held.is_there held.is_out);
    }

pub returns-then-held : goal.returns-then-held
returns-then-held g c =
    let d = c.args.self.now in
    let w = slip_view c.args.slip in
    let many : length d.serials.items ≡ length d.posted.items = as_many seat_of _ _ _ _ _ _ _ d.is_desk in
    let posts : zip c.push_reserved.new.self.items c.push_reserved-then-held.new.self.items ≡ zip d.serials.items d.posted.items ++ (w.serial, c.args.answer) ∷ [] =
    ap₂ zip c.push_reserved.ensures.items c.push_reserved-then-held.ensures.items ∙ zip-snoc d.serials.items d.posted.items w.serial c.args.answer many in
    posted_is (desk_view d) w c.args.answer _ _ (sym c.holds-held.ensures ∙ c.if-held.true) c.move_to.ensures posts
