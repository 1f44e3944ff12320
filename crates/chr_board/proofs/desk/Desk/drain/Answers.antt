-- All posts are handed over, and their serials are marked.
use Rattle.std.proofs.Common.{◌≡◌, ◌∙◌, ◌++◌, [], List, ap, ap₂, arith, length, map, sym}
use Rattle.std.specs.Prelude.{vec_capacity}
use Rattle.std.specs.List.{zip}
use Rattle.std.proofs.lemmas.Slice.Zip.{seconds-zip}
use Rattle.chr_semantics.specs.Desk.{Serial, handed_over}
use Rattle.chr_board.specs.DeskView.{desk_view}
use Rattle.chr_board.specs.IsDesk.{marked}
use Rattle.chr_board.specs.OfferedView.{offered_view, seat_of}
use Rattle.chr_board.proofs.Keeps.{drain_keeps, same_desk}
use Rattle.chr_board.proofs.Marks.{marked_is}
use Rattle.chr_board.proofs.Slips.{as_many, drained_is, length-zip-same}
use Rattle.chr_board.proofs.desk.Desk.drain.Goals as goal

pub invariant_of-self-2 : goal.invariant_of-self-2
invariant_of-self-2 g c =
    let d = c.args.self.now in
    let ss : List Serial = offered_view d.offered.items in
    let offered : offered_view c.mark_drained.new.offered.items ≡ map handed_over ss =
    c.mark_drained.ensures ∙ ap (marked ss) c.as_slice.ensures.value ∙ marked_is d.serials.items ss d.is_desk.posts_are in
    record {
      is_desk = same_desk d.next d.owed (sym offered) (sym c.clear.ensures.items) (ap (map seat_of) (sym c.in_ok-append.ensures.other_items)) (sym c.clear.ensures.capacity)
          (sym c.in_ok-append.ensures.other_capacity) (drain_keeps _ _ _ _ _ _ _ d.is_desk);
    }

pub returns-clause-ok : goal.returns-clause-ok
returns-clause-ok g c =
    let d = c.args.self.now in
    let ss : List Serial = offered_view d.offered.items in
    let many : length d.serials.items ≡ length d.posted.items = as_many seat_of _ _ _ _ _ _ _ d.is_desk in
    let offered : offered_view c.mark_drained.new.offered.items ≡ map handed_over ss =
    c.mark_drained.ensures ∙ ap (marked ss) c.as_slice.ensures.value ∙ marked_is d.serials.items ss d.is_desk.posts_are in (
      c.in_ok-append.ensures.items ∙ ap (λ xs. c.args.into.now.items ++ xs) (sym (seconds-zip d.serials.items d.posted.items (sym many))),
      drained_is (desk_view d) _ _ offered (ap₂ zip c.clear.ensures.items c.in_ok-append.ensures.other_items),
    )

pub returns-clause-count : goal.returns-clause-count
returns-clause-count g c =
    let d = c.args.self.now in
    let many : length d.serials.items ≡ length d.posted.items = as_many seat_of _ _ _ _ _ _ _ d.is_desk in
    omega (arith, c.len-count.ensures, d.posted.ok.0, length-zip-same d.serials.items d.posted.items many)
