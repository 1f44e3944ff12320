use Rattle.std.proofs.Common.{◌≡◌, ◌∙◌, ◌+◌, ◌++◌, ◌∷◌, [], ap, ap₂, sym, arith, vec_len}
use Rattle.std.proofs.lemmas.List.{append_assoc, map-append}
use Rattle.std.specs.Prelude.{List}
use Rattle.chr_semantics.specs.Desk.{Serial, waiting}
use Rattle.chr_board.specs.IsDesk.{tasks_at}
use Rattle.chr_board.specs.OfferedView.{offered_task_view, offered_view}
use Rattle.chr_board.proofs.Keeps.{tasks_at-next}
use Rattle.chr_board.proofs.offered_task.push_tasks.Goals as goal

pub loop-index-preserved : goal.loop-index-preserved
loop-index-preserved g c =
    let old : List Serial = offered_view c.args.offered.now.items in
    let front : List Serial = tasks_at c.args.place 0 c.loop-index.index in
    let one : Serial = record { place = c.args.place; index = c.loop-index.index; phase = waiting } in (
      ap offered_view c.push_reserved.ensures.items ∙ map-append offered_task_view c.loop-index.offered.items (_ ∷ []) ∙ ap (λ xs. xs ++ one ∷ []) c.loop-index.invariant.0 ∙ append_assoc old front (one ∷ [])
          ∙ ap (λ xs. old ++ xs) (sym (tasks_at-next c.args.place c.loop-index.index)),
      omega (arith, c.push_reserved.ensures.len, c.loop-index.invariant.1),
      omega (arith, c.push_reserved.ensures.capacity, c.loop-index.invariant.2),
    )
