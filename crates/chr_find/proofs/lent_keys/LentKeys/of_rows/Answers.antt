use Rattle.std.proofs.Common.{◌∙◌, List, Some, ap, arith, refl}
use Rattle.std.proofs.lemmas.List.{take_all}
use Rattle.chr_keys.specs.PendingKeysView.{is_listed}
use Rattle.chr_semantics.specs.Search.{atom_of}
use Rattle.chr_store.specs.Rows.{row_atom}
use Rattle.chr_find.specs.LentKeysView.{is_keyed_at}
use Rattle.chr_find.specs.Rebinding.{standing_rows}
use Rattle.chr_find.specs.declared.lent_keys.LentKeys.{LentKeys}
use Rattle.chr_find.specs.declared.constraint.Constraint.{Constraint}
use Rattle.chr_find.proofs.KeyedTables.{listed_more, of_some}
use Rattle.chr_find.proofs.lent_keys.LentKeys.of_rows.Goals as goal

pub loop-standing-preserved : goal.loop-standing-preserved
loop-standing-preserved g c = (
  c.in_ok-settle.ensures.ok,
  λ f k i.
      let s : Constraint g.row.A.Denot = c.standing-item.result in
      listed_more c.args.rows.now c.loop-standing.standing-index s c.requires (omega (arith, c.loop-standing-test.true)) c.standing-item.is (row_atom s.row) (is_listed c.room.new.self f k i) (is_listed c.settle.new.self f k i) f k i
      refl (c.in_ok-room.ensures.same f k i ∙ c.loop-standing.invariant.1 f k i) (c.in_ok-settle.ensures.same f k i ∙ c.note.ensures.listed f k i),
)

pub returns-clause-lists : goal.returns-clause-lists
returns-clause-lists g c =
    let d : LentKeys g.row.A.Denot = record { keys = Some c.loop-standing.keys } in
    let l : List (Constraint g.row.A.Denot) = c.args.rows.now in
    of_some _ d c.loop-standing.keys refl
    (λ f k i. c.loop-standing.invariant.1 f k i ∙ ap (λ (m : List (Constraint g.row.A.Denot)). is_keyed_at (atom_of (standing_rows m) i) f k) (take_all c.loop-standing.standing-index l (omega (arith, c.loop-standing-test.false))))
