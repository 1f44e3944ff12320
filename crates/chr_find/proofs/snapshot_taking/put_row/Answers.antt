use Rattle.std.proofs.Common.{◌∙◌, ◌==◌, Some, ap, cond}
use Rattle.chr_store.specs.Rows.{row_atom}
use Rattle.chr_find.proofs.snapshot_taking.put_row.Goals as goal

pub add-requires-clause-absent : goal.add-requires-clause-absent
add-requires-clause-absent g c = c.in_ok-room.ensures.same c.args.id.0 ∙ c.requires

pub returns : goal.returns
returns g c = λ i.
    c.add.ensures.atoms i
    ∙ ap (cond (i == c.args.id.0) (Some (row_atom c.args.row))) (c.in_ok-room.ensures.same i)
