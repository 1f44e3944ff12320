use Rattle.std.proofs.Common.{◌∙◌, [], ◌∷◌, ◌++◌, ap}
use Rattle.chr_store.specs.Rows.{row_atom}
use Rattle.chr_store.specs.declared.row.Row.{Row}
use Rattle.chr_find.specs.Rebinding.{standing_rows}
use Rattle.chr_find.proofs.Collected.{standing_last}
use Rattle.chr_find.proofs.constraint.collect_row.Goals as goal

pub returns : goal.returns
returns g c =
    ap standing_rows c.in_ok-push.ensures.items
    ∙ (standing_last c.args.rows.now.items (record { id = c.args.id; row = c.in_ok-share.field-0 })
    ∙ ap (λ (r : Row g.row.A.Denot). standing_rows c.args.rows.now.items ++ (c.args.id.0, row_atom r) ∷ []) c.in_ok-share.ensures)
