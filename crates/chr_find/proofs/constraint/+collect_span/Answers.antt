use Rattle.std.proofs.Common.{[], ◌∷◌, refl}
use Rattle.chr_map.proofs.Clauses.{ok_more}
use Rattle.chr_store.specs.Rows.{row_atom}
use Rattle.chr_store.specs.declared.id.Id.{Id}
use Rattle.chr_store.specs.declared.row.Row.{Row}
use Rattle.chr_find.specs.IdRows.{id_rows}
use Rattle.chr_find.specs.Rebinding.{standing_rows}
use Rattle.chr_find.proofs.Collected.{in_order}
use Rattle.chr_find.proofs.WalkSpans.{span_parts}
use Rattle.chr_find.proofs.constraint.+collect_span.Goals as goal

pub returns-in_ok-collect_row-in-Some : goal.returns-in_ok-collect_row-in-Some
returns-in_ok-collect_row-in-Some g t c =
    let m : Id × Row g.row.A.Denot = (c.in-Some.middle.key.now, c.in-Some.middle.value.now) in
    ok_more _ _ c.collect_span-in-Some.result c.collect_span-in-Some.result refl c.collect_span-in-Some.ensures
    (λ e. in_order (standing_rows c.args.rows.now.items) (standing_rows c.collect_span.new.rows.items) (standing_rows c.collect_row.new.rows.items) (standing_rows c.collect_span-in-Some.new.rows.items)
    (id_rows c.in-Some.middle.before) ((m.0.0, row_atom m.1) ∷ []) (id_rows c.in-Some.middle.after) (id_rows c.args.span.now)
    c.in_ok-collect_span-in-Some.ensures c.in_ok-collect_row-in-Some.ensures e (span_parts c.args.span.now c.in-Some.middle.before m c.in-Some.middle.after c.in-Some.ensures.some))
