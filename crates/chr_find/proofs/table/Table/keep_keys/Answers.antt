use Rattle.std.proofs.Common.{◌≡◌, ◌∙◌, ◌++◌, List, ap, subst, sym}
use Rattle.chr_map.specs.Order.{Ascends}
use Rattle.chr_semantics.specs.Match as semantics
use Rattle.chr_semantics.specs.Search.{atom_of}
use Rattle.chr_find.specs.IdRows.{id_cmp}
use Rattle.chr_find.specs.IndexKeys.{rows_in}
use Rattle.chr_find.specs.RowSpans.{span_rows}
use Rattle.chr_find.specs.Rebinding.{standing_rows}
use Rattle.chr_find.specs.Shown.{Rises, walk}
use Rattle.chr_find.specs.TableView.{atom_at}
use Rattle.chr_find.specs.declared.bucket.Bucket.TheVariants.{All}
use Rattle.chr_find.specs.declared.constraint.Constraint.{Constraint}
use Rattle.chr_find.proofs.KeyedTables.{listed_alike}
use Rattle.chr_find.proofs.MadeWhole.{all_looked, all_rises}
use Rattle.chr_find.proofs.table.Table.keep_keys.Goals as goal

pub of_rows-requires : goal.of_rows-requires
of_rows-requires g c =
    let t = c.args.self.now in
    let all : standing_rows c.as_slice.result.now ≡ walk All t.index.rows =
    ap standing_rows c.as_slice.ensures.value
    ∙ (c.in_ok-collect.ensures ∙ (ap (λ (old : List (Constraint g.row.A.Denot)). standing_rows old ++ span_rows c.rows.result) c.new-rows.ensures.items ∙ c.rows.ensures.rows))
    in
    let up : Ascends id_cmp (rows_in t.index.rows All) = c.rows.ensures.ascending in
    subst Rises (sym all) (all_rises t c.requires up)

pub invariant_of-self : goal.invariant_of-self
invariant_of-self g c =
    let t = c.args.self.now in
    let l : List (Constraint g.row.A.Denot) = c.as_slice.result.now in
    let all : standing_rows l ≡ walk All t.index.rows =
    ap standing_rows c.as_slice.ensures.value
    ∙ (c.in_ok-collect.ensures ∙ (ap (λ (old : List (Constraint g.row.A.Denot)). standing_rows old ++ span_rows c.rows.result) c.new-rows.ensures.items ∙ c.rows.ensures.rows))
    in
    let up : Ascends id_cmp (rows_in t.index.rows All) = c.rows.ensures.ascending in
    record {
      shown = t.shown;
      apart = t.apart;
      listed = listed_alike (atom_of (standing_rows l)) (atom_at t) c.in_ok-self.field-0 (λ i. sym (all_looked t c.requires up i) ∙ ap (λ (rows : List semantics.Row). atom_of rows i) (sym all)) c.in_ok-self.ensures.lists;
      ground = t.ground;
    }
