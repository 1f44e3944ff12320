use Rattle.std.proofs.Common.{◌≡◌, ◌∙◌, ◌≤◌, Bool, List, ap, arith, cond, length, subst, sym}
use Rattle.std.specs.Prelude.{Option}
use Rattle.chr_map.specs.Order.{Ascends}
use Rattle.chr_semantics.specs.Match as semantics
use Rattle.chr_store.specs.declared.id.Id.{Id}
use Rattle.chr_store.specs.declared.row.Row.{Row}
use Rattle.chr_find.specs.IdRows.{id_cmp, id_rows}
use Rattle.chr_find.specs.IndexKeys.{listed, other_rows, rows_in}
use Rattle.chr_find.specs.IndexSize.{index_size, total}
use Rattle.chr_find.proofs.IndexRows.{among, other_bucket, rows_length}
use Rattle.chr_find.proofs.index.Index.rows.Goals as goal

pub returns-in-All-clause-some : goal.returns-in-All-clause-some
returns-in-All-clause-some g c =
    let same : length (id_rows c.entries.result) ≡ length c.args.self.now.all = rows_length c.entries.result ∙ ap length c.entries.ensures.value in
    omega (arith, same)

pub returns-in-Some : goal.returns-in-Some
returns-in-Some g c =
    let x = c.args.self.now in
    let b = c.args.bucket.now in
    let rows : List (Id × Row g.row.A.Denot) = c.in-Some.rows.now in
    let is : rows ≡ rows_in x b = ap listed c.in-Some.ensures.value ∙ sym (ap (λ (t : Bool). cond t x.all (other_rows x b)) (other_bucket b c.in_default.not-All)) in
    let few : length (other_rows x b) ≤ total x.buckets = among x.buckets b in
    let same : length (id_rows rows) ≡ length (other_rows x b) = rows_length rows ∙ ap (λ (o : Option (List (Id × Row g.row.A.Denot))). length (listed o)) c.in-Some.ensures.value in
    record {
      rows = c.span.ensures.rows ∙ ap id_rows is;
      ascending = subst (Ascends id_cmp) is c.span.ensures.ascending;
      some = subst (λ (rs : List semantics.Row). length rs ≤ index_size x) (sym c.span.ensures.rows) (omega (arith, few, same));
    }
