use Rattle.std.proofs.Common.{false, refl}
use Rattle.chr_map.proofs.Clauses.{ok_leads}
use Rattle.chr_find.specs.ChangeView.{rows_changed}
use Rattle.chr_find.specs.IndexKeys.{row_if}
use Rattle.chr_find.specs.declared.index.Index.{Index}
use Rattle.chr_find.proofs.IndexRows.{by_test, gone, rows_step, within}
use Rattle.chr_find.proofs.index.Change.set.Goals as goal

pub returns-then-not-self-clause-ok : goal.returns-then-not-self-clause-ok
returns-then-not-self-clause-ok g c =
    let old = c.args.index.now in
    let new : Index g.row.A.Denot = record { all = old.all; buckets = c.take_out.new.self; alloc = old.alloc } in
    let change = c.args.self.now in
    ok_leads _ _ c.take_out.result c.take_out.ensures.ok
    (λ out. by_test false change.is_there change.row c.if-not-self.true new old (record { bucket = c.args.bucket; id = change.id })
    (gone new old c.args.bucket change.id c.in-Some.rows.now c.requires refl c.in-Some.ensures.value (c.is_only-is_only.ensures.only c.if-is_only.true) c.take_out.ensures.ascending out))

pub returns-clause-ok : goal.returns-clause-ok
returns-clause-ok g c =
    let old = c.args.index.now in
    let new : Index g.row.A.Denot = record { all = old.all; buckets = c.edit.new.self; alloc = old.alloc } in
    let change = c.args.self.now in
    ok_leads _ _ c.edit.result c.edit.ensures.ok
    (λ edited. within new old c.args.bucket change.id (row_if change.is_there change.row) c.in-Some.rows.now (rows_changed change) c.requires refl c.in-Some.ensures.value edited (rows_step change c.in-Some.rows.now c.is_only-is_only.ensures.ascending))
