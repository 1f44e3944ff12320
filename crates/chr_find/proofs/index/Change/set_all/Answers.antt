use Rattle.std.proofs.Common.{◌∙◌, List, None, Some, ap, false, refl, true}
use Rattle.chr_map.specs.Order.{value_of}
use Rattle.chr_map.proofs.Clauses.{ok_leads}
use Rattle.chr_store.specs.declared.id.Id.{Id}
use Rattle.chr_store.specs.declared.row.Row.{Row}
use Rattle.chr_find.specs.IdRows.{id_cmp}
use Rattle.chr_find.specs.IndexKeys.{IndexKey}
use Rattle.chr_find.specs.declared.bucket.Bucket.TheVariants.{All}
use Rattle.chr_find.specs.declared.index.Index.{Index}
use Rattle.chr_find.proofs.IndexRows.{all_set, by_test, rows_put, rows_removed}
use Rattle.chr_find.proofs.index.Change.set_all.Goals as goal

pub returns-in_ok-share-clause-ok : goal.returns-in_ok-share-clause-ok
returns-in_ok-share-clause-ok g c =
    let old = c.args.index.now in
    let new : Index g.row.A.Denot = record { all = c.put.new.self; buckets = old.buckets; alloc = old.alloc } in
    let place : IndexKey = record { bucket = All; id = c.args.self.now.id } in
    ok_leads _ _ c.put.result c.put.ensures.ok
    (λ put. by_test true c.args.self.now.is_there c.args.self.now.row c.if-self.true new old place
    (all_set new old c.args.self.now.id (Some c.args.self.now.row) refl
    (λ j. ap (λ (es : List (Id × Row g.row.A.Denot)). value_of id_cmp es j) put ∙ rows_put old.all c.args.self.now.id c.args.self.now.row c.in_ok-share.field-0 c.in_ok-share.ensures j)))

pub returns-else-self-clause-ok : goal.returns-else-self-clause-ok
returns-else-self-clause-ok g c =
    let old = c.args.index.now in
    let new : Index g.row.A.Denot = record { all = c.take_out.new.self; buckets = old.buckets; alloc = old.alloc } in
    let place : IndexKey = record { bucket = All; id = c.args.self.now.id } in
    ok_leads _ _ c.take_out.result c.take_out.ensures.ok
    (λ out. by_test false c.args.self.now.is_there c.args.self.now.row c.if-self.false new old place
    (all_set new old c.args.self.now.id None refl
    (λ j. ap (λ (es : List (Id × Row g.row.A.Denot)). value_of id_cmp es j) out ∙ rows_removed old.all c.args.self.now.id c.take_out.ensures.ascending j)))
