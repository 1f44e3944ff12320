use Rattle.std.proofs.Common.{◌∙◌, [], ◌∷◌, List, ap, refl, true}
use Rattle.chr_map.specs.Order.{entry_put}
use Rattle.chr_map.proofs.Clauses.{ok_leads}
use Rattle.chr_store.specs.declared.id.Id.{Id}
use Rattle.chr_store.specs.declared.row.Row.{Row}
use Rattle.chr_find.specs.IndexKeys.{bucket_cmp}
use Rattle.chr_find.specs.declared.index.Index.{Index}
use Rattle.chr_find.proofs.IndexRows.{begun, by_test}
use Rattle.chr_find.proofs.index.Change.begin.Goals as goal

pub returns-in_ok-share-clause-ok : goal.returns-in_ok-share-clause-ok
returns-in_ok-share-clause-ok g c =
    let old = c.args.index.now in
    let new : Index g.row.A.Denot = record { all = old.all; buckets = c.put.new.self; alloc = old.alloc } in
    let row = c.args.self.now.row in
    ok_leads _ _ c.put.result c.put.ensures.ok
    (λ put. by_test true c.args.self.now.is_there row c.if-self.true new old (record { bucket = c.args.bucket; id = c.args.self.now.id })
    (begun new old c.args.bucket c.args.self.now.id row c.requires.other refl c.requires.none
    (put ∙ ap (λ (rows : List (Id × Row g.row.A.Denot)). entry_put bucket_cmp old.buckets c.args.bucket rows) (c.one-rows.ensures ∙ ap (λ (r : Row g.row.A.Denot). (c.args.self.now.id, r) ∷ []) c.in_ok-share.ensures))))
