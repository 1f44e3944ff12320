use Rattle.std.proofs.Common.{◌∙◌, sym}
use Rattle.std.specs.Prelude.{codes}
use Rattle.std.proofs.lemmas.List.{length-map}
use Rattle.chr_store.specs.StoreView.{store_view}
use Rattle.chr_trace.proofs.Bodies.{part_written}
use Rattle.chr_trace.proofs.scribe.Scribe.write_store.Goals as goal

pub returns-clause-ok : goal.returns-clause-ok
returns-clause-ok g c =
    part_written c.write_rows.result c.args.out.now.items c.write_head.new.out.items c.write_rows.new.out.items (codes "store ") _ _ c.in_ok-write_head.ensures.ok c.write_rows.ensures.ok
    (c.count_rows.ensures ∙ (sym (length-map (store_view c.args.store.now).rows _) ∙ sym (length-map _ _)))
