use Rattle.std.proofs.Common.{◌∙◌}
use Rattle.chr_store.specs.SlotsView.{rows_in}
use Rattle.chr_store.proofs.Stamped.{count_more, last_more}
use Rattle.chr_store.proofs.waking.raise_all.Goals as goal

pub loop-id-preserved : goal.loop-id-preserved
loop-id-preserved g c = record {
  counts = λ n. count_more (rows_in c.args.slots.now) c.args.ids.now c.loop-id.id-index _ n _ _ _ _ _ _ c.loop-id-test.true (c.requires.earlier n) (c.loop-id.invariant.counts n) (c.loop-id.invariant.lasts n) (c.raise_one.ensures.counts n);
  lasts = λ n. last_more (rows_in c.args.slots.now) c.args.ids.now c.loop-id.id-index _ n _ _ _ _ c.loop-id-test.true (c.requires.earlier n) (c.loop-id.invariant.lasts n) (c.raise_one.ensures.lasts n);
  kept = λ n. c.raise_one.ensures.kept n ∙ c.loop-id.invariant.kept n;
}
