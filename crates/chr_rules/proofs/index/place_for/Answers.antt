use Rattle.std.proofs.Common.{◌∙◌}
use Rattle.chr_rules.proofs.Listed.{pairs_in-empty_more}
use Rattle.chr_rules.proofs.index.place_for.Goals as goal

pub loop-alloc-preserved : goal.loop-alloc-preserved
loop-alloc-preserved g c = λ f. rw c.in_ok-push.ensures.items (pairs_in-empty_more _ c.new.result c.new.ensures.items f ∙ c.loop-alloc.invariant f)
