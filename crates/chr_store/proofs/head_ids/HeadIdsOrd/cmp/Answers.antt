use Rattle.std.proofs.Common.{◌∙◌}
use Rattle.std.specs.Cmp.Lexicographic.{slice_cmp}
use Rattle.std.specs.Ordering.{nat_cmp}
use Rattle.chr_store.proofs.NumbersAlike.{ordered_as}
use Rattle.chr_store.proofs.head_ids.HeadIdsOrd.cmp.Goals as goal

pub returns : goal.returns
returns c = c.cmp.ensures ∙ (ordered_as c.as_slice.result.now c.as_slice-2.result.now ∙ (λ i. slice_cmp nat_cmp (c.as_slice.ensures.ids i) (c.as_slice-2.ensures.ids i)))
