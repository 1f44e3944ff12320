use Rattle.std.proofs.Common.{◌∙◌, nat_eq}
use Rattle.std.specs.Cmp.Lexicographic.{pointwise}
use Rattle.chr_store.proofs.NumbersAlike.{equal_as}
use Rattle.chr_store.proofs.head_ids.HeadIdsPartialEq.eq.Goals as goal

pub returns : goal.returns
returns c = c.eq.ensures ∙ (equal_as c.as_slice.result.now c.as_slice-2.result.now ∙ (λ i. pointwise nat_eq (c.as_slice.ensures.ids i) (c.as_slice-2.ensures.ids i)))
