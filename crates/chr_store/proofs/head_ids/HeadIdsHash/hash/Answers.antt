use Rattle.std.proofs.Common.{◌∙◌}
use Rattle.std.specs.Hash as fed
use Rattle.std.specs.List.{fold}
use Rattle.chr_store.proofs.NumbersAlike.{fed_as}
use Rattle.chr_store.proofs.head_ids.HeadIdsHash.hash.Goals as goal

pub returns : goal.returns
returns g c = c.hash.ensures ∙ ((λ i. fold g.H.Hasher.write c.args.state.now (fed_as c.as_slice.result.now i)) ∙ (λ i. fold g.H.Hasher.write c.args.state.now (fed.slice fed.u64 (c.as_slice.ensures.ids i))))
