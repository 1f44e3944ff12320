use Rattle.std.proofs.Common.{◌∙◌, ◌++◌}
use Rattle.std.specs.Hash as fed
use Rattle.std.specs.List.{fold}
use Rattle.chr_store.proofs.NumbersAlike.{fed_as}
use Rattle.chr_store.proofs.entry.EntryHash.hash.Goals as goal

pub returns : goal.returns
returns g c = c.hash-2.ensures ∙ ((λ i. fold g.H.Hasher.write (c.hash.ensures i) (fed_as c.ids.result.now i)) ∙ (λ i. fold g.H.Hasher.write c.args.state.now (fed.usize (c.self.view_is i).rule ++ fed.slice fed.u64 (c.ids.ensures.ids i))))
