use Rattle.std.proofs.Common.{◌∙◌, ap, not}
use Rattle.chr_semantics.specs.Verdict.{lack_where}
use Rattle.chr_bind.proofs.Instances.{decides_same}
use Rattle.chr_bind.proofs.guard.lack.lack_of_difference.Goals as goal

pub returns : goal.returns
returns g c m h =
    let same = decides_same c.same.result _ _ _ _ c.same.ensures (c.term.ensures ∙ c.in_ok-left.ensures m h) (c.term-2.ensures ∙ c.in_ok-right.ensures m h) in
    c.decidable.ensures ∙ ap (λ b. lack_where (not b)) same
