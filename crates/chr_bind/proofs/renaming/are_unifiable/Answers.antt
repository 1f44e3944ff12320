use Rattle.std.proofs.Common.{Bool, arith, subst, ◌≡◌}
use Rattle.std.specs.Prelude.{IfOk}
use Rattle.chr_semantics.proofs.Below.{below_more}
use Rattle.chr_bind.proofs.Renamed.{extended_term, same_unifiable}
use Rattle.chr_bind.proofs.renaming.are_unifiable.Goals as goal

pub have_unifier-requires : goal.have_unifier-requires
have_unifier-requires g c =
    let left = extended_term _ _ _ _ c.in_ok-right.ensures.extends c.in_ok-left.ensures.renamed in
    record {
      left = below_more _ _ _ (omega (arith, c.len.ensures.len)) left.below;
      right = below_more _ _ _ (omega (arith, c.len.ensures.len)) c.in_ok-right.ensures.renamed.below;
    }

pub returns : goal.returns
returns g c =
    let left = extended_term _ _ _ _ c.in_ok-right.ensures.extends c.in_ok-left.ensures.renamed in
    let same = same_unifiable _ _ _ _ _ c.in_ok-right.ensures.names left c.in_ok-right.ensures.renamed in
    subst (λ (b : Bool). IfOk c.have_unifier.result (λ so. so ≡ b)) same c.have_unifier.ensures
