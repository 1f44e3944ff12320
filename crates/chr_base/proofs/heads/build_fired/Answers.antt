use Rattle.std.proofs.Common.{[], Option, subst, sym, unwrap_or}
use Rattle.std.proofs.lemmas.Result.{IfOk-weaker}
use Rattle.chr_semantics.specs.Subst.{Subst}
use Rattle.chr_bind.specs.Matching.{AgreesWith}
use Rattle.chr_base.proofs.heads.build_fired.Goals as goal

pub returns : goal.returns
returns g c =
    IfOk-weaker c.goals.result _ _
    (λ built body t same standing m fit. body t (subst (λ (o : Option Subst). AgreesWith c.match_heads.new.matching (unwrap_or o [])) (sym fit) (c.match_heads.ensures t same standing m fit)))
    c.goals.ensures.body
