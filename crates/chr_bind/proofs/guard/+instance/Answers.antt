use Rattle.std.proofs.Common.{◌≡◌, ◌∙◌, ap, refl}
use Rattle.std.proofs.lemmas.Result.{IfOk-weaker}
use Rattle.chr_semantics.specs.Subst.{Subst, apply, value_at}
use Rattle.chr_term.specs.TermView.{view}
use Rattle.chr_term.proofs.Mapped.{map_pushed}
use Rattle.chr_bind.specs.Matching.{AgreesWith}
use Rattle.chr_term.proofs.Lists.{built_whole}
use Rattle.chr_bind.proofs.Instances.{instance_free, instance_matched}
use Rattle.chr_bind.proofs.guard.+instance.Goals as goal

pub made_instance-returns-in-Some : goal.made_instance-returns-in-Some
made_instance-returns-in-Some g t c =
    let matching = c.args.matching.now in
    let pattern = view c.args.pattern.now in
    IfOk-weaker c.copy.result (λ copied. view copied ≡ view c.in-Some.matched.now) (λ made. (m : Subst) → AgreesWith matching m → view made ≡ apply m pattern)
    (λ made same m h. same ∙ instance_matched matching m c.in-Var.x pattern c.get.result c.in-Some.matched h (ap view c.in-Var.is) c.get.ensures c.in-Some.is)
    c.copy.ensures

pub made_instance-returns-in-None : goal.made_instance-returns-in-None
made_instance-returns-in-None g t c m h =
    rw c.in-Var.is (instance_free c.args.matching.now m c.in-Var.x _ c.get.result h refl c.get.ensures c.in-None.is)

pub made_instances-returns : goal.made_instances-returns
made_instances-returns g t c m h = built_whole (value_at m) c.loop-pattern.items.items c.args.patterns.now _ (c.loop-pattern.invariant m h) c.loop-pattern-test.false

pub made_instances-loop-pattern-preserved : goal.made_instances-loop-pattern-preserved
made_instances-loop-pattern-preserved g t c m h =
    rw c.in_ok-push.ensures.items (map_pushed view (λ t. apply m (view t)) _ _ _ c.pattern-item.result _ (c.loop-pattern.invariant m h) c.loop-pattern-test.true (c.in_ok-made_instance.ensures m h) c.pattern-item.is)
