use Rattle.std.proofs.Common.{◌≡◌, ◌∙◌, true, not, ap, arith, sym}
use Rattle.chr_semantics.specs.Match.{Row}
use Rattle.chr_find.proofs.Loops.{holds_all, holds_more}
use Rattle.chr_find.proofs.RuleClashes.{clashes_all, is_other, others_clash}
use Rattle.chr_find.proofs.scope.has_head.Goals as goal

pub loop-other-preserved : goal.loop-other-preserved
loop-other-preserved g c =
    let other : is_other c.args.sym c.loop-other-item.result ≡ true = ap not (sym c.eq.ensures ∙ c.if-eq.false) in
    holds_more (is_other c.args.sym) c.deref-other-items.result.now c.args.rule.now.heads.items c.loop-other.other-index c.deref-other-items.ensures.value c.loop-other-item.result (omega (arith, c.loop-other-test.true)) c.loop-other-item.is c.loop-other.invariant other

pub returns : goal.returns
returns g c e i ts =
    let row : Row = (i, record { sym = c.args.sym.0; args = ts }) in
    clashes_all row c.args.rule.now.passive.items 0 c.args.rule.now.heads.items
    ∙ others_clash i ts c.args.sym c.args.rule.now.heads.items (holds_all (is_other c.args.sym) c.deref-other-items.result.now c.args.rule.now.heads.items c.loop-other.other-index c.deref-other-items.ensures.value (omega (arith, c.loop-other-test.false)) c.loop-other.invariant)
