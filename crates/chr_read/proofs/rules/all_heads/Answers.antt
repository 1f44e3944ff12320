use Rattle.std.proofs.lemmas.Result.{IfOk-from_err, IfOk-weaker}
use Rattle.std.proofs.Common.{◌∙◌, ap, refl, arith}
use Rattle.chr_read.specs.Automaton.{heads}
use Rattle.chr_read.specs.Reads.{items_verdict}
use Rattle.chr_read.specs.SyntaxView.{head_views}
use Rattle.chr_read.proofs.Halted.{goes_on, halts}
use Rattle.chr_read.proofs.Sections.{front_alone, front_with_behind}
use Rattle.chr_read.proofs.rules.all_heads.Goals as goal

pub returns-in_err-first-clause-reads : goal.returns-in_err-first-clause-reads
returns-in_err-first-clause-reads g c l w ps =
    halts _ _ _ c.from_residual.result c.in_err-first.field-0.0 c.from_residual.ensures.1 refl (c.in_err-first.ensures.in_heads l w ps)

pub returns-in-None-clause-reads : goal.returns-in-None-clause-reads
returns-in-None-clause-reads g c l w ps =
    goes_on _ _ _ _ (c.in_ok-first.ensures.in_heads l w ps)
    (front_alone l w ps c.in_ok-first.end c.in_ok-first.first c.new.result c.before_arrow.result c.in_ok-first.ensures.no_comma c.in-None.ensures.first c.new.ensures.items c.before_arrow.ensures.heads c.before_arrow.ensures.arrow)

pub returns-in_err-second-in-Some-clause-reads : goal.returns-in_err-second-in-Some-clause-reads
returns-in_err-second-in-Some-clause-reads g c l w ps =
    let hs = head_views c.in_ok-first.first.items in
    halts _ _ _ c.from_residual-in_err-second-in-Some.result c.in_err-second-in-Some.field-0.0 c.from_residual-in_err-second-in-Some.ensures.1
    (c.in_ok-first.ensures.in_heads l w ps ∙ ap (items_verdict (heads l w hs) ps) c.in-Some.ensures.first.are)
    (c.in_err-second-in-Some.ensures.in_behind l w hs ps)

pub returns-in_ok-second-in-Some-clause-reads : goal.returns-in_ok-second-in-Some-clause-reads
returns-in_ok-second-in-Some-clause-reads g c l w ps =
    let hs = head_views c.in_ok-first.first.items in
    goes_on _ _ _ _ (c.in_ok-first.ensures.in_heads l w ps ∙ ap (items_verdict (heads l w hs) ps) c.in-Some.ensures.first.are ∙ c.in_ok-second-in-Some.ensures.in_behind l w hs ps)
    (front_with_behind l w ps c.in_ok-second-in-Some.end c.in_ok-first.first c.in_ok-second-in-Some.second c.before_arrow-in-Some.result c.in_ok-second-in-Some.ensures.no_comma c.before_arrow-in-Some.ensures.heads c.before_arrow-in-Some.ensures.arrow)

pub returns-in_err-first-clause-shorter : goal.returns-in_err-first-clause-shorter
returns-in_err-first-clause-shorter g c = IfOk-from_err c.from_residual.result _ c.from_residual.ensures.0

pub returns-in-None-clause-shorter : goal.returns-in-None-clause-shorter
returns-in-None-clause-shorter g c = IfOk-weaker c.before_arrow.result _ _ (λ x s. omega (arith, s, c.in_ok-first.ensures.shorter)) c.before_arrow.ensures.shorter

pub returns-in_err-second-in-Some-clause-shorter : goal.returns-in_err-second-in-Some-clause-shorter
returns-in_err-second-in-Some-clause-shorter g c = IfOk-from_err c.from_residual-in_err-second-in-Some.result _ c.from_residual-in_err-second-in-Some.ensures.0

pub returns-in_ok-second-in-Some-clause-shorter : goal.returns-in_ok-second-in-Some-clause-shorter
returns-in_ok-second-in-Some-clause-shorter g c = IfOk-weaker c.before_arrow-in-Some.result _ _ (λ x s. omega (arith, s, c.in_ok-second-in-Some.ensures.shorter, c.in-Some.ensures.shorter, c.in_ok-first.ensures.shorter)) c.before_arrow-in-Some.ensures.shorter
