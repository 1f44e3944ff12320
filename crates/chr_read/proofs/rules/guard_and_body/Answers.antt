use Rattle.std.proofs.lemmas.Result.{IfOk-from_err, IfOk-weaker}
use Rattle.std.proofs.Common.{◌∙◌, ◌∷◌, ◌++◌, [], ap, refl, sym, arith}
use Rattle.chr_semantics.specs.Tokens.{stop}
use Rattle.chr_tokens.specs.TokenView.{placed_views}
use Rattle.chr_read.specs.Automaton.{between, body, guarded, limited_room, rule_of, run}
use Rattle.chr_read.specs.Reads.{items_verdict}
use Rattle.chr_read.specs.SyntaxView.{item_views}
use Rattle.chr_read.proofs.Halted.{goes_before, goes_on, halts}
use Rattle.chr_read.proofs.Sections.{body_refuses, guarded_refuses}
use Rattle.chr_read.proofs.rules.guard_and_body.Goals as goal

pub returns-in_err-first-clause-reads : goal.returns-in_err-first-clause-reads
returns-in_err-first-clause-reads g c s ps =
    halts _ _ _ c.from_residual.result c.in_err-first.field-0.0 c.from_residual.ensures.1 refl (c.in_err-first.ensures.in_body s ps)

pub returns-in-Some-clause-reads : goal.returns-in-Some-clause-reads
returns-in-Some-clause-reads g c s ps =
    let is = item_views c.in_ok-first.first.items in
    c.in_ok-first.ensures.in_body s ps
    ∙ ap (items_verdict (body s is) ps) c.in-Some.ensures.first.are
    ∙ ap (λ gs. run limited_room (between (ps ++ rule_of s (item_views gs) is ∷ [])) (placed_views c.in-Some.after.now)) (sym c.new-guard.ensures.items)

pub returns-in_default-after_sign-clause-reads : goal.returns-in_default-after_sign-clause-reads
returns-in_default-after_sign-clause-reads g c s ps =
    c.in_ok-first.ensures.in_body s ps
    ∙ body_refuses s (item_views c.in_ok-first.first.items) ps (placed_views c.in_ok-first.end.now) c.in_ok-first.ensures.no_comma c.in_default.ensures.first c.in_default-after_sign.ensures.first

pub returns-in_err-second-clause-reads : goal.returns-in_err-second-clause-reads
returns-in_err-second-clause-reads g c s ps =
    let gs = item_views c.in_ok-first.first.items in
    halts _ _ _ c.from_residual-in_err-second.result c.in_err-second.field-0.0 c.from_residual-in_err-second.ensures.1
    (c.in_ok-first.ensures.in_body s ps ∙ ap (items_verdict (body s gs) ps) c.in-Some-after_sign.ensures.first.are)
    (c.in_err-second.ensures.in_guarded s gs ps)

pub returns-clause-reads : goal.returns-clause-reads
returns-clause-reads g c s ps =
    let gs = item_views c.in_ok-first.first.items in
    let is = item_views c.in_ok-second.second.items in
    goes_on _ _ _ _ (c.in_ok-first.ensures.in_body s ps ∙ ap (items_verdict (body s gs) ps) c.in-Some-after_sign.ensures.first.are ∙ c.in_ok-second.ensures.in_guarded s gs ps)
    (goes_before stop c.in_ok-second.end (record { guard = c.in_ok-first.first; body = c.in_ok-second.second }) c.before_sign.result (items_verdict (guarded s gs is) ps) _ c.before_sign.ensures.first (λ p rest. refl)
    (guarded_refuses s gs is ps (placed_views c.in_ok-second.end.now) c.in_ok-second.ensures.no_comma))

pub returns-in_err-first-clause-shorter : goal.returns-in_err-first-clause-shorter
returns-in_err-first-clause-shorter g c = IfOk-from_err c.from_residual.result _ c.from_residual.ensures.0

pub returns-in-Some-clause-shorter : goal.returns-in-Some-clause-shorter
returns-in-Some-clause-shorter g c = omega (arith, c.in-Some.ensures.shorter, c.in_ok-first.ensures.shorter)

pub returns-in_default-after_sign-clause-shorter : goal.returns-in_default-after_sign-clause-shorter
returns-in_default-after_sign-clause-shorter g c = tt

pub returns-in_err-second-clause-shorter : goal.returns-in_err-second-clause-shorter
returns-in_err-second-clause-shorter g c = IfOk-from_err c.from_residual-in_err-second.result _ c.from_residual-in_err-second.ensures.0

pub returns-clause-shorter : goal.returns-clause-shorter
returns-clause-shorter g c = IfOk-weaker c.before_sign.result _ _ (λ x s. omega (arith, s, c.in_ok-second.ensures.shorter, c.in-Some-after_sign.ensures.shorter, c.in_ok-first.ensures.shorter)) c.before_sign.ensures.shorter
