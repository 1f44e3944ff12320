use Rattle.std.proofs.Common.{◌∙◌, ◌∷◌, [], None, ap, arith, refl, sym}
use Rattle.std.proofs.lemmas.Result.{IfOk-at_ok, IfOk-from_err}
use Rattle.chr_semantics.specs.Syntax.{related}
use Rattle.chr_tokens.specs.TokenView.{placed_views, relation_view}
use Rattle.chr_read.specs.Automaton.{have, item, limited_room, right, run}
use Rattle.chr_read.specs.Reads.{item_verdict}
use Rattle.chr_read.specs.SyntaxView.{view}
use Rattle.chr_read.proofs.Halted.{goes_to, halts, halts_second}
use Rattle.chr_read.proofs.Steps.{item_closes, right_closes}
use Rattle.chr_read.proofs.items.item.Goals as goal

pub returns-in_err-left-clause-reads : goal.returns-in_err-left-clause-reads
returns-in_err-left-clause-reads g c q ps =
    halts _ _ _ c.from_residual.result c.in_err-left.field-0.0 c.from_residual.ensures.1 refl (c.in_err-left.ensures.reads (item q ps ∷ []) refl)

pub returns-in_err-left-clause-shorter : goal.returns-in_err-left-clause-shorter
returns-in_err-left-clause-shorter g c = IfOk-from_err c.from_residual.result _ c.from_residual.ensures.0

pub returns-in-None-clause-reads : goal.returns-in-None-clause-reads
returns-in-None-clause-reads g c q ps =
    c.in_ok-left.ensures.reads (item q ps ∷ []) refl
    ∙ item_closes q ps (view c.in_ok-left.left) (placed_views c.in_ok-left.end.now) c.in_ok-left.ensures.no_sum c.in_ok-left.ensures.no_product c.in-None.ensures.first

pub returns-in-None-clause-shorter : goal.returns-in-None-clause-shorter
returns-in-None-clause-shorter g c = omega (arith, c.in_ok-left.ensures.shorter)

pub returns-in_err-left-in-Some-clause-reads : goal.returns-in_err-left-in-Some-clause-reads
returns-in_err-left-in-Some-clause-reads g c q ps =
    let left = view c.in_ok-left.left in
    halts_second _ _ _ c.from_residual-in_err-left-in-Some.result c.sum-in-Some.result _ c.in_err-left-in-Some.field-0.0 c.from_residual-in_err-left-in-Some.ensures.1 c.in_err-left-in-Some.ensures
    (c.in_ok-left.ensures.reads (item q ps ∷ []) refl ∙ ap (run limited_room (have None left (item q ps ∷ []))) c.in-Some.ensures.first.are)
    (c.sum-in-Some.ensures.reads (right q ps (relation_view c.in-Some.relation) left ∷ []) refl)

pub returns-in_err-left-in-Some-clause-shorter : goal.returns-in_err-left-in-Some-clause-shorter
returns-in_err-left-in-Some-clause-shorter g c = IfOk-from_err c.from_residual-in_err-left-in-Some.result _ c.from_residual-in_err-left-in-Some.ensures.0

pub returns-in_ok-left-in-Some-clause-reads : goal.returns-in_ok-left-in-Some-clause-reads
returns-in_ok-left-in-Some-clause-reads g c q ps =
    let relation = relation_view c.in-Some.relation in
    let left = view c.in_ok-left.left in
    let second = c.in_ok-left-in-Some in
    c.in_ok-left.ensures.reads (item q ps ∷ []) refl
    ∙ ap (run limited_room (have None left (item q ps ∷ []))) c.in-Some.ensures.first.are
    ∙ goes_to _ c.sum-in-Some.result _ _ second.ensures.1 (c.sum-in-Some.ensures.reads (right q ps relation left ∷ []) refl)
    ∙ right_closes q ps relation left (view second.right) (placed_views second.end.now) (IfOk-at_ok _ second.ensures.1 c.sum-in-Some.ensures.no_sum) (IfOk-at_ok _ second.ensures.1 c.sum-in-Some.ensures.no_product)
    ∙ ap (λ e. item_verdict q ps (related relation (view e) (view second.right)) (placed_views second.end.now)) (sym second.ensures.0)

pub returns-in_ok-left-in-Some-clause-shorter : goal.returns-in_ok-left-in-Some-clause-shorter
returns-in_ok-left-in-Some-clause-shorter g c =
    let shorter = IfOk-at_ok _ c.in_ok-left-in-Some.ensures.1 c.sum-in-Some.ensures.shorter in
    omega (arith, shorter, c.in-Some.ensures.shorter, c.in_ok-left.ensures.shorter)
