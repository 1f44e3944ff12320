use Rattle.std.proofs.lemmas.Result.{IfOk-from_err}
use Rattle.std.proofs.Common.{◌∙◌, ◌∷◌, ◌++◌, [], ap, arith, sym, refl}
use Rattle.chr_tokens.specs.TokenView.{placed_views}
use Rattle.chr_read.specs.Automaton.{limited_room, run, state_before_item}
use Rattle.chr_read.specs.Reads.{side_section, items_verdict}
use Rattle.chr_read.specs.SyntaxView.{head_view, head_views}
use Rattle.chr_read.proofs.Halted.{halts, refused}
use Rattle.chr_read.proofs.Views.{map_pushed}
use Rattle.chr_read.proofs.items.head_list.Goals as goal

pub returns-in_err-found-clause-reads : goal.returns-in_err-found-clause-reads
returns-in_err-found-clause-reads g c f ps =
    halts _ _ _ c.from_residual.result c.in_err-found.field-0.0 c.from_residual.ensures.1 (c.loop-heads.invariant.reads f ps) (c.in_err-found.ensures.reads f (head_views c.loop-heads.heads.items) ps)

pub loop-heads-preserved : goal.loop-heads-preserved
loop-heads-preserved g c =
    let before = head_views c.loop-heads.heads.items in
    let after = before ++ head_view c.in_ok-found.found ∷ [] in
    let pushed = ap head_views c.in_ok-push.ensures.items ∙ map_pushed head_view c.loop-heads.heads.items c.in_ok-found.found in
    record {
      reads = λ f ps. c.loop-heads.invariant.reads f ps
          ∙ c.in_ok-found.ensures.reads f before ps
          ∙ ap (items_verdict (side_section f after) ps) c.in-Some.ensures.first.are
          ∙ ap (λ us. run limited_room (state_before_item (side_section f us) ps) (placed_views c.in-Some.after.now)) (sym pushed);
      within = omega (arith, c.loop-heads.invariant.within, c.in-Some.ensures.shorter, c.in_ok-found.ensures.shorter);
    }

pub returns-in-None-clause-reads : goal.returns-in-None-clause-reads
returns-in-None-clause-reads g c f ps =
    let before = head_views c.loop-heads.heads.items in
    let pushed = ap head_views c.in_ok-push.ensures.items ∙ map_pushed head_view c.loop-heads.heads.items c.in_ok-found.found in
    c.loop-heads.invariant.reads f ps
    ∙ c.in_ok-found.ensures.reads f before ps
    ∙ ap (λ us. items_verdict (side_section f us) ps (placed_views c.in_ok-found.end.now)) (sym pushed)

pub loop-heads-init : goal.loop-heads-init
loop-heads-init g c = record {
  reads = λ f ps. rw (c.new-heads.ensures.items, c.split_at.ensures.back) refl;
  within = omega (arith, c.split_at.ensures.back_len);
}

pub loop-heads-smaller : goal.loop-heads-smaller
loop-heads-smaller g c = omega (arith, c.in-Some.ensures.shorter, c.in_ok-found.ensures.shorter)

pub returns-in_err-found-clause-shorter : goal.returns-in_err-found-clause-shorter
returns-in_err-found-clause-shorter g c = IfOk-from_err c.from_residual.result _ c.from_residual.ensures.0

pub returns-in_err-found-clause-no_comma : goal.returns-in_err-found-clause-no_comma
returns-in_err-found-clause-no_comma g c = IfOk-from_err c.from_residual.result _ c.from_residual.ensures.0

pub returns-in_err-push-clause-reads : goal.returns-in_err-push-clause-reads
returns-in_err-push-clause-reads g c f ps = refused _ _ c.from_residual-in_err-push.result c.from_residual-in_err-push.ensures.1

pub returns-in_err-push-clause-shorter : goal.returns-in_err-push-clause-shorter
returns-in_err-push-clause-shorter g c = IfOk-from_err c.from_residual-in_err-push.result _ c.from_residual-in_err-push.ensures.0

pub returns-in_err-push-clause-no_comma : goal.returns-in_err-push-clause-no_comma
returns-in_err-push-clause-no_comma g c = IfOk-from_err c.from_residual-in_err-push.result _ c.from_residual-in_err-push.ensures.0

pub returns-in-None-clause-shorter : goal.returns-in-None-clause-shorter
returns-in-None-clause-shorter g c = omega (arith, c.in_ok-found.ensures.shorter, c.loop-heads.invariant.within)

pub returns-in-None-clause-no_comma : goal.returns-in-None-clause-no_comma
returns-in-None-clause-no_comma g c = c.in-None.ensures.first
