use Rattle.std.proofs.lemmas.Result.{IfOk-from_err}
use Rattle.std.proofs.Common.{◌∙◌, ◌∷◌, ◌++◌, [], ap, arith, sym, refl}
use Rattle.chr_tokens.specs.TokenView.{placed_views}
use Rattle.chr_read.specs.Automaton.{limited_room, run, state_before_item}
use Rattle.chr_read.specs.Reads.{slot_section, items_verdict}
use Rattle.chr_read.specs.SyntaxView.{item_view, item_views}
use Rattle.chr_read.proofs.Halted.{halts, refused}
use Rattle.chr_read.proofs.Steps.{slot_closes}
use Rattle.chr_read.proofs.Views.{map_pushed}
use Rattle.chr_read.proofs.items.item_list.Goals as goal

pub returns-in_err-found-clause-reads : goal.returns-in_err-found-clause-reads
returns-in_err-found-clause-reads g c f ps =
    halts _ _ _ c.from_residual.result c.in_err-found.field-0.0 c.from_residual.ensures.1 (c.loop-items.invariant.reads f ps) (c.in_err-found.ensures.reads (slot_section f (item_views c.loop-items.items.items)) ps)

pub loop-items-preserved : goal.loop-items-preserved
loop-items-preserved g c =
    let before = item_views c.loop-items.items.items in
    let after = before ++ item_view c.in_ok-found.found ∷ [] in
    let pushed = ap item_views c.in_ok-push.ensures.items ∙ map_pushed item_view c.loop-items.items.items c.in_ok-found.found in
    record {
      reads = λ f ps. c.loop-items.invariant.reads f ps
          ∙ c.in_ok-found.ensures.reads (slot_section f before) ps
          ∙ slot_closes f before ps (item_view c.in_ok-found.found) (placed_views c.in_ok-found.end.now)
          ∙ ap (items_verdict (slot_section f after) ps) c.in-Some.ensures.first.are
          ∙ ap (λ us. run limited_room (state_before_item (slot_section f us) ps) (placed_views c.in-Some.after.now)) (sym pushed);
      within = omega (arith, c.loop-items.invariant.within, c.in-Some.ensures.shorter, c.in_ok-found.ensures.shorter);
    }

pub returns-in-None-clause-reads : goal.returns-in-None-clause-reads
returns-in-None-clause-reads g c f ps =
    let before = item_views c.loop-items.items.items in
    let pushed = ap item_views c.in_ok-push.ensures.items ∙ map_pushed item_view c.loop-items.items.items c.in_ok-found.found in
    c.loop-items.invariant.reads f ps
    ∙ c.in_ok-found.ensures.reads (slot_section f before) ps
    ∙ slot_closes f before ps (item_view c.in_ok-found.found) (placed_views c.in_ok-found.end.now)
    ∙ ap (λ us. items_verdict (slot_section f us) ps (placed_views c.in_ok-found.end.now)) (sym pushed)

pub loop-items-init : goal.loop-items-init
loop-items-init g c = record {
  reads = λ f ps. rw (c.new-items.ensures.items, c.split_at.ensures.back) refl;
  within = omega (arith, c.split_at.ensures.back_len);
}

pub loop-items-smaller : goal.loop-items-smaller
loop-items-smaller g c = omega (arith, c.in-Some.ensures.shorter, c.in_ok-found.ensures.shorter)

pub returns-in_err-found-clause-shorter : goal.returns-in_err-found-clause-shorter
returns-in_err-found-clause-shorter g c = IfOk-from_err c.from_residual.result _ c.from_residual.ensures.0

pub returns-in_err-found-clause-no_comma : goal.returns-in_err-found-clause-no_comma
returns-in_err-found-clause-no_comma g c = IfOk-from_err c.from_residual.result _ c.from_residual.ensures.0

pub returns-in_err-push-clause-reads : goal.returns-in_err-push-clause-reads
returns-in_err-push-clause-reads g c f ps = refused _ _ c.from_residual-in_err-push.result c.from_residual-in_err-push.ensures.1

pub returns-in_err-push-clause-shorter : goal.returns-in_err-push-clause-shorter
returns-in_err-push-clause-shorter g c = IfOk-from_err c.from_residual-in_err-push.result _ c.from_residual-in_err-push.ensures.0

pub returns-in_err-push-clause-no_comma : goal.returns-in_err-push-clause-no_comma
returns-in_err-push-clause-no_comma g c = IfOk-from_err c.from_residual-in_err-push.result _ c.from_residual-in_err-push.ensures.0

pub returns-in-None-clause-shorter : goal.returns-in-None-clause-shorter
returns-in-None-clause-shorter g c = omega (arith, c.in_ok-found.ensures.shorter, c.loop-items.invariant.within)

pub returns-in-None-clause-no_comma : goal.returns-in-None-clause-no_comma
returns-in-None-clause-no_comma g c = c.in-None.ensures.first
