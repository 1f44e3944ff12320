use Rattle.std.proofs.lemmas.Result.{IfOk-from_err}
use Rattle.std.proofs.Common.{◌∙◌, ◌∷◌, ◌++◌, [], ap, arith, sym, refl}
use Rattle.chr_tokens.specs.TokenView.{placed_views}
use Rattle.chr_read.specs.Automaton.{declared, limited_room, run, symbol}
use Rattle.chr_read.specs.Parts.{listing}
use Rattle.chr_read.specs.SyntaxView.{declaration_view, declaration_views}
use Rattle.chr_read.proofs.Halted.{halts, refused}
use Rattle.chr_read.proofs.Views.{map_pushed}
use Rattle.chr_read.proofs.directives.symbols.Goals as goal

pub returns-in_err-found-clause-reads : goal.returns-in_err-found-clause-reads
returns-in_err-found-clause-reads g c m l ps =
    let before = listing m l ps (declaration_views c.loop-symbols.symbols.items) in
    halts _ _ _ c.from_residual.result c.in_err-found.field-0.0 c.from_residual.ensures.1 (c.loop-symbols.invariant.reads m l ps) (c.in_err-found.ensures.reads before)

pub loop-symbols-preserved : goal.loop-symbols-preserved
loop-symbols-preserved g c =
    let before = declaration_views c.loop-symbols.symbols.items in
    let after = before ++ declaration_view c.in_ok-found.found ∷ [] in
    let pushed = ap declaration_views c.in_ok-push.ensures.items ∙ map_pushed declaration_view c.loop-symbols.symbols.items c.in_ok-found.found in
    record {
      reads = λ m l ps. c.loop-symbols.invariant.reads m l ps
          ∙ c.in_ok-found.ensures.reads (listing m l ps before)
          ∙ ap (run limited_room (declared (listing m l ps after))) c.in-Some.ensures.first.are
          ∙ ap (λ ds. run limited_room (symbol (listing m l ps ds)) (placed_views c.in-Some.after.now)) (sym pushed);
      within = omega (arith, c.loop-symbols.invariant.within, c.in-Some.ensures.shorter, c.in_ok-found.ensures.shorter);
    }

pub returns-in-None-clause-reads : goal.returns-in-None-clause-reads
returns-in-None-clause-reads g c m l ps =
    let before = declaration_views c.loop-symbols.symbols.items in
    let pushed = ap declaration_views c.in_ok-push.ensures.items ∙ map_pushed declaration_view c.loop-symbols.symbols.items c.in_ok-found.found in
    c.loop-symbols.invariant.reads m l ps
    ∙ c.in_ok-found.ensures.reads (listing m l ps before)
    ∙ ap (λ ds. run limited_room (declared (listing m l ps ds)) (placed_views c.in_ok-found.end.now)) (sym pushed)

pub loop-symbols-init : goal.loop-symbols-init
loop-symbols-init g c = record {
  reads = λ m k ps. rw (c.new-symbols.ensures.items, c.split_at.ensures.back) refl;
  within = omega (arith, c.split_at.ensures.back_len);
}

pub loop-symbols-smaller : goal.loop-symbols-smaller
loop-symbols-smaller g c = omega (arith, c.in-Some.ensures.shorter, c.in_ok-found.ensures.shorter)

pub returns-in_err-found-clause-shorter : goal.returns-in_err-found-clause-shorter
returns-in_err-found-clause-shorter g c = IfOk-from_err c.from_residual.result _ c.from_residual.ensures.0

pub returns-in_err-found-clause-no_comma : goal.returns-in_err-found-clause-no_comma
returns-in_err-found-clause-no_comma g c = IfOk-from_err c.from_residual.result _ c.from_residual.ensures.0

pub returns-in_err-push-clause-reads : goal.returns-in_err-push-clause-reads
returns-in_err-push-clause-reads g c m l ps = refused _ _ c.from_residual-in_err-push.result c.from_residual-in_err-push.ensures.1

pub returns-in_err-push-clause-shorter : goal.returns-in_err-push-clause-shorter
returns-in_err-push-clause-shorter g c = IfOk-from_err c.from_residual-in_err-push.result _ c.from_residual-in_err-push.ensures.0

pub returns-in_err-push-clause-no_comma : goal.returns-in_err-push-clause-no_comma
returns-in_err-push-clause-no_comma g c = IfOk-from_err c.from_residual-in_err-push.result _ c.from_residual-in_err-push.ensures.0

pub returns-in-None-clause-shorter : goal.returns-in-None-clause-shorter
returns-in-None-clause-shorter g c = omega (arith, c.in_ok-found.ensures.shorter, c.loop-symbols.invariant.within)

pub returns-in-None-clause-no_comma : goal.returns-in-None-clause-no_comma
returns-in-None-clause-no_comma g c = c.in-None.ensures.first
