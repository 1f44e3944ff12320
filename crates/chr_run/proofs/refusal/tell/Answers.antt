use Rattle.std.proofs.Common.{◌∙◌, ◌++◌, ◌+◌, ℕ, List, ap, sym, map, drop}
use Rattle.std.specs.Borrow.{Bor}
use Rattle.std.specs.List.{concat}
use Rattle.chr_run.proofs.Parts.{as_part, out-more, part-more, texts_from}
use Rattle.chr_run.proofs.refusal.tell.Goals as goal

pub returns-in-Err-clause-err : goal.returns-in-Err-clause-err
returns-in-Err-clause-err g c =
    part-more _ _ _ _ _ c.as_bytes.result.now _ c.loop-piece.invariant
    (texts_from c.args.pieces.now c.loop-piece.piece-index _ c.loop-piece-test.true ∙ ap (λ t. t ++ concat (map (λ (s : Bor (List ℕ)). s.now) (drop (c.loop-piece.piece-index + 1) c.args.pieces.now))) (sym c.as_bytes.ensures.value)) (as_part _ _ _ c.in-Err.ensures.err)

pub loop-piece-preserved : goal.loop-piece-preserved
loop-piece-preserved g c =
    out-more _ _ _ _ _ c.as_bytes.result.now _ c.loop-piece.invariant
    (texts_from c.args.pieces.now c.loop-piece.piece-index _ c.loop-piece-test.true ∙ ap (λ t. t ++ concat (map (λ (s : Bor (List ℕ)). s.now) (drop (c.loop-piece.piece-index + 1) c.args.pieces.now))) (sym c.as_bytes.ensures.value)) c.in-Ok.ensures.ok
