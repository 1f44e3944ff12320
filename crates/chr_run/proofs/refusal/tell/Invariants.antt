-- The pieces before the index are out.
use Rattle.std.proofs.Common.{drop, map}
use Rattle.std.specs.List.{concat}
use Rattle.chr_run.specs.Output.{IsOut}
use Rattle.chr_run.proofs.refusal.tell.Given as goal

abbrev pub invariant-loop-piece : goal.invariant-loop-piece
invariant-loop-piece g l =
    IsOut (g.E.Write.contents l.initial.error) (g.E.Write.contents l.error) (concat (map (λ piece. piece.now) l.pieces))
    (concat (map (λ piece. piece.now) (drop l.piece-index l.pieces)))
