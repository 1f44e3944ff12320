use Rattle.std.proofs.Common.{◌≡◌, [], length}
use Rattle.chr_tokens.specs.TokenView.{placed_views}
use Rattle.chr_read.specs.SyntaxView.{part_views}
use Rattle.chr_read.specs.Automaton.{between, limited_room, run}
use Rattle.chr_read.proofs.reading.parts.Given as goal

abbrev pub invariant-loop-after : goal.invariant-loop-after
invariant-loop-after g l = run limited_room (between []) (placed_views l.fn.text) ≡ run limited_room (between (part_views l.parts.items)) (placed_views l.rest)

abbrev pub decreases-loop-after : goal.decreases-loop-after
decreases-loop-after g l = length l.rest
