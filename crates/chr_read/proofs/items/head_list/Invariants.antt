use Rattle.std.proofs.Common.{◌≡◌, ◌≤◌, [], length}
use Rattle.chr_semantics.specs.Syntax.{Program}
use Rattle.chr_tokens.specs.TokenView.{placed_views}
use Rattle.chr_read.specs.SyntaxView.{head_views}
use Rattle.chr_read.specs.Automaton.{limited_room, run, state_before_item}
use Rattle.chr_read.specs.Reads.{Side, side_section}
use Rattle.chr_read.proofs.items.head_list.Given as goal

abbrev pub invariant-loop-heads : goal.invariant-loop-heads
invariant-loop-heads g l = record {
  reads : (f : Side) (ps : Program) → run limited_room (state_before_item (side_section f []) ps) (placed_views l.fn.text) ≡ run limited_room (state_before_item (side_section f (head_views l.heads.items)) ps) (placed_views l.rest);
  within : length l.rest ≤ length l.fn.text;
}

abbrev pub decreases-loop-heads : goal.decreases-loop-heads
decreases-loop-heads g l = length l.rest
