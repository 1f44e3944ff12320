use Rattle.std.proofs.Common.{◌≡◌, ◌≤◌, [], length}
use Rattle.chr_semantics.specs.Syntax.{Program}
use Rattle.chr_tokens.specs.TokenView.{placed_views}
use Rattle.chr_read.specs.SyntaxView.{item_views}
use Rattle.chr_read.specs.Automaton.{limited_room, run, state_before_item}
use Rattle.chr_read.specs.Reads.{Slot, slot_section}
use Rattle.chr_read.proofs.items.item_list.Given as goal

abbrev pub invariant-loop-items : goal.invariant-loop-items
invariant-loop-items g l = record {
  reads : (f : Slot) (ps : Program) → run limited_room (state_before_item (slot_section f []) ps) (placed_views l.fn.text) ≡ run limited_room (state_before_item (slot_section f (item_views l.items.items)) ps) (placed_views l.rest);
  within : length l.rest ≤ length l.fn.text;
}

abbrev pub decreases-loop-items : goal.decreases-loop-items
decreases-loop-items g l = length l.rest
