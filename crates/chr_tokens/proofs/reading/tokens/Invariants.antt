-- The tokens of the text are those that are found and those of the rest, of which there are no more than it has characters.
use Rattle.std.proofs.Common.{◌+◌, ◌≤◌, length}
use Rattle.chr_semantics.specs.Tokens as semantics
use Rattle.chr_tokens.specs.TokenView.{place_view, placed_views}
use Rattle.chr_tokens.proofs.Cuts.{Reading}
use Rattle.chr_tokens.proofs.reading.tokens.Given as goal

abbrev pub invariant-loop-token : goal.invariant-loop-token
invariant-loop-token g l = record {
  whole : Reading (semantics.tokens l.fn.text) (placed_views l.found.items) l.signed (place_view l.place) l.rest;
  few : length l.found.items + length l.rest ≤ length l.fn.text;
  line : l.place.line + length l.rest ≤ 1 + length l.fn.text;
  column : l.place.column + length l.rest ≤ 1 + length l.fn.text;
  from_one : 1 ≤ l.place.column;
}

abbrev pub decreases-loop-token : goal.decreases-loop-token
decreases-loop-token g l = length l.rest
