-- The place is advanced over the characters up to here, and goes on over the rest.
use Rattle.std.proofs.Common.{◌≡◌, ◌+◌, ◌≤◌, drop}
use Rattle.chr_semantics.specs.Tokens.{advance}
use Rattle.chr_tokens.specs.TokenView.{place_view}
use Rattle.chr_tokens.proofs.places.advance.Given as goal

abbrev pub invariant-loop-c : goal.invariant-loop-c
invariant-loop-c l = record {
  whole : advance (place_view l.initial.place) l.text ≡ advance (place_view l.place) (drop l.c-index l.text);
  line : l.place.line ≤ l.initial.place.line + l.c-index;
  column : l.place.column ≤ l.initial.place.column + l.c-index;
  from_one : 1 ≤ l.place.column;
}
