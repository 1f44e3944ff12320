use Rattle.std.proofs.Common.{◌≡◌, ◌≤◌, Bool, [], length, ℕ}
use Rattle.chr_semantics.specs.Syntax.{Program}
use Rattle.chr_tokens.specs.TokenView.{placed_views}
use Rattle.chr_read.specs.SyntaxView.{declaration_views}
use Rattle.chr_read.specs.Automaton.{limited_room, run, symbol}
use Rattle.chr_read.specs.Parts.{listing}
use Rattle.chr_read.proofs.directives.symbols.Given as goal

abbrev pub invariant-loop-symbols : goal.invariant-loop-symbols
invariant-loop-symbols g l = record {
  reads : (m : Bool) (k : ℕ) (ps : Program) → run limited_room (symbol (listing m k ps [])) (placed_views l.fn.text) ≡ run limited_room (symbol (listing m k ps (declaration_views l.symbols.items))) (placed_views l.rest);
  within : length l.rest ≤ length l.fn.text;
}

abbrev pub decreases-loop-symbols : goal.decreases-loop-symbols
decreases-loop-symbols g l = length l.rest
