use Rattle.std.proofs.Common.{◌≡◌, ◌+◌, ◌*◌, ◌≤◌, List, [], ◌∷◌, Option, None, length}
use Rattle.chr_semantics.specs.Tokens.{Additive}
use Rattle.chr_semantics.specs.Syntax as syntax
use Rattle.chr_tokens.specs.TokenView.{placed_views}
use Rattle.chr_read.specs.SyntaxView.{chain, operand_views, views}
use Rattle.chr_read.specs.Automaton.{Prefix, Frame, Container, elements, want, have, no_prefix, run, limited_room}
use Rattle.chr_read.specs.Reads.{Leaves, NoMultiplicative}
use Rattle.chr_read.proofs.exprs.+expr.Given as goal

abbrev pub decreases-name_or_call : goal.decreases-name_or_call
decreases-name_or_call g l = l.room * 8 + 1

abbrev pub decreases-primary : goal.decreases-primary
decreases-primary g l = l.room * 8 + 2

abbrev pub decreases-further_primaries : goal.decreases-further_primaries
decreases-further_primaries g l = l.room * 8 + 3

abbrev pub decreases-product : goal.decreases-product
decreases-product g l = l.room * 8 + 4

abbrev pub decreases-further_products : goal.decreases-further_products
decreases-further_products g l = l.room * 8 + 5

abbrev pub decreases-sum : goal.decreases-sum
decreases-sum g l = l.room * 8 + 6

abbrev pub decreases-list_end : goal.decreases-list_end
decreases-list_end g l = l.room * 8 + 7

abbrev pub decreases-in_parens : goal.decreases-in_parens
decreases-in_parens g l = l.room * 8 + 7

abbrev pub decreases-elements : goal.decreases-elements
decreases-elements g l = l.room * 8 + 7

abbrev pub decreases-list : goal.decreases-list
decreases-list g l = l.room * 8 + 8

abbrev pub invariant-further_primaries-loop-operator : goal.invariant-further_primaries-loop-operator
invariant-further_primaries-loop-operator g l = record {
  reads : (s : Option (syntax.Expr × Additive)) (e : syntax.Expr) (k : List Frame) → Leaves l.room k → run limited_room (have s e k) (placed_views l.fn.text) ≡ run limited_room (have s (chain e (operand_views l.operands.items)) k) (placed_views l.rest);
  within : length l.rest ≤ length l.fn.text;
}

abbrev pub decreases-further_primaries-loop-operator : goal.decreases-further_primaries-loop-operator
decreases-further_primaries-loop-operator g l = length l.rest

abbrev pub invariant-further_products-loop-operator : goal.invariant-further_products-loop-operator
invariant-further_products-loop-operator g l = record {
  reads : (e : syntax.Expr) (k : List Frame) → Leaves l.room k → run limited_room (have None e k) (placed_views l.fn.text) ≡ run limited_room (have None (chain e (operand_views l.operands.items)) k) (placed_views l.rest);
  within : length l.rest ≤ length l.fn.text;
  no_product : NoMultiplicative (placed_views l.rest);
}

abbrev pub decreases-further_products-loop-operator : goal.decreases-further_products-loop-operator
decreases-further_products-loop-operator g l = length l.rest

abbrev pub invariant-elements-loop-items : goal.invariant-elements-loop-items
invariant-elements-loop-items g l = record {
  reads : (q : Container) (b : Prefix) (k : List Frame) → Leaves l.room (elements q [] b ∷ k) → run limited_room (want no_prefix (elements q [] b ∷ k)) (placed_views l.fn.text) ≡ run limited_room (want no_prefix (elements q (views l.items.items) b ∷ k)) (placed_views l.rest);
  within : length l.rest ≤ length l.fn.text;
}

abbrev pub decreases-elements-loop-items : goal.decreases-elements-loop-items
decreases-elements-loop-items g l = length l.rest
