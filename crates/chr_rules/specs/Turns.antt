-- How lists of trees come about.
use Rattle.std.specs.Prelude.{List, [], ◌∷◌}
use Rattle.chr_semantics.specs.Names.{pair_symbol}
use Rattle.chr_semantics.specs.Tree.{Tree}
use Rattle.chr_semantics.specs.Syntax.{Expr}
use Rattle.chr_semantics.specs.Meaning.{Scope, node_of, operator_symbol, tree_from}
use Rattle.chr_read.specs.SyntaxView.{operator_view, view}
use Rattle.chr_read.specs.declared.syntax.Operator.{Operator}
use Rattle.chr_read.specs.declared.syntax.Expr.{Expr as Code}

-- the tree of an expression, as one element
abbrev pub tree_turn : Scope → Expr → Scope × List Tree
tree_turn s e = let r = tree_from s e in (r.0, r.1 ∷ [])

-- a chain, from the operands that are done on
abbrev pub with_operand : {A : Type 0} → Scope × Tree → Operator × Code A → Scope × Tree
with_operand q x = let r = tree_from q.0 (view x.1) in (r.0, node_of (operator_symbol (operator_view x.0)) q.1 r.1)

abbrev pub operands_from : {A : Type 0} → Scope × Tree → List (Operator × Code A) → Scope × Tree
operands_from q [] = q
operands_from q (x ∷ xs) = operands_from (with_operand q x) xs

-- the list of these trees that ends so
abbrev pub list_of : List Tree → Tree → Tree
list_of [] end = end
list_of (t ∷ ts) end = node_of pair_symbol t (list_of ts end)
