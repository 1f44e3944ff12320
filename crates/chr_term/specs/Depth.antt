-- How deep recursions go below terms: arguments are smaller than what they stand in.
use Rattle.std.specs.Prelude.{ℕ, ◌+◌, ◌*◌, ◌≤◌, max, List, [], ◌∷◌}
use Rattle.std.proofs.Common.{arith}
use Rattle.std.specs.declared.alloc.Allocator as allocator
use denote.Param.Weighed.{most}
use Rattle.chr_term.specs.Size.{size, size_all}
use Rattle.chr_term.specs.TermView.{trees_view, view}
use Rattle.chr_term.specs.declared.term.Term.{Term}
use Rattle.chr_term.specs.declared.term.Term.TheVariants.{Var, Int, Node}
use Rattle.chr_term.specs.declared.args.Args.TheDeep.{deep-Term, size-Term}

node_le : (n : ℕ) → 2 * max (n + 1) 0 + 1 ≤ 2 * (n + 2) + 1
node_le n = omega arith

module _ {A : Type 0} (G : allocator.Ghosts A) where
  -- what the recursion of a function over these terms falls by
  abbrev pub depth : List (Term A) → ℕ
  depth ts = most (size-Term A G) ts

  deep_le-size : (t : Term A) → deep-Term A G t ≤ size (view t)
  deep_le-size (Var x) = omega arith
  deep_le-size (Int z) = omega arith
  deep_le-size (Node f ts) = omega arith

  pub most_le-size_all : (ts : List (Term A)) → max (most (deep-Term A G) ts) 0 ≤ size_all (trees_view ts)
  most_le-size_all [] = omega arith
  most_le-size_all (t ∷ ts) = omega (arith, deep_le-size t, most_le-size_all ts)

  term_le-size : (t : Term A) → size-Term A G t ≤ 2 * size (view t) + 1
  term_le-size (Var x) = omega arith
  term_le-size (Int z) = omega arith
  term_le-size (Node f ts) = node_le (size_all ts)

  pub depth_le-size_all : (ts : List (Term A)) → depth ts ≤ 2 * size_all (trees_view ts) + 1
  depth_le-size_all [] = omega arith
  depth_le-size_all (t ∷ ts) = omega (arith, term_le-size t, depth_le-size_all ts)
