-- The size of a tree, by which recursions over terms end.
use Rattle.std.specs.Prelude.{ℕ, ◌+◌}
use Rattle.chr_semantics.specs.Tree.{Tree, var, int, node, Trees, none, more}

-- a symbol counts more than its arguments and their list
abbrev mutual
  pub size : Tree → ℕ
  size (var x) = 1
  size (int z) = 1
  size (node f ts) = size_all ts + 2

  pub size_all : Trees → ℕ
  size_all none = 0
  size_all (more t ts) = size t + size_all ts
