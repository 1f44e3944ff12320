-- Variables that are below a number are below a larger one.
use Rattle.std.proofs.Common.{ℕ, ◌≤◌, arith}
use Rattle.chr_semantics.specs.Tree.{Tree, var, int, node, Trees, none, more}
use Rattle.chr_semantics.specs.Bounds.{AreBelow, IsBelow}

mutual
  pub below_more : (n m : ℕ) (t : Tree) → n ≤ m → IsBelow n t → IsBelow m t
  below_more n m (var x) h b = omega (arith, h, b)
  below_more n m (int z) h b = tt
  below_more n m (node f ts) h b = below_more_all n m ts h b

  pub below_more_all : (n m : ℕ) (ts : Trees) → n ≤ m → AreBelow n ts → AreBelow m ts
  below_more_all n m none h b = tt
  below_more_all n m (more t ts) h b = (below_more n m t h b.0, below_more_all n m ts h b.1)
