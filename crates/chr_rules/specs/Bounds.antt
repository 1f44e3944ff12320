-- That rules are bounded has one proof at most.
use Rattle.std.specs.Prelude.{ℕ}
use Rattle.std.proofs.Props.{props}
use Rattle.std.specs.Coded.{×_prop, Unit-prop, le_prop}
use Rattle.chr_semantics.specs.Tree.{Tree, var, int, node, Trees, none, more}
use Rattle.chr_semantics.specs.Program.{Goal, constraint, tell, evaluate, compare, fail, Test, identical, not_unifiable, compares, is_integer, is_ground, Head}
use Rattle.chr_semantics.specs.Bounds.{AreBelow, IsBelow, IsGoalBelow, IsHeadBelow, IsTestBelow}

-- each of these facts has one proof at most
mutual
  pub IsBelow-prop : (n : ℕ) (t : Tree) → IsProp (IsBelow n t)
  IsBelow-prop n (var x) = le_prop
  IsBelow-prop n (int z) = Unit-prop
  IsBelow-prop n (node f ts) = AreBelow-prop n ts

  pub AreBelow-prop : (n : ℕ) (ts : Trees) → IsProp (AreBelow n ts)
  AreBelow-prop n none = Unit-prop
  AreBelow-prop n (more t ts) = ×_prop (IsBelow-prop n t) (AreBelow-prop n ts)

pub IsTestBelow-prop : (n : ℕ) (t : Test) → IsProp (IsTestBelow n t)
IsTestBelow-prop n (identical t u) = ×_prop (IsBelow-prop n t) (IsBelow-prop n u)
IsTestBelow-prop n (not_unifiable t u) = ×_prop (IsBelow-prop n t) (IsBelow-prop n u)
IsTestBelow-prop n (compares c t u) = ×_prop (IsBelow-prop n t) (IsBelow-prop n u)
IsTestBelow-prop n (is_integer t) = IsBelow-prop n t
IsTestBelow-prop n (is_ground t) = IsBelow-prop n t

pub IsGoalBelow-prop : (n : ℕ) (g : Goal) → IsProp (IsGoalBelow n g)
IsGoalBelow-prop n (constraint a) = AreBelow-prop n a.args
IsGoalBelow-prop n (tell t u) = ×_prop (IsBelow-prop n t) (IsBelow-prop n u)
IsGoalBelow-prop n (evaluate t u) = ×_prop (IsBelow-prop n t) (IsBelow-prop n u)
IsGoalBelow-prop n (compare c t u) = ×_prop (IsBelow-prop n t) (IsBelow-prop n u)
IsGoalBelow-prop n fail = Unit-prop

pub IsHeadBelow-prop : (n : ℕ) (h : Head) → IsProp (IsHeadBelow n h)
IsHeadBelow-prop n h = AreBelow-prop n h.atom.args

-- the set for `by { Prim.hlevel bounds }` after a ghost field that says what is bounded
pub ruleset bounds = (IsBelow-prop, AreBelow-prop, IsHeadBelow-prop, IsTestBelow-prop, IsGoalBelow-prop, props)
