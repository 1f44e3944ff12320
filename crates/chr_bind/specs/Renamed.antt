-- Terms whose variables are numbered anew.
use Rattle.std.specs.Prelude.{◌≡◌, ℕ, ◌==◌, List, length, get_or}
use Rattle.std.specs.List.{IsDistinct}
use Rattle.chr_semantics.specs.Tree.{Tree, Trees, var}
use Rattle.chr_semantics.specs.Subst.{instance, instances}
use Rattle.chr_semantics.specs.Bounds.{AreBelow, IsBelow}

-- the variable that had a number
abbrev pub old_variable : List ℕ → ℕ → Tree
old_variable names i = var (get_or names i 0)

-- each variable has one number
abbrev pub IsNames : List ℕ → Type 0
IsNames names = IsDistinct (λ x y. x == y) names

-- r is t with its variables numbered by their place among the names
pub record IsRenamed (names : List ℕ) (r t : Tree) : Type 0 where
  pub same : instance (old_variable names) r ≡ t
  pub below : IsBelow (length names) r

pub record AreRenamed (names : List ℕ) (rs ts : Trees) : Type 0 where
  pub same : instances (old_variable names) rs ≡ ts
  pub below : AreBelow (length names) rs
