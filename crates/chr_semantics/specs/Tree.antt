-- Terms as trees (Frühwirth 2009, syntax of terms).
use Rattle.std.specs.Prelude.{◌≡◌, ◌↔◌, IsTrue, ℕ, ℤ, Bool, true, false, ◌&&◌, ◌==◌, List, [], ◌∷◌}
use Rattle.std.specs.Ordering.{int_eq}

-- A term is a variable with its number, a whole number, or a symbol over a list of terms. Symbols are numbered; one symbol over
-- lists of different lengths makes different terms.
mutual
  pub data Tree : Type 0 where
    var : ℕ → Tree
    int : ℤ → Tree
    node : ℕ → Trees → Tree

  pub data Trees : Type 0 where
    none : Trees
    more : Tree → Trees → Trees

abbrev pub trees_of : List Tree → Trees
trees_of [] = none
trees_of (t ∷ ts) = more t (trees_of ts)

-- no variable occurs in the term
abbrev mutual
  pub is_ground_tree : Tree → Bool
  is_ground_tree (var x) = false
  is_ground_tree (int z) = true
  is_ground_tree (node f ts) = is_ground_trees ts

  pub is_ground_trees : Trees → Bool
  is_ground_trees none = true
  is_ground_trees (more t ts) = is_ground_tree t && is_ground_trees ts

-- the two terms are identical
abbrev mutual
  pub same : Tree → Tree → Bool
  same (var x) (var y) = x == y
  same (var x) (int z) = false
  same (var x) (node g us) = false
  same (int z) (var y) = false
  same (int z) (int w) = int_eq z w
  same (int z) (node g us) = false
  same (node f ts) (var y) = false
  same (node f ts) (int w) = false
  same (node f ts) (node g us) = f == g && same_all ts us

  pub same_all : Trees → Trees → Bool
  same_all none none = true
  same_all none (more u us) = false
  same_all (more t ts) none = false
  same_all (more t ts) (more u us) = same t u && same_all ts us

-- the test of identity says whether two terms, or two lists of terms, are equal
pub record SameLaw : Type 0 where
  pub terms : (t u : Tree) → IsTrue (same t u) ↔ (t ≡ u)
  pub lists : (ts us : Trees) → IsTrue (same_all ts us) ↔ (ts ≡ us)
