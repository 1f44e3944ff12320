-- What stands in the place of terms that may be replaced: where nothing does so, the same.
use Rattle.std.specs.Prelude.{ℕ, List, [], ◌∷◌, map, Option, Some, None, Vec, slice_get}
use Rattle.chr_semantics.specs.Tree.{Tree, Trees, trees_of}
use Rattle.chr_term.specs.TermView.{view}
use Rattle.chr_term.specs.declared.term.Term.{Term}

abbrev pub args_by : Trees → Option Trees → Trees
args_by ts None = ts
args_by ts (Some us) = us

module _ {A : Type 0} where
  abbrev pub tree_by : Tree → Option (Term A) → Tree
  tree_by t None = t
  tree_by t (Some u) = view u

  abbrev pub list_by : List (Term A) → Option (Vec (Term A) A) → List Tree
  list_by ts None = map view ts
  list_by ts (Some us) = map view us.items

  abbrev pub trees_by : List (Term A) → Option (Vec (Term A) A) → Trees
  trees_by ts made = trees_of (list_by ts made)

  abbrev pub replaced_in : Option (Term A) → Option (Term A) → List Tree
  replaced_in None u = []
  replaced_in (Some t) u = tree_by (view t) u ∷ []

  -- what stands in the place of the term at an index
  abbrev pub tree_at : List (Term A) → ℕ → Option (Term A) → List Tree
  tree_at ts i u = replaced_in (slice_get ts i) u
