-- What stands in a node before, at and behind a place: in front of a branch, or behind all.
use Rattle.std.specs.Prelude.{◌≡◌, ℕ, zero, suc, ◌<◌, ◌≤◌, length, List, [], ◌∷◌, ◌++◌, drop, Option, None, vec_len, vec_capacity}
use Rattle.std.specs.declared.cmp.Ordering.{Ordering}
use Rattle.std.specs.declared.cmp.Ordering.TheVariants.{Less, Equal, Greater}
use Rattle.std.specs.declared.sync.Arc.{Arc}
use Rattle.chr_map.specs.Entries.{subtree_entries, subtree_seen, node_seen, run}
use Rattle.chr_map.specs.declared.node.Node.{Node, out-Node}
use Rattle.chr_map.specs.declared.node.Branch.{Branch}

module _ {K V A : Type 0} where
  abbrev pub before_place : ℕ → Option (Arc (Node K V A) A) → List (Branch K V (Option (Arc (Node K V A) A))) → List (K × V)
  before_place zero l ss = []
  before_place (suc i) l [] = []
  before_place (suc i) l (s ∷ ss) = subtree_entries l ++ (s.key, s.value) ∷ before_place i s.after ss

  abbrev pub at_place : ℕ → Option (Arc (Node K V A) A) → List (Branch K V (Option (Arc (Node K V A) A))) → List (K × V)
  at_place zero l ss = subtree_entries l
  at_place (suc i) l [] = subtree_entries l
  at_place (suc i) l (s ∷ ss) = at_place i s.after ss

  abbrev pub behind_place : ℕ → List (Branch K V (Option (Arc (Node K V A) A))) → List (K × V)
  behind_place i ss = run None (drop i ss)

  abbrev pub branches_of : Node K V A → List (Branch K V (Option (Arc (Node K V A) A)))
  branches_of n = (out-Node K V A n).branches.items

  abbrev pub branch_count : Node K V A → ℕ
  branch_count n = vec_len (out-Node K V A n).branches

  abbrev pub branch_room : Node K V A → ℕ
  branch_room n = vec_capacity (out-Node K V A n).branches

  -- the entries of a node before the tree at a place, those of that tree, and those behind it
  abbrev pub entries_before : Node K V A → ℕ → List (K × V)
  entries_before n i = before_place i (out-Node K V A n).first (branches_of n)

  abbrev pub entries_at : Node K V A → ℕ → List (K × V)
  entries_at n i = at_place i (out-Node K V A n).first (branches_of n)

  abbrev pub entries_behind : Node K V A → ℕ → List (K × V)
  entries_behind n i = behind_place i (branches_of n)

  -- a node with other entries in the place of a tree
  abbrev pub with_tree : Node K V A → ℕ → List (K × V) → List (K × V)
  with_tree n i es = entries_before n i ++ (es ++ entries_behind n i)

  -- a tree of a node was swapped with another
  pub record Swaps (old new : Node K V A) (i : ℕ) (given got : Option (Arc (Node K V A) A)) : Type 0 where
    pub before : entries_before new i ≡ entries_before old i
    pub here : entries_at new i ≡ subtree_entries given
    pub behind : entries_behind new i ≡ entries_behind old i
    pub taken : subtree_entries got ≡ entries_at old i
    pub fewer : (subtree_seen got).nodes < (node_seen old).nodes
    pub count : branch_count new ≡ branch_count old

  -- a node has the trees and the branches of another
  pub record SameParts (new old : Node K V A) : Type 0 where
    pub first : (out-Node K V A new).first ≡ (out-Node K V A old).first
    pub branches : branches_of new ≡ branches_of old
    pub count : branch_count new ≡ branch_count old

module _ {K V L : Type 0} (cmp : K → K → Ordering) (k : K) where
  -- the key k compares so to that of the branch at i, if there is one
  abbrev pub Compares : Ordering → List (Branch K V L) → ℕ → Type 0
  Compares o [] i = Unit {0}
  Compares o (s ∷ ss) zero = cmp k s.key ≡ o
  Compares o (s ∷ ss) (suc i) = Compares o ss i

  -- it is greater than the key of the branch in front of the place i, if there is one
  abbrev pub IsGreater : List (Branch K V L) → ℕ → Type 0
  IsGreater ss zero = Unit {0}
  IsGreater ss (suc i) = Compares Greater ss i

  -- the branches where k is, and those between which it belongs
  pub record IsFound (ss : List (Branch K V L)) (i : ℕ) : Type 0 where
    pub inside : i < length ss
    pub here : Compares Equal ss i

  pub record IsBetween (ss : List (Branch K V L)) (i : ℕ) : Type 0 where
    pub inside : i ≤ length ss
    pub greater : IsGreater ss i
    pub less : Compares Less ss i
