-- The entries of a tree, in order.
use Rattle.std.specs.Prelude.{ℕ, suc, ◌+◌, List, [], ◌∷◌, ◌++◌, Option, Some, None}
use Rattle.std.specs.Arc.{arc_value}
use Rattle.std.specs.declared.sync.Arc.{Arc}
use Rattle.chr_map.specs.declared.node.Node.{Node, fold-Node}
use Rattle.chr_map.specs.declared.node.Node.TheOpen.{Node-F}
use Rattle.chr_map.specs.declared.node.Branch.{Branch}

-- what a tree is seen as: its entries, and how many nodes it has
pub record Seen (K V : Type 0) : Type 0 where
  pub entries : List (K × V)
  pub nodes : ℕ

module _ {K V : Type 0} where
  abbrev pub nothing : Seen K V
  nothing = record { entries = []; nodes = 0 }

  abbrev pub below : {A : Type 0} → Option (Arc (Seen K V) A) → Seen K V
  below None = nothing
  below (Some a) = arc_value a

  -- a tree and the branches behind it, with the trees already seen
  abbrev pub seen_run : {A : Type 0} → Option (Arc (Seen K V) A) → List (Branch K V (Option (Arc (Seen K V) A))) → Seen K V
  seen_run l [] = below l
  seen_run l (s ∷ ss) = record { entries = (below l).entries ++ (s.key, s.value) ∷ (seen_run s.after ss).entries; nodes = (below l).nodes + (seen_run s.after ss).nodes }

  -- one level
  abbrev pub seen_step : {A : Type 0} → Node-F K V A (Seen K V) → Seen K V
  seen_step n = record { entries = (seen_run n.first n.branches.items).entries; nodes = suc (seen_run n.first n.branches.items).nodes }

  abbrev pub node_seen : {A : Type 0} → Node K V A → Seen K V
  node_seen {A} = fold-Node K V A (Seen K V) seen_step

  abbrev pub node_entries : {A : Type 0} → Node K V A → List (K × V)
  node_entries n = (node_seen n).entries

  abbrev pub subtree_seen : {A : Type 0} → Option (Arc (Node K V A) A) → Seen K V
  subtree_seen None = nothing
  subtree_seen (Some a) = node_seen (arc_value a)

  abbrev pub subtree_entries : {A : Type 0} → Option (Arc (Node K V A) A) → List (K × V)
  subtree_entries l = (subtree_seen l).entries

module _ {K V A : Type 0} where
  -- a tree and the branches behind it
  abbrev pub run : Option (Arc (Node K V A) A) → List (Branch K V (Option (Arc (Node K V A) A))) → List (K × V)
  run l [] = subtree_entries l
  run l (s ∷ ss) = subtree_entries l ++ (s.key, s.value) ∷ run s.after ss

  abbrev pub run_nodes : Option (Arc (Node K V A) A) → List (Branch K V (Option (Arc (Node K V A) A))) → ℕ
  run_nodes l [] = (subtree_seen l).nodes
  run_nodes l (s ∷ ss) = (subtree_seen l).nodes + run_nodes s.after ss

  -- a branch, with what its tree is seen as
  abbrev pub branch_seen : Branch K V (Option (Arc (Node K V A) A)) → Branch K V (Seen K V)
  branch_seen s = record { key = s.key; value = s.value; after = subtree_seen s.after }
