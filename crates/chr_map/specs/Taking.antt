-- Taking entries out of a tree, and handing them up.
use Rattle.std.specs.Prelude.{◌≡◌, List, [], ◌∷◌, ◌++◌, Option, Some, None}
use Rattle.std.specs.declared.sync.Arc.{Arc}
use Rattle.chr_map.specs.Entries.{subtree_entries, node_entries}
use Rattle.chr_map.specs.declared.node.Taken.{Taken}
use Rattle.chr_map.specs.declared.node.Node.{Node}
use Rattle.chr_map.specs.declared.node.Branch.{Branch}
use Rattle.chr_map.specs.declared.taking.Left.{Left}
use Rattle.chr_map.specs.declared.taking.Left.TheVariants.{Node as Same, Tree}

-- of these entries the last is taken and those others stay, or there is none
abbrev pub HasLast : {K V : Type 0} → List (K × V) → Option (Taken K V) → List (K × V) → Type 0
HasLast es None others = (es ≡ []) × (others ≡ [])
HasLast es (Some t) others = es ≡ others ++ (t.key, t.value) ∷ []

module _ {K V A : Type 0} where
  -- what stands in the place of a node
  abbrev pub left_entries : Left K V A → Node K V A → List (K × V)
  left_entries Same n = node_entries n
  left_entries (Tree l) n = subtree_entries l

  -- entries, and a branch that is handed up from them
  abbrev pub with_up : List (K × V) → Option (Branch K V (Option (Arc (Node K V A) A))) → List (K × V)
  with_up es None = es
  with_up es (Some s) = es ++ (s.key, s.value) ∷ subtree_entries s.after

  -- a node is cut in two at an entry, or is as it was
  abbrev pub IsCut : Node K V A → Node K V A → Node K V A → Option (Taken K V) → Type 0
  IsCut old new right None = node_entries new ≡ node_entries old
  IsCut old new right (Some e) = node_entries old ≡ node_entries new ++ (e.key, e.value) ∷ node_entries right
