-- The entries of a node, by its spans.
use Rattle.std.proofs.Common.{◌≡◌, ◌∙◌, ℕ, suc, ◌+◌, List, [], ◌∷◌, ◌++◌, ap, refl, map, sym, ◌<◌, arith, vec_len, vec_capacity}
use Rattle.std.specs.Prelude.{Option, Some, None}
use Rattle.std.specs.declared.sync.Arc.{Arc}
use Rattle.chr_map.specs.Entries.{Seen, below, subtree_entries, subtree_seen, node_entries, node_seen, run, run_nodes, seen_run, seen_step, branch_seen}
use Rattle.chr_map.specs.Places.{SameParts, Swaps, at_place, before_place, behind_place, entries_at, entries_before, entries_behind, branch_count, branch_room}
use Rattle.chr_map.proofs.Runs.{run_parts}
use Rattle.chr_map.specs.declared.node.Node.{Node, fold_out-Node, map-Node, out-Node, out-roll-Node, roll-Node}
use Rattle.chr_map.specs.declared.node.Node.TheOpen.{Node-F}
use Rattle.chr_map.specs.declared.node.Branch.{Branch}

-- a tree and branches behind it, by what is seen of them
abbrev seen_of : {K V : Type 0} → Seen K V → List (Branch K V (Seen K V)) → Seen K V
seen_of t [] = t
seen_of t (s ∷ ss) = record { entries = t.entries ++ (s.key, s.value) ∷ (seen_of s.after ss).entries; nodes = t.nodes + (seen_of s.after ss).nodes }

module _ {K V A : Type 0} where
  -- a node as the record of its fields
  abbrev pub spans : Node K V A → Node-F K V A (Node K V A)
  spans n = out-Node K V A n

  module _ (x : Node-F K V A (Node K V A)) where
    -- a subtree and a branch below, seen
    abbrev seen_subtree : Option (Arc (Node K V A) A) → Option (Arc (Seen K V) A)
    seen_subtree l = (map-Node K V A (Node K V A) (Seen K V) node_seen (record x { first = l })).first

    abbrev seen_branch : Branch K V (Option (Arc (Node K V A) A)) → Branch K V (Option (Arc (Seen K V) A))
    seen_branch s = record { key = s.key; value = s.value; after = seen_subtree s.after }

    seen_below : (l : Option (Arc (Node K V A) A)) → below (seen_subtree l) ≡ subtree_seen l
    seen_below None = refl
    seen_below (Some a) = refl

    run_seen : (l : Option (Arc (Node K V A) A)) (ss : List (Branch K V (Option (Arc (Node K V A) A)))) → seen_run (seen_subtree l) (map seen_branch ss) ≡ record { entries = run l ss; nodes = run_nodes l ss }
    run_seen l [] = seen_below l
    run_seen l (s ∷ ss) = rw (seen_below l, run_seen s.after ss) refl

  -- what a node has, by its spans
  pub seen_is : (n : Node K V A) → node_seen n ≡ record { entries = run (spans n).first (spans n).branches.items; nodes = suc (run_nodes (spans n).first (spans n).branches.items) }
  seen_is n = fold_out-Node K V A (Seen K V) seen_step n
      ∙ ap (λ (r : Seen K V). let s : Seen K V = record { entries = r.entries; nodes = suc r.nodes } in s) (run_seen (spans n) (spans n).first (spans n).branches.items)

  pub node_is : (n : Node K V A) → node_entries n ≡ run (spans n).first (spans n).branches.items
  node_is n = ap (λ (r : Seen K V). r.entries) (seen_is n)

  pub nodes_are : (n : Node K V A) → (node_seen n).nodes ≡ suc (run_nodes (spans n).first (spans n).branches.items)
  nodes_are n = ap (λ (r : Seen K V). r.nodes) (seen_is n)

  -- a node of such spans
  module _ (x : Node-F K V A (Node K V A)) where
    pub rolled : node_entries (roll-Node K V A x) ≡ run x.first x.branches.items
    rolled = node_is (roll-Node K V A x) ∙ ap (λ (p : Node-F K V A (Node K V A)). run p.first p.branches.items) (out-roll-Node K V A x)

    pub rolled_before : (i : ℕ) → entries_before (roll-Node K V A x) i ≡ before_place i x.first x.branches.items
    rolled_before i = ap (λ (p : Node-F K V A (Node K V A)). before_place i p.first p.branches.items) (out-roll-Node K V A x)

    pub rolled_at : (i : ℕ) → entries_at (roll-Node K V A x) i ≡ at_place i x.first x.branches.items
    rolled_at i = ap (λ (p : Node-F K V A (Node K V A)). at_place i p.first p.branches.items) (out-roll-Node K V A x)

    pub rolled_behind : (i : ℕ) → entries_behind (roll-Node K V A x) i ≡ behind_place i x.branches.items
    rolled_behind i = ap (λ (p : Node-F K V A (Node K V A)). behind_place i p.branches.items) (out-roll-Node K V A x)

    pub rolled_count : branch_count (roll-Node K V A x) ≡ vec_len x.branches
    rolled_count = ap (λ (p : Node-F K V A (Node K V A)). vec_len p.branches) (out-roll-Node K V A x)

    pub rolled_room : branch_room (roll-Node K V A x) ≡ vec_capacity x.branches
    rolled_room = ap (λ (p : Node-F K V A (Node K V A)). vec_capacity p.branches) (out-roll-Node K V A x)

  pub rolled_free : (x : Node-F K V A (Node K V A)) → vec_len x.branches < vec_capacity x.branches → branch_count (roll-Node K V A x) < branch_room (roll-Node K V A x)
  rolled_free x h = let count = rolled_count x in let room = rolled_room x in omega arith

  pub rolled_same : (x : Node-F K V A (Node K V A)) (n : Node K V A) → x.first ≡ (spans n).first → x.branches.items ≡ (spans n).branches.items → vec_len x.branches ≡ vec_len (spans n).branches → SameParts (roll-Node K V A x) n
  rolled_same x n first items count = record {
    first = ap (λ (p : Node-F K V A (Node K V A)). p.first) (out-roll-Node K V A x) ∙ first;
    branches = ap (λ (p : Node-F K V A (Node K V A)). p.branches.items) (out-roll-Node K V A x) ∙ items;
    count = rolled_count x ∙ count;
  }

  -- a node by its spans at a place
  pub node_split : (n : Node K V A) (i : ℕ) → node_entries n ≡ entries_before n i ++ (entries_at n i ++ entries_behind n i)
  node_split n i = node_is n ∙ run_parts i (spans n).first (spans n).branches.items

  by_seen : (l : Option (Arc (Node K V A) A)) (ss : List (Branch K V (Option (Arc (Node K V A) A)))) → record { entries = run l ss; nodes = run_nodes l ss } ≡ seen_of (subtree_seen l) (map branch_seen ss)
  by_seen l [] = refl
  by_seen l (s ∷ ss) = ap (λ (r : Seen K V). let t : Seen K V = record { entries = subtree_entries l ++ (s.key, s.value) ∷ r.entries; nodes = (subtree_seen l).nodes + r.nodes } in t) (by_seen s.after ss)

  -- a node of spans that are seen alike
  pub seen_alike : (x : Node-F K V A (Node K V A)) (n : Node K V A) → subtree_seen x.first ≡ subtree_seen (spans n).first → map branch_seen x.branches.items ≡ map branch_seen (spans n).branches.items → node_seen (roll-Node K V A x) ≡ node_seen n
  seen_alike x n first branches =
      let step : Seen K V → Seen K V = λ (r : Seen K V). record { entries = r.entries; nodes = suc r.nodes } in
      seen_is (roll-Node K V A x)
      ∙ (ap (λ (p : Node-F K V A (Node K V A)). step (record { entries = run p.first p.branches.items; nodes = run_nodes p.first p.branches.items })) (out-roll-Node K V A x)
      ∙ (ap step (by_seen x.first x.branches.items)
      ∙ (ap (λ (t : Seen K V). step (seen_of t (map branch_seen x.branches.items))) first
      ∙ (ap (λ (ss : List (Branch K V (Seen K V))). step (seen_of (subtree_seen (spans n).first) ss)) branches
      ∙ (ap step (sym (by_seen (spans n).first (spans n).branches.items))
      ∙ sym (seen_is n))))))

  -- a node of the same spans as another
  module _ (m n : Node K V A) (same : SameParts m n) where
    pub same_seen : node_seen m ≡ node_seen n
    same_seen = seen_is m ∙ (rw (same.first, same.branches) (sym (seen_is n)))

    pub same_entries : node_entries m ≡ node_entries n
    same_entries = ap (λ (t : Seen K V). t.entries) same_seen

    pub same_swaps : (new : Node K V A) (i : ℕ) (given got : Option (Arc (Node K V A) A)) → Swaps m new i given got → Swaps n new i given got
    same_swaps new i given got s = record {
      before = s.before ∙ rw (same.first, same.branches) refl;
      here = s.here;
      behind = s.behind ∙ rw same.branches refl;
      taken = s.taken ∙ rw (same.first, same.branches) refl;
      fewer = let h = ap (λ (t : Seen K V). t.nodes) same_seen in let f = s.fewer in omega arith;
      count = s.count ∙ same.count;
    }
