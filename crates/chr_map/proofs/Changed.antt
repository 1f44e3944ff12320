-- Nodes that were changed at a place.
use Rattle.std.proofs.Common.{◌≡◌, ◌∙◌, ℕ, suc, ◌<◌, ◌≤◌, List, [], ◌∷◌, ◌++◌, length, take, drop, get_or, ap, refl, sym, subst, arith, append_assoc}
use Rattle.std.specs.Prelude.{Option, Some, None, Vec}
use Rattle.std.proofs.lemmas.List.{append-nil, take-append-drop}
use Rattle.std.specs.List.{remove}
use Rattle.std.specs.Vec.{with_item}
use Rattle.chr_map.specs.Entries.{subtree_entries, subtree_seen, node_entries, run}
use Rattle.std.specs.Cmp.{IsTotalOrder}
use Rattle.std.specs.declared.cmp.Ordering.{Ordering}
use Rattle.std.specs.Arc.{arc_value}
use Rattle.std.specs.declared.sync.Arc.{Arc}
use Rattle.chr_map.specs.Order.{Ascends, IsAbove, IsAtFirst, IsBelow, on_first, value_of}
use Rattle.chr_map.proofs.Between.{ascends_between, value_between, value_first}
use Rattle.chr_map.specs.Places.{Swaps, at_place, before_place, behind_place, entries_at, entries_before, entries_behind, with_tree}
use Rattle.chr_map.specs.Taking.{HasLast, with_up}
use Rattle.chr_map.specs.declared.node.Node.{Node, roll-Node}
use Rattle.chr_map.specs.declared.node.Taken.{Taken}
use Rattle.chr_map.proofs.Parts.{node_is, node_split, nodes_are, spans, rolled, rolled_at, rolled_before, rolled_behind, rolled_count}
use Rattle.chr_map.proofs.Runs.{One, Tree, at_new, at_branch, before_new, before_removed, behind_end, behind_new, behind_removed, entry_of, at_end, nodes_first, nodes_branch, run_append, run_cut, run_insert, run_none, run_set, some_behind}

-- the first of these changed: to another, and not at all
first_instead : {X : Type 0} (e : X) (xs : List X) → 0 < length xs → on_first (λ (_ : X). e) xs ≡ e ∷ drop 1 xs
first_instead e [] some = absurd (omega arith)
first_instead e (x ∷ xs) some = refl

on_first_same : {X : Type 0} (xs : List X) → on_first (λ (x : X). x) xs ≡ xs
on_first_same [] = refl
on_first_same (x ∷ xs) = refl

module _ {K V : Type 0} where
  -- what is found in equal entries
  pub found_through : (cmp : K → K → Ordering) (k : K) (found : Option V) (es fs : List (K × V)) → es ≡ fs → (Ascends cmp fs → found ≡ value_of cmp fs k) → Ascends cmp es → found ≡ value_of cmp es k
  found_through cmp k found es fs e h up = h (subst (Ascends cmp) e up) ∙ sym (ap (λ (x : List (K × V)). value_of cmp x k) e)

  -- what was taken out last
  pub has_last : (es others : List (K × V)) (o : Option (Taken K V)) (t : Taken K V) → o ≡ Some t → HasLast es o others → es ≡ others ++ (t.key, t.value) ∷ []
  has_last es others o t e h = subst (λ (x : Option (Taken K V)). HasLast es x others) e h

  pub has_none : (es others : List (K × V)) (o : Option (Taken K V)) → o ≡ None → HasLast es o others → (es ≡ []) × (others ≡ [])
  has_none es others o e h = subst (λ (x : Option (Taken K V)). HasLast es x others) e h

  -- the spans of nothing
  nothing_around : (xs ys zs : List (K × V)) → xs ++ (ys ++ zs) ≡ [] → (xs ≡ []) × (zs ≡ [])
  nothing_around [] [] zs e = (refl, e)
  nothing_around [] (y ∷ ys) zs e = let h : [] ≡ y ∷ (ys ++ zs) = sym e in (refl, (cc))
  nothing_around (x ∷ xs) ys zs e = ((cc), (cc))

module _ {K V A : Type 0} where
  -- another size
  pub resized : (n : Node K V A) (size : ℕ) → node_entries (roll-Node K V A (record { first = (spans n).first; branches = (spans n).branches; size = size })) ≡ node_entries n
  resized n size = rolled _ ∙ sym (node_is n)

  pub resized_swaps : (old n : Node K V A) (size i : ℕ) (given got : Tree K V A) → Swaps old n i given got → Swaps old (roll-Node K V A (record { first = (spans n).first; branches = (spans n).branches; size = size })) i given got
  resized_swaps old n size i given got s = record {
    before = rolled_before _ i ∙ s.before;
    here = rolled_at _ i ∙ s.here;
    behind = rolled_behind _ i ∙ s.behind;
    taken = s.taken;
    fewer = s.fewer;
    count = rolled_count _ ∙ s.count;
  }

  -- a tree was swapped, and another put in its place
  pub put_back : (n m new : Node K V A) (i : ℕ) (given got back rest : Tree K V A) → Swaps n m i given got → Swaps m new i back rest → node_entries new ≡ with_tree n i (subtree_entries back)
  put_back n m new i given got back rest s t =
      let b : entries_before new i ≡ entries_before n i = t.before ∙ s.before in
      let h : entries_behind new i ≡ entries_behind n i = t.behind ∙ s.behind in
      node_split new i ∙ rw (b, t.here, h) refl

  -- as it was, since that has the same entries
  pub put_back_same : (n m new : Node K V A) (i : ℕ) (given got back rest : Tree K V A) → Swaps n m i given got → Swaps m new i back rest → subtree_entries back ≡ subtree_entries got → node_entries new ≡ node_entries n
  put_back_same n m new i given got back rest s t e = put_back n m new i given got back rest s t ∙ (ap (λ (es : List (K × V)). with_tree n i es) (e ∙ s.taken) ∙ sym (node_split n i))

  -- no branch was handed up
  pub none_up : (n : Node K V A) (i : ℕ) (up : Option (One K V A)) → up ≡ None → node_entries n ≡ with_tree n i (with_up (entries_at n i) up)
  none_up n i up e = node_split n i ∙ ap (λ (u : Option (One K V A)). with_tree n i (with_up (entries_at n i) u)) (sym e)

  -- a tree and a branch were put in a node that had no entry
  pub raised : (m new last : Node K V A) (i : ℕ) (given got : Tree K V A) (es : List (K × V)) → node_entries m ≡ [] → Swaps m new i given got → node_entries last ≡ with_tree new i (entries_at new i ++ es) → node_entries last ≡ subtree_entries given ++ es
  raised m new last i given got es nothing s is =
      let around = nothing_around (entries_before m i) (entries_at m i) (entries_behind m i) (sym (node_split m i) ∙ nothing) in
      let b : entries_before new i ≡ [] = s.before ∙ around.0 in
      let h : entries_behind new i ≡ [] = s.behind ∙ around.1 in
      is ∙ rw (b, s.here, h) (append-nil (subtree_entries given ++ es))

  -- the last entry of a tree was taken out, where that is the last tree
  pub last_taken : (n m new : Node K V A) (i : ℕ) (given got back rest : Tree K V A) (e : K × V) → i ≡ length (spans n).branches.items → Swaps n m i given got → Swaps m new i back rest
      → subtree_entries got ≡ subtree_entries back ++ e ∷ [] → node_entries n ≡ node_entries new ++ e ∷ []
  last_taken n m new i given got back rest e at_last s t is =
      let h : entries_behind n i ≡ [] = ap (λ (j : ℕ). entries_behind n j) at_last ∙ behind_end (spans n).branches.items in
      let here : entries_at n i ≡ subtree_entries back ++ e ∷ [] = sym s.taken ∙ is in
      let other : node_entries new ≡ with_tree n i (subtree_entries back) = put_back n m new i given got back rest s t in
      node_split n i ∙ (rw (other, h, here, append-nil (subtree_entries back ++ e ∷ []), append-nil (subtree_entries back)) (sym (append_assoc (entries_before n i) (subtree_entries back) (e ∷ []))))

  -- and where it was put in the branch behind the tree
  pub last_set : (n m new last : Node K V A) (i : ℕ) (given got back rest : Tree K V A) (e : K × V) → i < length (spans n).branches.items → Swaps n m i given got → Swaps m new i back rest → subtree_entries got ≡ subtree_entries back ++ e ∷ []
      → node_entries last ≡ entries_before new i ++ (entries_at new i ++ on_first (λ (_ : K × V). e) (entries_behind new i)) → node_entries last ≡ entries_before n i ++ (entries_at n i ++ drop 1 (entries_behind n i))
  last_set n m new last i given got back rest e lt s t is set =
      let b : entries_before new i ≡ entries_before n i = t.before ∙ s.before in
      let h : entries_behind new i ≡ entries_behind n i = t.behind ∙ s.behind in
      let here : entries_at n i ≡ subtree_entries back ++ e ∷ [] = sym s.taken ∙ is in
      set ∙ (rw (b, t.here, h, here) (ap (λ (es : List (K × V)). entries_before n i ++ es)
      (ap (λ (es : List (K × V)). subtree_entries back ++ es) (first_instead e (entries_behind n i) (some_behind i (spans n).branches.items lt)) ∙ sym (append_assoc (subtree_entries back) (e ∷ []) (drop 1 (entries_behind n i))))))

  -- a branch was taken out behind an empty tree
  pub branch_gone : (n m new last : Node K V A) (i : ℕ) (given got back rest : Tree K V A) → Swaps n m i given got → Swaps m new i back rest → subtree_entries got ≡ []
      → node_entries last ≡ entries_before new i ++ drop 1 (entries_behind new i) → node_entries last ≡ entries_before n i ++ (entries_at n i ++ drop 1 (entries_behind n i))
  branch_gone n m new last i given got back rest s t nothing is =
      let b : entries_before new i ≡ entries_before n i = t.before ∙ s.before in
      let h : entries_behind new i ≡ entries_behind n i = t.behind ∙ s.behind in
      let here : entries_at n i ≡ [] = sym s.taken ∙ nothing in
      is ∙ rw (b, h, here) refl

  -- what is done to entries, done to those of one tree, or from one branch on
  pub done_between : (cmp : K → K → Ordering) (n : Node K V A) (i : ℕ) (op : List (K × V) → List (K × V)) (new : List (K × V))
      → (Ascends cmp (with_tree n i (entries_at n i)) → op (with_tree n i (entries_at n i)) ≡ with_tree n i (op (entries_at n i)))
      → (Ascends cmp (entries_at n i) → new ≡ with_tree n i (op (entries_at n i))) → Ascends cmp (node_entries n) → new ≡ op (node_entries n)
  done_between cmp n i op new law done up =
      let all = subst (Ascends cmp) (node_split n i) up in
      done (ascends_between cmp (entries_before n i) (entries_at n i) (entries_behind n i) all) ∙ (sym (law all) ∙ ap op (sym (node_split n i)))

  pub done_first : (cmp : K → K → Ordering) (n : Node K V A) (i : ℕ) (op : List (K × V) → List (K × V)) (rest new : List (K × V))
      → (Ascends cmp ((entries_before n i ++ entries_at n i) ++ entries_behind n i) → op ((entries_before n i ++ entries_at n i) ++ entries_behind n i) ≡ (entries_before n i ++ entries_at n i) ++ rest)
      → new ≡ entries_before n i ++ (entries_at n i ++ rest) → Ascends cmp (node_entries n) → new ≡ op (node_entries n)
  done_first cmp n i op rest new law done up =
      let flat : node_entries n ≡ (entries_before n i ++ entries_at n i) ++ entries_behind n i = node_split n i ∙ sym (append_assoc (entries_before n i) (entries_at n i) (entries_behind n i)) in
      done ∙ (sym (append_assoc (entries_before n i) (entries_at n i) rest) ∙ (sym (law (subst (Ascends cmp) flat up)) ∙ ap op (sym flat)))

  pub changed_in_tree : (cmp : K → K → Ordering) (op : List (K × V) → List (K × V)) (n m new : Node K V A) (i : ℕ) (given got back rest : Tree K V A) → Swaps n m i given got → Swaps m new i back rest
      → (Ascends cmp (subtree_entries got) → subtree_entries back ≡ op (subtree_entries got)) → Ascends cmp (entries_at n i) → node_entries new ≡ with_tree n i (op (entries_at n i))
  changed_in_tree cmp op n m new i given got back rest s t h up =
      put_back n m new i given got back rest s t ∙ ap (λ (es : List (K × V)). with_tree n i es) (h (subst (Ascends cmp) (sym s.taken) up) ∙ ap op s.taken)

  -- and a branch was handed up from it
  pub changed_up : (cmp : K → K → Ordering) (op : List (K × V) → List (K × V)) (n m new last : Node K V A) (i : ℕ) (given got back rest : Tree K V A) (up : Option (One K V A)) → Swaps n m i given got → Swaps m new i back rest
      → (Ascends cmp (subtree_entries got) → with_up (subtree_entries back) up ≡ op (subtree_entries got)) → node_entries last ≡ with_tree new i (with_up (entries_at new i) up)
      → Ascends cmp (entries_at n i) → node_entries last ≡ with_tree n i (op (entries_at n i))
  changed_up cmp op n m new last i given got back rest up s t h is asc =
      let b : entries_before new i ≡ entries_before n i = t.before ∙ s.before in
      let d : entries_behind new i ≡ entries_behind n i = t.behind ∙ s.behind in
      is ∙ (rw (b, t.here, d) (ap (λ (es : List (K × V)). with_tree n i es) (h (subst (Ascends cmp) (sym s.taken) asc) ∙ ap op s.taken)))

  -- a node was cut in two
  pub cut_in_two : (n : Node K V A) (i : ℕ) (xs ys zs : List (One K V A)) (x : One K V A) (es fs : List (K × V)) → xs ≡ take i (spans n).branches.items → ys ≡ drop i (spans n).branches.items → 0 < length ys → x ≡ get_or ys 0 x → zs ≡ remove ys 0
      → es ≡ run (spans n).first xs → fs ≡ run x.after zs → node_entries n ≡ es ++ entry_of x ∷ fs
  cut_in_two n i xs ys zs x es fs front back some e less left right =
      let all : xs ++ ys ≡ (spans n).branches.items = rw (front, back) (take-append-drop i (spans n).branches.items) in
      node_is n
      ∙ (ap (λ (ss : List (One K V A)). run (spans n).first ss) (sym all)
      ∙ (run_cut (spans n).first xs ys x some e
      ∙ rw (left, right, less) refl))

  -- a node without branches
  pub no_branches : (n : Node K V A) → length (spans n).branches.items ≡ 0 → node_entries n ≡ subtree_entries (spans n).first
  no_branches n none = node_is n ∙ run_none (spans n).first (spans n).branches.items none

  -- and a tree with none behind it has those of its node's parts
  pub opened_is : (l : Tree K V A) (ss bs : List (One K V A)) (a : Arc (Node K V A) A) (n : Node K V A) → length ss ≡ 0 → l ≡ Some a → n ≡ arc_value a → bs ≡ (spans n).branches.items → run l ss ≡ run (spans n).first bs
  opened_is l ss bs a n none some is same =
      run_none l ss none ∙ (ap subtree_entries some ∙ (ap node_entries (sym is) ∙ (node_is n ∙ ap (λ (rest : List (One K V A)). run (spans n).first rest) (sym same))))

  -- the last branch was taken out
  pub popped : (n : Node K V A) (size i : ℕ) (v : Vec (One K V A) A) (x : One K V A) → (spans n).branches.items ≡ v.items ++ x ∷ [] → i ≡ length (spans n).branches.items → entries_at n i ≡ []
      → node_entries n ≡ node_entries (roll-Node K V A (record { first = (spans n).first; branches = v; size = size })) ++ entry_of x ∷ []
  popped n size i v x is at_last nothing =
      let last : subtree_entries x.after ≡ [] = sym (at_end (spans n).first v.items x) ∙ (ap (λ (ss : List (One K V A)). at_place (length ss) (spans n).first ss) (sym is) ∙ (ap (λ (j : ℕ). entries_at n j) (sym at_last) ∙ nothing)) in
      node_is n
      ∙ (ap (λ (ss : List (One K V A)). run (spans n).first ss) is
      ∙ (run_append (spans n).first v.items x []
      ∙ rw (last, rolled (record { first = (spans n).first; branches = v; size = size })) refl))

  module _ (n : Node K V A) where
    abbrev pub items : List (One K V A)
    items = (spans n).branches.items

    -- the first tree was swapped, or one behind a branch
    pub swapped_first : (size i : ℕ) (given got new : Tree K V A) → i ≡ 0 → new ≡ given → got ≡ (spans n).first → Swaps n (roll-Node K V A (record { first = new; branches = (spans n).branches; size = size })) i given got
    swapped_first size i given got new zeroth e f = subst (λ (j : ℕ). Swaps n (roll-Node K V A (record { first = new; branches = (spans n).branches; size = size })) j given got) (sym zeroth) (record {
      before = refl;
      here = rolled_at _ 0 ∙ ap subtree_entries e;
      behind = rolled_behind _ 0;
      taken = ap subtree_entries f;
      fewer = let h = nodes_are n in let m = nodes_first (spans n).first items in let o = ap (λ (l : Tree K V A). (subtree_seen l).nodes) f in omega arith;
      count = rolled_count _;
    })

    pub swapped_branch : (size i j : ℕ) (given got : Tree K V A) (x y : One K V A) → suc j ≡ i → j < length items → x ≡ get_or items j x → entry_of y ≡ entry_of x → y.after ≡ given → got ≡ x.after
        → Swaps n (roll-Node K V A (record { first = (spans n).first; branches = with_item (spans n).branches j y; size = size })) i given got
    swapped_branch size i j given got x y place lt e same new f = subst (λ (k : ℕ). Swaps n (roll-Node K V A (record { first = (spans n).first; branches = with_item (spans n).branches j y; size = size })) k given got) place (record {
      before = rolled_before _ (suc j) ∙ before_new j (spans n).first items x y lt e same;
      here = rolled_at _ (suc j) ∙ (at_new j (spans n).first items y lt ∙ ap subtree_entries new);
      behind = rolled_behind _ (suc j) ∙ behind_new j items y;
      taken = ap subtree_entries f ∙ at_branch j (spans n).first items x lt e;
      fewer = let h = nodes_are n in let m = nodes_branch j (spans n).first items x lt e in let o = ap (λ (l : Tree K V A). (subtree_seen l).nodes) f in omega arith;
      count = rolled_count _;
    })

    -- another entry was put in a branch
    pub branch_set : (f : K × V → K × V) (size i : ℕ) (x y : One K V A) → i < length items → x ≡ get_or items i x → entry_of y ≡ f (entry_of x) → y.after ≡ x.after
        → node_entries (roll-Node K V A (record { first = (spans n).first; branches = with_item (spans n).branches i y; size = size })) ≡ entries_before n i ++ (entries_at n i ++ on_first f (entries_behind n i))
    branch_set f size i x y lt e new same = rolled _ ∙ run_set f i (spans n).first items x y lt e new same

    pub branch_same : (size i : ℕ) (x y : One K V A) → i < length items → x ≡ get_or items i x → entry_of y ≡ entry_of x → y.after ≡ x.after
        → node_entries (roll-Node K V A (record { first = (spans n).first; branches = with_item (spans n).branches i y; size = size })) ≡ node_entries n
    branch_same size i x y lt e new same =
        branch_set (λ (z : K × V). z) size i x y lt e new same
        ∙ (ap (λ (es : List (K × V)). entries_before n i ++ (entries_at n i ++ es)) (on_first_same (entries_behind n i)) ∙ sym (node_split n i))

    -- a branch was put in
    pub branch_added : (size i : ℕ) (v : Vec (One K V A) A) (s : One K V A) → i ≤ length items → v.items ≡ take i items ++ s ∷ drop i items
        → node_entries (roll-Node K V A (record { first = (spans n).first; branches = v; size = size })) ≡ with_tree n i (entries_at n i ++ entry_of s ∷ subtree_entries s.after)
    branch_added size i v s le e = rolled _ ∙ (ap (λ (ss : List (One K V A)). run (spans n).first ss) e ∙ run_insert i (spans n).first items s le)

    -- a branch was taken out, and the tree behind it put in its place
    pub branch_taken : (size i : ℕ) (v : Vec (One K V A) A) (x : One K V A) (new : Node K V A) (got : Tree K V A) → i < length items → x ≡ get_or items i x → v.items ≡ remove items i
        → Swaps (roll-Node K V A (record { first = (spans n).first; branches = v; size = size })) new i x.after got → node_entries new ≡ entries_before n i ++ drop 1 (entries_behind n i)
    branch_taken size i v x new got lt e is s =
        let b : entries_before new i ≡ entries_before n i = s.before ∙ (rolled_before _ i ∙ (ap (λ (ss : List (One K V A)). before_place i (spans n).first ss) is ∙ before_removed i (spans n).first items)) in
        let h : entries_behind new i ≡ behind_place i (remove items i) = s.behind ∙ (rolled_behind _ i ∙ ap (λ (ss : List (One K V A)). behind_place i ss) is) in
        let d : entries_behind n i ≡ entry_of x ∷ (subtree_entries x.after ++ behind_place i (remove items i)) = behind_removed i items x lt e in
        node_split new i ∙ rw (b, s.here, h, d) refl

    -- what is found at a branch, or in a tree
    pub found_at_branch : (cmp : K → K → Ordering) → IsTotalOrder cmp → (k : K) (i : ℕ) (x : One K V A) → i < length items → x ≡ get_or items i x → IsAtFirst cmp k (entries_behind n i) → Ascends cmp (node_entries n) → Some x.value ≡ value_of cmp (node_entries n) k
    found_at_branch cmp total k i x lt e h up =
        let rest : List (K × V) = subtree_entries x.after ++ behind_place i (remove items i) in
        let is : entries_behind n i ≡ entry_of x ∷ rest = behind_removed i items x lt e in
        let flat : node_entries n ≡ (entries_before n i ++ entries_at n i) ++ entry_of x ∷ rest =
        node_split n i ∙ (sym (append_assoc (entries_before n i) (entries_at n i) (entries_behind n i)) ∙ ap (λ (es : List (K × V)). (entries_before n i ++ entries_at n i) ++ es) is) in
        sym (ap (λ (es : List (K × V)). value_of cmp es k) flat ∙ value_first cmp total k (entries_before n i ++ entries_at n i) (entry_of x) rest (subst (Ascends cmp) flat up) (subst (IsAtFirst cmp k) is h))

    pub found_in_tree : (cmp : K → K → Ordering) → IsTotalOrder cmp → (k : K) (i : ℕ) (tree : List (K × V)) (found : Option V) → tree ≡ entries_at n i → IsAbove cmp k (entries_before n i) → IsBelow cmp k (entries_behind n i)
        → (Ascends cmp tree → found ≡ value_of cmp tree k) → Ascends cmp (node_entries n) → found ≡ value_of cmp (node_entries n) k
    found_in_tree cmp total k i tree found e a b h up =
        let all = subst (Ascends cmp) (node_split n i) up in
        h (subst (Ascends cmp) (sym e) (ascends_between cmp (entries_before n i) (entries_at n i) (entries_behind n i) all))
        ∙ (ap (λ (es : List (K × V)). value_of cmp es k) e ∙ sym (ap (λ (es : List (K × V)). value_of cmp es k) (node_split n i) ∙ value_between cmp total k (entries_before n i) (entries_at n i) (entries_behind n i) all a b))
