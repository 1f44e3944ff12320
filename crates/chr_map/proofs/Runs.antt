-- A tree and the branches behind it: what changes of the branches come to.
use Rattle.std.proofs.Common.{◌≡◌, ◌∙◌, ℕ, zero, suc, ◌-◌, ◌<◌, ◌≤◌, Bool, true, nat_eq, List, [], ◌∷◌, ◌++◌, length, take, drop, get_or, ap, refl, sym, subst, arith, append_assoc, length-drop}
use Rattle.std.proofs.Math.ListN.{set}
use Rattle.std.proofs.lemmas.Bool.{eqb-true}
use Rattle.std.proofs.lemmas.List.{append-nil}
use Rattle.std.specs.List.{remove}
use Rattle.std.specs.Prelude.{Option, None}
use Rattle.std.specs.declared.cmp.Ordering.{Ordering}
use Rattle.std.specs.declared.cmp.Ordering.TheVariants.{Less, Equal}
use Rattle.std.specs.declared.sync.Arc.{Arc}
use Rattle.chr_map.specs.Entries.{subtree_entries, subtree_seen, run, run_nodes}
use Rattle.chr_map.specs.Order.{IsAbove, IsAtFirst, IsBelow, on_first}
use Rattle.chr_map.specs.Places.{Compares, IsGreater, at_place, before_place, behind_place}
use Rattle.chr_map.specs.declared.node.Node.{Node}
use Rattle.chr_map.specs.declared.node.Branch.{Branch}

abbrev pub Tree : (K V A : Type 0) → Type 0
Tree K V A = Option (Arc (Node K V A) A)

abbrev pub One : (K V A : Type 0) → Type 0
One K V A = Branch K V (Option (Arc (Node K V A) A))

abbrev pub entry_of : {K V L : Type 0} → Branch K V L → K × V
entry_of s = (s.key, s.value)

-- a place behind the first
pub place_is : (i : ℕ) → (i ≡ 0 → ⊥) → suc (i - 1) ≡ i
place_is i some = omega arith

-- what a test for 0 says
pub zero_of : (n : ℕ) (b : Bool) → b ≡ true → b ≡ nat_eq n 0 → n ≡ 0
zero_of n b is e = eqb-true n 0 (sym e ∙ is)

-- all that is left of a list
pub take_rest : {X : Type 0} (j : ℕ) (xs : List X) → take (length xs - j) (drop j xs) ≡ drop j xs
take_rest j xs = take_whole (length xs - j) (drop j xs) (length-drop j xs)
  where
    take_whole : {X : Type 0} (n : ℕ) (xs : List X) → length xs ≡ n → take n xs ≡ xs
    take_whole zero [] e = refl
    take_whole (suc n) [] e = refl
    take_whole zero (x ∷ xs) e = absurd (omega arith)
    take_whole (suc n) (x ∷ xs) e = ap (λ r. x ∷ r) (take_whole n xs (omega arith))

some_after : {X : Type 0} (xs : List X) (y : X) (ys : List X) → 0 < length (xs ++ y ∷ ys)
some_after [] y ys = omega arith
some_after (x ∷ xs) y ys = omega arith

module _ {K V : Type 0} (cmp : K → K → Ordering) (k : K) where
  above_after : (xs ys : List (K × V)) → 0 < length ys → IsAbove cmp k ys → IsAbove cmp k (xs ++ ys)
  above_after [] ys lt h = h
  above_after (x ∷ xs) [] lt h = absurd (omega arith)
  above_after (x ∷ []) (y ∷ ys) lt h = h
  above_after (x ∷ z ∷ xs) (y ∷ ys) lt h = above_after (z ∷ xs) (y ∷ ys) lt h

module _ {K V L : Type 0} (cmp : K → K → Ordering) (k : K) where
  -- how a key compares to that of a branch, and behind all
  pub compares_at : (o : Ordering) (i : ℕ) (ss : List (Branch K V L)) (x : Branch K V L) → i < length ss → x ≡ get_or ss i x → cmp k x.key ≡ o → Compares cmp k o ss i
  compares_at o i [] x lt e h = tt
  compares_at o zero (s ∷ ss) x lt e h = ap (λ (y : Branch K V L). cmp k y.key) (sym e) ∙ h
  compares_at o (suc i) (s ∷ ss) x lt e h = compares_at o i ss x (omega arith) e h

  pub compares_end : (o : Ordering) (ss : List (Branch K V L)) → Compares cmp k o ss (length ss)
  compares_end o [] = tt
  compares_end o (s ∷ ss) = compares_end o ss

module _ {K V A : Type 0} where
  -- the tree first, and then the branches
  pub run_front : (l : Tree K V A) (ss : List (One K V A)) → run l ss ≡ subtree_entries l ++ run None ss
  run_front l [] = sym (append-nil (subtree_entries l))
  run_front l (s ∷ ss) = refl

  pub run_none : (l : Tree K V A) (ss : List (One K V A)) → length ss ≡ 0 → run l ss ≡ subtree_entries l
  run_none l [] none = refl
  run_none l (s ∷ ss) none = absurd (omega arith)

  -- all spans at a place
  pub run_parts : (i : ℕ) (l : Tree K V A) (ss : List (One K V A)) → run l ss ≡ before_place i l ss ++ (at_place i l ss ++ behind_place i ss)
  run_parts zero l ss = run_front l ss
  run_parts (suc i) l [] = sym (append-nil (subtree_entries l))
  run_parts (suc i) l (s ∷ ss) =
      ap (λ (r : List (K × V)). subtree_entries l ++ entry_of s ∷ r) (run_parts i s.after ss)
      ∙ sym (append_assoc (subtree_entries l) (entry_of s ∷ before_place i s.after ss) (at_place i s.after ss ++ behind_place i ss))

  -- branches around one
  pub run_middle : (i : ℕ) (l : Tree K V A) (ss : List (One K V A)) (x : One K V A) → i < length ss → x ≡ get_or ss i x → run l ss ≡ run l (take i ss) ++ entry_of x ∷ run x.after (drop (suc i) ss)
  run_middle i l [] x lt e = absurd (omega arith)
  run_middle zero l (s ∷ ss) x lt e = ap (λ (y : One K V A). subtree_entries l ++ entry_of y ∷ run y.after ss) (sym e)
  run_middle (suc i) l (s ∷ ss) x lt e =
      ap (λ (r : List (K × V)). subtree_entries l ++ entry_of s ∷ r) (run_middle i s.after ss x (omega arith) e)
      ∙ sym (append_assoc (subtree_entries l) (entry_of s ∷ run s.after (take i ss)) (entry_of x ∷ run x.after (drop (suc i) ss)))

  pub run_halved : (i j : ℕ) (l : Tree K V A) (ss : List (One K V A)) (x : One K V A) → suc i ≡ j → i < length ss → x ≡ get_or ss i x → run l ss ≡ run l (take i ss) ++ entry_of x ∷ run x.after (take (length ss - j) (drop j ss))
  run_halved i j l ss x next lt e =
      subst (λ (k : ℕ). run l ss ≡ run l (take i ss) ++ entry_of x ∷ run x.after (drop k ss)) next (run_middle i l ss x lt e)
      ∙ ap (λ (zs : List (One K V A)). run l (take i ss) ++ entry_of x ∷ run x.after zs) (sym (take_rest j ss))

  -- branches, and more of them
  pub run_append : (l : Tree K V A) (xs : List (One K V A)) (s : One K V A) (ys : List (One K V A)) → run l (xs ++ s ∷ ys) ≡ run l xs ++ entry_of s ∷ run s.after ys
  run_append l [] s ys = refl
  run_append l (x ∷ xs) s ys =
      ap (λ (r : List (K × V)). subtree_entries l ++ entry_of x ∷ r) (run_append x.after xs s ys)
      ∙ sym (append_assoc (subtree_entries l) (entry_of x ∷ run x.after xs) (entry_of s ∷ run s.after ys))

  -- cut in two, with the first of the second span taken out of it
  pub run_cut : (l : Tree K V A) (xs ys : List (One K V A)) (x : One K V A) → 0 < length ys → x ≡ get_or ys 0 x → run l (xs ++ ys) ≡ run l xs ++ entry_of x ∷ run x.after (remove ys 0)
  run_cut l xs [] x lt e = absurd (omega arith)
  run_cut l xs (y ∷ ys) x lt e = run_append l xs y ys ∙ ap (λ (z : One K V A). run l xs ++ entry_of z ∷ run z.after ys) (sym e)

  -- the tree at the end
  pub at_end : (l : Tree K V A) (xs : List (One K V A)) (s : One K V A) → at_place (length (xs ++ s ∷ [])) l (xs ++ s ∷ []) ≡ subtree_entries s.after
  at_end l [] s = refl
  at_end l (x ∷ xs) s = at_end x.after xs s

  pub behind_end : (ss : List (One K V A)) → behind_place (length ss) ss ≡ []
  behind_end [] = refl
  behind_end (s ∷ ss) = behind_end ss

  pub some_behind : (i : ℕ) (ss : List (One K V A)) → i < length ss → 0 < length (behind_place i ss)
  some_behind i [] lt = absurd (omega arith)
  some_behind zero (s ∷ ss) lt = omega arith
  some_behind (suc i) (s ∷ ss) lt = some_behind i ss (omega arith)

  -- the tree behind a branch
  pub at_branch : (j : ℕ) (l : Tree K V A) (ss : List (One K V A)) (x : One K V A) → j < length ss → x ≡ get_or ss j x → subtree_entries x.after ≡ at_place (suc j) l ss
  at_branch j l [] x lt e = absurd (omega arith)
  at_branch zero l (s ∷ ss) x lt e = ap (λ (y : One K V A). subtree_entries y.after) e
  at_branch (suc j) l (s ∷ ss) x lt e = at_branch j s.after ss x (omega arith) e

  -- another tree behind a branch
  pub before_new : (j : ℕ) (l : Tree K V A) (ss : List (One K V A)) (x y : One K V A) → j < length ss → x ≡ get_or ss j x → entry_of y ≡ entry_of x → before_place (suc j) l (set ss j y) ≡ before_place (suc j) l ss
  before_new j l [] x y lt e same = absurd (omega arith)
  before_new zero l (s ∷ ss) x y lt e same = ap (λ (z : K × V). subtree_entries l ++ z ∷ []) (same ∙ ap (λ (z : One K V A). entry_of z) e)
  before_new (suc j) l (s ∷ ss) x y lt e same = ap (λ (r : List (K × V)). subtree_entries l ++ entry_of s ∷ r) (before_new j s.after ss x y (omega arith) e same)

  pub at_new : (j : ℕ) (l : Tree K V A) (ss : List (One K V A)) (y : One K V A) → j < length ss → at_place (suc j) l (set ss j y) ≡ subtree_entries y.after
  at_new j l [] y lt = absurd (omega arith)
  at_new zero l (s ∷ ss) y lt = refl
  at_new (suc j) l (s ∷ ss) y lt = at_new j s.after ss y (omega arith)

  pub behind_new : (j : ℕ) (ss : List (One K V A)) (y : One K V A) → behind_place (suc j) (set ss j y) ≡ behind_place (suc j) ss
  behind_new j [] y = refl
  behind_new zero (s ∷ ss) y = refl
  behind_new (suc j) (s ∷ ss) y = behind_new j ss y

  -- there are no more nodes below than in all
  pub nodes_first : (l : Tree K V A) (ss : List (One K V A)) → (subtree_seen l).nodes ≤ run_nodes l ss
  nodes_first l [] = omega arith
  nodes_first l (s ∷ ss) = omega arith

  pub nodes_branch : (j : ℕ) (l : Tree K V A) (ss : List (One K V A)) (x : One K V A) → j < length ss → x ≡ get_or ss j x → (subtree_seen x.after).nodes ≤ run_nodes l ss
  nodes_branch j l [] x lt e = absurd (omega arith)
  nodes_branch zero l (s ∷ ss) x lt e = let h = ap (λ (y : One K V A). (subtree_seen y.after).nodes) e in let m = nodes_first s.after ss in omega arith
  nodes_branch (suc j) l (s ∷ ss) x lt e = let m = nodes_branch j s.after ss x (omega arith) e in omega arith

  -- another entry in a branch
  pub run_set : (f : K × V → K × V) (i : ℕ) (l : Tree K V A) (ss : List (One K V A)) (x y : One K V A) → i < length ss → x ≡ get_or ss i x → entry_of y ≡ f (entry_of x) → y.after ≡ x.after
      → run l (set ss i y) ≡ before_place i l ss ++ (at_place i l ss ++ on_first f (behind_place i ss))
  run_set f i l [] x y lt e new same = absurd (omega arith)
  run_set f zero l (s ∷ ss) x y lt e new same = rw (new, same) (ap (λ (z : One K V A). subtree_entries l ++ f (entry_of z) ∷ run z.after ss) e)
  run_set f (suc i) l (s ∷ ss) x y lt e new same =
      ap (λ (r : List (K × V)). subtree_entries l ++ entry_of s ∷ r) (run_set f i s.after ss x y (omega arith) e new same)
      ∙ sym (append_assoc (subtree_entries l) (entry_of s ∷ before_place i s.after ss) (at_place i s.after ss ++ on_first f (behind_place i ss)))

  -- one more branch behind the tree at a place
  pub run_insert : (i : ℕ) (l : Tree K V A) (ss : List (One K V A)) (s : One K V A) → i ≤ length ss
      → run l (take i ss ++ s ∷ drop i ss) ≡ before_place i l ss ++ ((at_place i l ss ++ entry_of s ∷ subtree_entries s.after) ++ behind_place i ss)
  run_insert zero l ss s le =
      ap (λ (r : List (K × V)). subtree_entries l ++ entry_of s ∷ r) (run_front s.after ss)
      ∙ sym (append_assoc (subtree_entries l) (entry_of s ∷ subtree_entries s.after) (run None ss))
  run_insert (suc i) l [] s le = absurd (omega arith)
  run_insert (suc i) l (t ∷ ss) s le =
      ap (λ (r : List (K × V)). subtree_entries l ++ entry_of t ∷ r) (run_insert i t.after ss s (omega arith))
      ∙ sym (append_assoc (subtree_entries l) (entry_of t ∷ before_place i t.after ss) ((at_place i t.after ss ++ entry_of s ∷ subtree_entries s.after) ++ behind_place i ss))

  -- one branch less
  pub before_removed : (i : ℕ) (l : Tree K V A) (ss : List (One K V A)) → before_place i l (remove ss i) ≡ before_place i l ss
  before_removed zero l ss = refl
  before_removed (suc i) l [] = refl
  before_removed (suc i) l (s ∷ ss) = ap (λ (r : List (K × V)). subtree_entries l ++ entry_of s ∷ r) (before_removed i s.after ss)

  pub behind_removed : (i : ℕ) (ss : List (One K V A)) (x : One K V A) → i < length ss → x ≡ get_or ss i x → behind_place i ss ≡ entry_of x ∷ (subtree_entries x.after ++ behind_place i (remove ss i))
  behind_removed i [] x lt e = absurd (omega arith)
  behind_removed zero (s ∷ ss) x lt e = ap (λ (r : List (K × V)). entry_of s ∷ r) (run_front s.after ss) ∙ ap (λ (y : One K V A). entry_of y ∷ (subtree_entries y.after ++ run None ss)) (sym e)
  behind_removed (suc i) (s ∷ ss) x lt e = behind_removed i ss x (omega arith) e

  -- how a key compares to the entries before and behind a place
  module _ (cmp : K → K → Ordering) (k : K) where
    pub found_first : (i : ℕ) (ss : List (One K V A)) → i < length ss → Compares cmp k Equal ss i → IsAtFirst cmp k (behind_place i ss)
    found_first i [] lt h = absurd (omega arith)
    found_first zero (s ∷ ss) lt h = h
    found_first (suc i) (s ∷ ss) lt h = found_first i ss (omega arith) h

    pub below_first : (i : ℕ) (ss : List (One K V A)) → Compares cmp k Less ss i → IsBelow cmp k (behind_place i ss)
    below_first zero [] h = tt
    below_first (suc i) [] h = tt
    below_first zero (s ∷ ss) h = h
    below_first (suc i) (s ∷ ss) h = below_first i ss h

    pub above_last : (i : ℕ) (l : Tree K V A) (ss : List (One K V A)) → i ≤ length ss → IsGreater cmp k ss i → IsAbove cmp k (before_place i l ss)
    above_last zero l ss le h = tt
    above_last (suc i) l [] le h = tt
    above_last (suc zero) l (s ∷ ss) le h = above_after cmp k (subtree_entries l) (entry_of s ∷ []) (omega arith) h
    above_last (suc (suc i)) l (s ∷ []) le h = absurd (omega arith)
    above_last (suc (suc i)) l (s ∷ t ∷ ss) le h =
        above_after cmp k (subtree_entries l) (entry_of s ∷ before_place (suc i) s.after (t ∷ ss)) (omega arith)
        (above_after cmp k (entry_of s ∷ []) (before_place (suc i) s.after (t ∷ ss)) (some_after (subtree_entries s.after) (entry_of t) (before_place i t.after ss)) (above_last (suc i) s.after (t ∷ ss) (omega arith) h))
