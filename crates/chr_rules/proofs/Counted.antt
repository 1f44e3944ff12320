-- The variables of what is built in turn are below the number of those that were met.
use Rattle.std.proofs.Common.{◌≡◌, ◌<◌, ◌≤◌, ◌++◌, ◌||◌, ℕ, List, [], ◌∷◌, Bool, true, false, cond, if◌then◌else◌, Option, Some, None, length, nat_lt, refl, arith, position, bytes_eq, is_none, unwrap_or}
use Rattle.std.specs.Prelude.{All}
use Rattle.std.specs.List.{position_or_len}
use Rattle.std.proofs.lemmas.List.{length-append}
use Rattle.std.proofs.lemmas.List.Elements.{All-append, All-cons, All-nil, All-weaker}
use Rattle.chr_semantics.specs.Tree.{Tree}
use Rattle.chr_semantics.specs.Program.{Goal, constraint, tell, evaluate, compare, fail, Test, identical, not_unifiable, compares, is_integer, is_ground, Head}
use Rattle.chr_semantics.specs.Tokens as token
use Rattle.chr_semantics.specs.Tokens.{Relation}
use Rattle.chr_semantics.specs.Syntax as syntax
use Rattle.chr_semantics.specs.Syntax.{Expr, Exprs, variable, number, call, nil, pair, operation, Item, plain, related}
use Rattle.chr_semantics.specs.Meaning.{Scope, atom_from, call_of, count, goal_from, goal_of, head_from, head_of, in_turn, is_anonymous, is_fail, is_ground_test, is_integer_test, is_true, relation_goal, relation_test, sides_from, test_from, test_of, tree_from, trees_from, variable_in, variable_of, with_name, with_turn, with_variable}
use Rattle.chr_semantics.specs.Bounds.{AreBelow, IsBelow, IsGoalBelow, IsHeadBelow, IsTestBelow}
use Rattle.chr_semantics.proofs.Below.{below_more, below_more_all}

abbrev pub width : Scope → ℕ
width s = length s.variables

-- the number of a variable that was met is below that of all
place_below : (b : Bool) (n m k : ℕ) → nat_lt n m ≡ b → cond b (Some n) None ≡ Some k → k < m
place_below true n m k e h = let same : n ≡ k = cc in grind (arith, e)
place_below false n m k e h = cc

met_below : (vs : List (List ℕ)) (w : List ℕ) (k : ℕ) → variable_of vs w ≡ Some k → k < length vs
met_below vs w k h = by (is_anonymous w) h
  where
    by : (b : Bool) → (if b then None else position (bytes_eq w) vs) ≡ Some k → k < length vs
    by true e = cc
    by false e = place_below (nat_lt (position_or_len (bytes_eq w) vs) (length vs)) (position_or_len (bytes_eq w) vs) (length vs) k refl e

abbrev pub with_met : List (List ℕ) → List ℕ → Option ℕ → List (List ℕ)
with_met vs w o = if is_none o then vs ++ w ∷ [] else vs

variable_below : (vs : List (List ℕ)) (w : List ℕ) → variable_in vs w < length (with_variable vs w)
variable_below vs w = by (variable_of vs w) refl
  where
    by : (o : Option ℕ) → variable_of vs w ≡ o → unwrap_or o (length vs) < length (with_met vs w o)
    by None e = omega (arith, length-append vs (w ∷ []))
    by (Some k) e = met_below vs w k e

variables_more : (vs : List (List ℕ)) (w : List ℕ) → length vs ≤ length (with_variable vs w)
variables_more vs w = by (variable_of vs w)
  where
    by : (o : Option ℕ) → length vs ≤ length (with_met vs w o)
    by None = omega (arith, length-append vs (w ∷ []))
    by (Some k) = omega arith

-- variables are only added
mutual
  tree_more : (s : Scope) (e : Expr) → width s ≤ width (tree_from s e).0
  tree_more s (variable w) = variables_more s.variables w
  tree_more s (number z) = omega arith
  tree_more s (call w es) = trees_more (with_name s w (count es)) es
  tree_more s nil = omega arith
  tree_more s (pair e f) = omega (arith, tree_more s e, tree_more (tree_from s e).0 f)
  tree_more s (operation o e f) = omega (arith, tree_more s e, tree_more (tree_from s e).0 f)

  trees_more : (s : Scope) (es : Exprs) → width s ≤ width (trees_from s es).0
  trees_more s syntax.none = omega arith
  trees_more s (syntax.more e es) = omega (arith, tree_more s e, trees_more (tree_from s e).0 es)

-- the variables of a tree are among those that are met with it
mutual
  tree_below : (s : Scope) (e : Expr) → IsBelow (width (tree_from s e).0) (tree_from s e).1
  tree_below s (variable w) = variable_below s.variables w
  tree_below s (number z) = tt
  tree_below s (call w es) = trees_below (with_name s w (count es)) es
  tree_below s nil = tt
  tree_below s (pair e f) = let b = tree_below (tree_from s e).0 f in (below_more _ _ _ (tree_more (tree_from s e).0 f) (tree_below s e), (b, tt))
  tree_below s (operation o e f) = let b = tree_below (tree_from s e).0 f in (below_more _ _ _ (tree_more (tree_from s e).0 f) (tree_below s e), (b, tt))

  trees_below : (s : Scope) (es : Exprs) → AreBelow (width (trees_from s es).0) (trees_from s es).1
  trees_below s syntax.none = tt
  trees_below s (syntax.more e es) = (below_more _ _ _ (trees_more (tree_from s e).0 es) (tree_below s e), trees_below (tree_from s e).0 es)

both_below : (s : Scope) (e f : Expr) → IsBelow (width (sides_from s e f).0) (sides_from s e f).1.0 × IsBelow (width (sides_from s e f).0) (sides_from s e f).1.1
both_below s e f = (below_more _ _ _ (tree_more (tree_from s e).0 f) (tree_below s e), tree_below (tree_from s e).0 f)

both_more : (s : Scope) (e f : Expr) → width s ≤ width (sides_from s e f).0
both_more s e f = omega (arith, tree_more s e, tree_more (tree_from s e).0 f)

-- what an element gives is below the variables that were met with it, of which there are only more
pub record Counts {Y : Type 0} (P : ℕ → Y → Type 0) (s : Scope) (r : Scope × List Y) : Type 0 where
  pub more_met : width s ≤ width r.0
  pub below : All (P (width r.0)) r.1

nothing_more : {Y : Type 0} (P : ℕ → Y → Type 0) (s : Scope) → Counts P s (s, [])
nothing_more P s = record { more_met = omega arith; below = All-nil (P (width s)) }

alone : {Y : Type 0} (P : Y → Type 0) (y : Y) → P y → All P (y ∷ [])
alone P y p = All-cons P y [] p (All-nil P)

one_more : {Y : Type 0} (P : ℕ → Y → Type 0) (s t : Scope) (y : Y) → width s ≤ width t → P (width t) y → Counts P s (t, y ∷ [])
one_more P s t y h p = record { more_met = h; below = alone (P (width t)) y p }

turns_count : {X Y : Type 0} (P : ℕ → Y → Type 0) (f : Scope → X → Scope × List Y) → ((n m : ℕ) (y : Y) → n ≤ m → P n y → P m y) → ((s : Scope) (x : X) → Counts P s (f s x))
    → (s : Scope) (q : Scope × List Y) (xs : List X) → Counts P s q → Counts P s (in_turn f q xs)
turns_count P f up one s q [] h = h
turns_count P f up one s q (x ∷ xs) h =
    let r = f q.0 x in
    let c = one q.0 x in
    turns_count P f up one s (with_turn f q x) xs (record {
      more_met = omega (arith, h.more_met, c.more_met);
      below = All-append (P (width r.0)) q.1 r.1 (All-weaker (P (width q.0)) (P (width r.0)) (λ y. up (width q.0) (width r.0) y c.more_met) q.1 h.below) c.below;
    })

-- heads
atom_counts : {Y : Type 0} (P : ℕ → Y → Type 0) (s : Scope) (w : List ℕ) (es : Exprs) (y : Y) → P (width (atom_from s w es).0) y → Counts P s ((atom_from s w es).0, y ∷ [])
atom_counts P s w es y p = one_more P s (atom_from s w es).0 y (trees_more (with_name s w (count es)) es) p

head_counts_by : (s : Scope) (p : Bool) (o : Option (List ℕ × Exprs)) → Counts IsHeadBelow s (elim o [ None ↦ (s, []) | Some c ↦ (let r = atom_from s c.0 c.1 in (r.0, record { atom = r.1; passive = p } ∷ [])) ])
head_counts_by s p None = nothing_more IsHeadBelow s
head_counts_by s p (Some c) = atom_counts IsHeadBelow s c.0 c.1 _ (trees_below (with_name s c.0 (count c.1)) c.1)

head_counts : (s : Scope) (h : syntax.Head) → Counts IsHeadBelow s (head_from s h)
head_counts s h = by h.item
  where
    by : (i : Item) → Counts IsHeadBelow s (head_of s h.passive i)
    by (related r e f) = nothing_more IsHeadBelow s
    by (plain e) = head_counts_by s h.passive (call_of e)

-- goals
goals_of_sides : (n : ℕ) (r : Relation) (t u : Tree) → IsBelow n t → IsBelow n u → All (IsGoalBelow n) (relation_goal r t u)
goals_of_sides n token.same t u a b = alone (IsGoalBelow n) _ (a, b)
goals_of_sides n token.not_unifiable t u a b = All-nil (IsGoalBelow n)
goals_of_sides n token.less t u a b = alone (IsGoalBelow n) _ (a, b)
goals_of_sides n token.greater t u a b = alone (IsGoalBelow n) _ (a, b)
goals_of_sides n token.at_most t u a b = alone (IsGoalBelow n) _ (a, b)
goals_of_sides n token.at_least t u a b = alone (IsGoalBelow n) _ (a, b)
goals_of_sides n token.equals t u a b = alone (IsGoalBelow n) _ (a, b)
goals_of_sides n token.differs t u a b = alone (IsGoalBelow n) _ (a, b)
goals_of_sides n token.is t u a b = alone (IsGoalBelow n) _ (a, b)

goal_counts_by : (s : Scope) (w : List ℕ) (es : Exprs) (b c : Bool) → Counts IsGoalBelow s (if b then (s, []) else if c then (s, fail ∷ []) else (let r = atom_from s w es in (r.0, constraint r.1 ∷ [])))
goal_counts_by s w es true c = nothing_more IsGoalBelow s
goal_counts_by s w es false true = one_more IsGoalBelow s s fail (omega arith) tt
goal_counts_by s w es false false = atom_counts IsGoalBelow s w es _ (trees_below (with_name s w (count es)) es)

goal_of_counts : (s : Scope) (w : List ℕ) (es : Exprs) → Counts IsGoalBelow s (goal_of s w es)
goal_of_counts s w es = goal_counts_by s w es (is_true w (count es) || (is_integer_test w (count es) || is_ground_test w (count es))) (is_fail w (count es))

goal_counts_called : (s : Scope) (o : Option (List ℕ × Exprs)) → Counts IsGoalBelow s (elim o [ None ↦ (s, []) | Some c ↦ goal_of s c.0 c.1 ])
goal_counts_called s None = nothing_more IsGoalBelow s
goal_counts_called s (Some c) = goal_of_counts s c.0 c.1

goal_counts : (s : Scope) (i : Item) → Counts IsGoalBelow s (goal_from s i)
goal_counts s (related r e f) = let b = both_below s e f in record { more_met = both_more s e f; below = goals_of_sides _ r _ _ b.0 b.1 }
goal_counts s (plain e) = goal_counts_called s (call_of e)

-- tests
tests_of_sides : (n : ℕ) (r : Relation) (t u : Tree) → IsBelow n t → IsBelow n u → All (IsTestBelow n) (relation_test r t u)
tests_of_sides n token.same t u a b = alone (IsTestBelow n) _ (a, b)
tests_of_sides n token.not_unifiable t u a b = alone (IsTestBelow n) _ (a, b)
tests_of_sides n token.less t u a b = alone (IsTestBelow n) _ (a, b)
tests_of_sides n token.greater t u a b = alone (IsTestBelow n) _ (a, b)
tests_of_sides n token.at_most t u a b = alone (IsTestBelow n) _ (a, b)
tests_of_sides n token.at_least t u a b = alone (IsTestBelow n) _ (a, b)
tests_of_sides n token.equals t u a b = alone (IsTestBelow n) _ (a, b)
tests_of_sides n token.differs t u a b = alone (IsTestBelow n) _ (a, b)
tests_of_sides n token.is t u a b = All-nil (IsTestBelow n)

test_alone_by : (s : Scope) (e : Expr) (b c : Bool) → Counts IsTestBelow s (if b then (let r = tree_from s e in (r.0, is_integer r.1 ∷ [])) else if c then (let r = tree_from s e in (r.0, is_ground r.1 ∷ [])) else (s, []))
test_alone_by s e true c = one_more IsTestBelow s (tree_from s e).0 _ (tree_more s e) (tree_below s e)
test_alone_by s e false true = one_more IsTestBelow s (tree_from s e).0 _ (tree_more s e) (tree_below s e)
test_alone_by s e false false = nothing_more IsTestBelow s

test_of_counts : (s : Scope) (w : List ℕ) (es : Exprs) → Counts IsTestBelow s (test_of s w es)
test_of_counts s w syntax.none = nothing_more IsTestBelow s
test_of_counts s w (syntax.more e syntax.none) = test_alone_by s e (is_integer_test w 1) (is_ground_test w 1)
test_of_counts s w (syntax.more e (syntax.more f es)) = nothing_more IsTestBelow s

test_counts_called : (s : Scope) (o : Option (List ℕ × Exprs)) → Counts IsTestBelow s (elim o [ None ↦ (s, []) | Some c ↦ test_of s c.0 c.1 ])
test_counts_called s None = nothing_more IsTestBelow s
test_counts_called s (Some c) = test_of_counts s c.0 c.1

test_counts : (s : Scope) (i : Item) → Counts IsTestBelow s (test_from s i)
test_counts s (related r e f) = let b = both_below s e f in record { more_met = both_more s e f; below = tests_of_sides _ r _ _ b.0 b.1 }
test_counts s (plain e) = test_counts_called s (call_of e)

-- in turn
head_below_more : (n m : ℕ) (h : Head) → n ≤ m → IsHeadBelow n h → IsHeadBelow m h
head_below_more n m h k b = below_more_all n m h.atom.args k b

goal_below_more : (n m : ℕ) (g : Goal) → n ≤ m → IsGoalBelow n g → IsGoalBelow m g
goal_below_more n m (constraint a) k b = below_more_all n m a.args k b
goal_below_more n m (tell t u) k b = (below_more n m t k b.0, below_more n m u k b.1)
goal_below_more n m (evaluate t u) k b = (below_more n m t k b.0, below_more n m u k b.1)
goal_below_more n m (compare c t u) k b = (below_more n m t k b.0, below_more n m u k b.1)
goal_below_more n m fail k b = tt

test_below_more : (n m : ℕ) (t : Test) → n ≤ m → IsTestBelow n t → IsTestBelow m t
test_below_more n m (identical t u) k b = (below_more n m t k b.0, below_more n m u k b.1)
test_below_more n m (not_unifiable t u) k b = (below_more n m t k b.0, below_more n m u k b.1)
test_below_more n m (compares c t u) k b = (below_more n m t k b.0, below_more n m u k b.1)
test_below_more n m (is_integer t) k b = below_more n m t k b
test_below_more n m (is_ground t) k b = below_more n m t k b

pub heads_count : (s : Scope) (hs : List syntax.Head) → Counts IsHeadBelow s (in_turn head_from (s, []) hs)
heads_count s hs = turns_count IsHeadBelow head_from head_below_more head_counts s (s, []) hs (nothing_more IsHeadBelow s)

pub tests_count : (s : Scope) (is : List Item) → Counts IsTestBelow s (in_turn test_from (s, []) is)
tests_count s is = turns_count IsTestBelow test_from test_below_more test_counts s (s, []) is (nothing_more IsTestBelow s)

pub goals_count : (s : Scope) (is : List Item) → Counts IsGoalBelow s (in_turn goal_from (s, []) is)
goals_count s is = turns_count IsGoalBelow goal_from goal_below_more goal_counts s (s, []) is (nothing_more IsGoalBelow s)
