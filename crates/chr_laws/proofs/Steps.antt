-- Each step keeps what is below the next variable and the next identity.
use Rattle.std.proofs.Common.{◌≡◌, ◌∙◌, ◌<◌, ◌≤◌, ◌+◌, ◌-◌, ◌==◌, ℕ, zero, suc, ℤ, Bool, true, false, cond, nat_lt, List, [], ◌∷◌, ◌++◌, map, Option, Some, None, Result, Ok, Err, ap, refl, subst, sym, arith}
use Rattle.std.specs.Prelude.{All, find, unwrap_or}
use Rattle.std.proofs.lemmas.Bool.{and_parts}
use Rattle.std.proofs.lemmas.Bool.Decides.{Decides-eqb, Decides-ltb}
use Rattle.std.proofs.lemmas.List.Elements.{All-append, All-cons, All-filter, All-head, All-map, All-nil, All-push, All-tail, All-weaker}
use Rattle.chr_semantics.specs.Bounds.{AreBelow, AreBounded, AreElementsBelow, AreEntriesBelow, AreRowsBelow, BoundsLaw, IsBelow, IsBounded, IsElementBelow, IsGoalBelow, IsQueryBounded, IsSubstBelow, IsWithin}
use Rattle.chr_semantics.proofs.Below.{below_more, below_more_all}
use Rattle.chr_semantics.specs.Footprint.{Ascends, IsSound}
use Rattle.chr_semantics.specs.Guard.{comparison_holds}
use Rattle.chr_semantics.specs.Match.{Row, fits}
use Rattle.chr_semantics.specs.Mgu.{mgu}
use Rattle.chr_semantics.specs.Program.{Atom, Comparison, Goal, Occurrence, Program, Query, Rule, compare, constraint, evaluate, fail, occurrence, tell}
use Rattle.chr_semantics.specs.Search.{Found, History, atom_of, can_fire, firing, first_tuple, found_at, found_for, found_with, has_number, ids_of, no_firing, no_occurrence, passes_guard, tuples, tuples_from}
use Rattle.chr_semantics.specs.State.{Element, State, Status, active, done, failed, faulted, goal, known, resolved_atom, rows, running, start}
use Rattle.chr_semantics.specs.Step.{bind_step, body_of, compare_step, evaluate_step, fire_step, goal_instance, in_body, search_at, search_step, solve, step_at, step_top, woken_elements}
use Rattle.chr_semantics.specs.Subst.{Subst, apply, binds_var, value_at}
use Rattle.chr_semantics.specs.Tree.{Tree, int, var}
use Rattle.chr_semantics.specs.Value.{Fault, value}
use Rattle.chr_semantics.proofs.FitsLaw.{fits_law}
use Rattle.chr_semantics.proofs.Lists.{All-flat_map, All-got}
use Rattle.chr_semantics.proofs.Lookups.{Ascends-ends}
use Rattle.chr_semantics.proofs.OccurrenceRule.{occurrence_rule}
use Rattle.chr_laws.proofs.Matches.{bound_within, fits_within}
use Rattle.chr_laws.proofs.Terms.{apply_all_within, instance_within, instances_within, subst_more}
use Rattle.chr_laws.proofs.Unifiers.{IfSubst, mgu_within}

-- greater bounds
goal_more : (n m : ℕ) (g : Goal) → n ≤ m → IsGoalBelow n g → IsGoalBelow m g
goal_more n m (constraint a) le h = below_more_all n m a.args le h
goal_more n m (tell t u) le h = (below_more n m t le h.0, below_more n m u le h.1)
goal_more n m (evaluate t u) le h = (below_more n m t le h.0, below_more n m u le h.1)
goal_more n m (compare c t u) le h = (below_more n m t le h.0, below_more n m u le h.1)
goal_more n m fail le h = tt

element_more : (n m : ℕ) → n ≤ m → (e : Element) → IsElementBelow n e → IsElementBelow m e
element_more n m le (goal g) h = goal_more n m g le h
element_more n m le (known i a) h = below_more_all n m a.args le h
element_more n m le (active i j a) h = below_more_all n m a.args le h

elements_more : (n m : ℕ) (es : List Element) → n ≤ m → AreElementsBelow n es → AreElementsBelow m es
elements_more n m es le h = All-weaker (IsElementBelow n) (IsElementBelow m) (element_more n m le) es h

rows_more : (n m : ℕ) (rs : List Row) → n ≤ m → AreRowsBelow n rs → AreRowsBelow m rs
rows_more n m rs le h = All-weaker (λ (r : Row). AreBelow n r.1.args) (λ (r : Row). AreBelow m r.1.args) (λ r b. below_more_all n m r.1.args le b) rs h

less_more : (n m i : ℕ) → n ≤ m → i < n → i < m
less_more n m i le lt = omega (arith, le, lt)

entries_more : (n m : ℕ) (h : History) → n ≤ m → AreEntriesBelow n h → AreEntriesBelow m h
entries_more n m h le k =
    All-weaker (λ (f : ℕ × List ℕ). All (λ i. i < n) f.1) (λ (f : ℕ × List ℕ). All (λ i. i < m) f.1) (λ f b. All-weaker (λ i. i < n) (λ i. i < m) (λ i lt. less_more n m i le lt) f.1 b) h k

-- a goal with its variables replaced
goal_within : (n m : ℕ) (f : ℕ → Tree) (g : Goal) → ((x : ℕ) → x < n → IsBelow m (f x)) → IsGoalBelow n g → IsGoalBelow m (goal_instance f g)
goal_within n m f (constraint a) h b = instances_within n m f a.args h b
goal_within n m f (tell t u) h b = (instance_within n m f t h b.0, instance_within n m f u h b.1)
goal_within n m f (evaluate t u) h b = (instance_within n m f t h b.0, instance_within n m f u h b.1)
goal_within n m f (compare c t u) h b = (instance_within n m f t h b.0, instance_within n m f u h b.1)
goal_within n m f fail h b = tt

-- what wakes
woken_within : (s : State) → AreRowsBelow s.next_var s.store → AreElementsBelow s.next_var (woken_elements s)
woken_within s h = All-map (IsElementBelow s.next_var) (λ (r : Row). known r.0 r.1) _ (All-filter _ (λ (r : Row). AreBelow s.next_var r.1.args) s.store h)

wakes : (s : State) (rest : List Element) → IsWithin s → AreElementsBelow s.next_var rest → AreElementsBelow s.next_var (woken_elements s ++ rest)
wakes s rest h k = All-append (IsElementBelow s.next_var) (woken_elements s) rest (woken_within s h.store) k

-- Solve
bound_within_step : (s : State) (rest : List Element) (o : Option Subst) → IsWithin s → AreElementsBelow s.next_var rest → IfSubst s.next_var o → IsWithin (bind_step s rest o)
bound_within_step s rest None h k q = record { stack = h.stack; store = h.store; subst = h.subst; entries = h.entries }
bound_within_step s rest (Some r) h k q = record { stack = wakes s rest h k; store = h.store; subst = q; entries = h.entries }

evaluated_within : (s : State) (rest : List Element) (x : Tree) (v : Result ℤ Fault) → IsWithin s → AreElementsBelow s.next_var rest → IsBelow s.next_var x → IsWithin (evaluate_step s rest x v)
evaluated_within s rest x (Err e) h k b = record { stack = h.stack; store = h.store; subst = h.subst; entries = h.entries }
evaluated_within s rest x (Ok z) h k b = bound_within_step s rest (mgu s.subst x (int z)) h k (mgu_within s.next_var s.subst x (int z) h.subst b tt)

either_within : (b : Bool) (t u : State) → IsWithin t → IsWithin u → IsWithin (cond b t u)
either_within true t u h k = h
either_within false t u h k = k

compared_within : (s : State) (rest : List Element) (c : Comparison) (v w : Result ℤ Fault) → IsWithin s → AreElementsBelow s.next_var rest → IsWithin (compare_step s rest c v w)
compared_within s rest c (Err e) w h k = record { stack = h.stack; store = h.store; subst = h.subst; entries = h.entries }
compared_within s rest c (Ok x) (Err e) h k = record { stack = h.stack; store = h.store; subst = h.subst; entries = h.entries }
compared_within s rest c (Ok x) (Ok y) h k =
    either_within (comparison_holds c x y) _ _ (record { stack = wakes s rest h k; store = h.store; subst = h.subst; entries = h.entries })
    (record { stack = h.stack; store = h.store; subst = h.subst; entries = h.entries })

one_more : (n : ℕ) → n ≤ n + 1
one_more n = omega arith

solved_within : (s : State) (rest : List Element) (g : Goal) → IsWithin s → IsGoalBelow s.next_var g → AreElementsBelow s.next_var rest → IsWithin (solve s rest g)
solved_within s rest (constraint a) h b k = record {
  stack = All-cons (IsElementBelow s.next_var) (active s.next_id 1 a) rest b k;
  store = All-push (λ (r : Row). AreBelow s.next_var r.1.args) s.store (s.next_id, a) h.store b;
  subst = h.subst;
  entries = entries_more s.next_id (s.next_id + 1) s.history (one_more s.next_id) h.entries;
}
solved_within s rest (tell t u) h b k = bound_within_step s rest (mgu s.subst t u) h k (mgu_within s.next_var s.subst t u h.subst b.0 b.1)
solved_within s rest (evaluate x t) h b k = evaluated_within s rest x (value (apply s.subst t)) h k b.0
solved_within s rest (compare c t u) h b k = compared_within s rest c _ _ h k
solved_within s rest fail h b k = record { stack = h.stack; store = h.store; subst = h.subst; entries = h.entries }

-- tuples of rows that are so
module _ (Q : Row → Type 0) where
  chosen : (c : Row) (b : Bool) (ts : List (List Row)) → Q c → All (All Q) ts → (let w : List (List Row) = elim b [ true ↦ [] | false ↦ map (λ others. c ∷ others) ts ] in All (All Q) w)
  chosen c true ts q h = All-nil (All Q)
  chosen c false ts q h = All-map (All Q) (λ (others : List Row). c ∷ others) ts (All-weaker (All Q) (λ (others : List Row). All Q (c ∷ others)) (λ others k. All-cons Q c others q k) ts h)

  taken : (b : Bool) (a : Row) (rs : List Row) → Q a → All Q rs → All Q (cond b (a ∷ []) rs)
  taken true a rs q h = All-cons Q a [] q (All-nil Q)
  taken false a rs q h = h

  pub tuples_so : (rs : List Row) (a : Row) (place n : ℕ) (used : List ℕ) (k : ℕ) → Q a → All Q rs → All (All Q) (tuples_from rs a place n used k)
  tuples_so rs a place zero used k q h = All-cons (All Q) [] [] (All-nil Q) (All-nil (All Q))
  tuples_so rs a place (suc n) used k q h =
      All-flat_map (All Q) _ (cond (k == place) (a ∷ []) rs)
      (All-weaker Q _ (λ c p. chosen c (has_number used c.0) (tuples_from rs a place n (c.0 ∷ used) (k + 1)) p (tuples_so rs a place n (c.0 ∷ used) (k + 1) q h)) (cond (k == place) (a ∷ []) rs) (taken (k == place) a rs q h))

  atom_at : (b : Bool) (x : Row) (i : ℕ) (a : Atom) (o : Option Atom) → (x.0 == i) ≡ b → cond b (Some x.1) o ≡ Some a → Q x → (o ≡ Some a → Q (i, a)) → Q (i, a)
  atom_at true x i a o is e q h =
      let one : x.0 ≡ i = (Decides-eqb x.0 i).0 is in
      let other : x.1 ≡ a = cc in
      subst (λ (j : ℕ). Q (j, a)) one (subst (λ (b : Atom). Q (x.0, b)) other q)
  atom_at false x i a o is e q h = h e

  atom_so : (rs : List Row) (i : ℕ) (a : Atom) → All Q rs → atom_of rs i ≡ Some a → Q (i, a)
  atom_so [] i a h e = absurd (none_some a e)
    where
      none_some : (x : Atom) → ◌≡◌ {A = Option Atom} None (Some x) → ⊥
      none_some x e = cc
  atom_so (x ∷ rs) i a h e = atom_at (x.0 == i) x i a (atom_of rs i) refl e (All-head Q x rs h) (λ k. atom_so rs i a (All-tail Q x rs h) k)

-- what a search finds first among what is so passes, and is so
module _ {X : Type 0} (P : X → Type 0) (p : X → Bool) where
  found_here : (b : Bool) (x y : X) (o : Option X) → p x ≡ b → cond b (Some x) o ≡ Some y → P x → (o ≡ Some y → (p y ≡ true) × P y) → (p y ≡ true) × P y
  found_here true x y o is e h k = let same : x ≡ y = cc in (subst (λ (z : X). p z ≡ true) same is, subst P same h)
  found_here false x y o is e h k = k e

  pub find_so : (xs : List X) (y : X) → All P xs → find p xs ≡ Some y → (p y ≡ true) × P y
  find_so [] y h e = absurd (none_some y e)
    where
      none_some : (x : X) → ◌≡◌ {A = Option X} None (Some x) → ⊥
      none_some x e = cc
  find_so (x ∷ xs) y h e = found_here (p x) x y (find p xs) refl e (All-head P x xs h) (λ k. find_so xs y (All-tail P x xs h) k)

-- the row's identity is below the next one, and its variables are below the next variable
abbrev IsRowWithin : ℕ → ℕ → Row → Type 0
IsRowWithin i n r = (r.0 < i) × AreBelow n r.1.args

-- a firing is of a rule of the program, which fits rows that are so
abbrev IfFiring : ℕ → ℕ → Found → Type 0
IfFiring i n no_occurrence = Unit {0}
IfFiring i n no_firing = Unit {0}
IfFiring i n (firing k r place t) = IsBounded r × All (IsRowWithin i n) t × ((m : Subst) × (fits r.heads t ≡ Some m))

pub passes_some : (r : Rule) (o : Option Subst) → passes_guard r o ≡ true → (m : Subst) × (o ≡ Some m)
passes_some r None e = absurd (false_true e)
  where
    false_true : ◌≡◌ {A = Bool} false true → ⊥
    false_true e = cc
passes_some r (Some m) e = (m, refl)

module _ (p : Program) (bounded : AreBounded p) (i n : ℕ) (rs : List Row) (h : History) (within : All (IsRowWithin i n) rs) where
  with_within : (k : ℕ) (rule : Rule) (place j : ℕ) (a : Atom) (o : Option (List Row)) → IsBounded rule → IsRowWithin i n (j, a) → first_tuple rs h k rule place (j, a) ≡ o → IfFiring i n (found_with k rule place o)
  with_within k rule place j a None b q e = tt
  with_within k rule place j a (Some t) b q e =
      let w = find_so (All (IsRowWithin i n)) (can_fire h k rule) (tuples rs rule place (j, a)) t (tuples_so (IsRowWithin i n) rs (j, a) place _ [] 0 q within) e in
      (b, w.1, passes_some rule (fits rule.heads t) (and_parts (passes_guard rule (fits rule.heads t)) _ w.0).0)

  for_within : (k : ℕ) (rule : Rule) (place j : ℕ) (o : Option Atom) → IsBounded rule → atom_of rs j ≡ o → IfFiring i n (found_for rs h k rule place j o)
  for_within k rule place j None b e = tt
  for_within k rule place j (Some a) b e = with_within k rule place j a (first_tuple rs h k rule place (j, a)) b (atom_so (IsRowWithin i n) rs j a within e) refl

  at_within : (f j l : ℕ) (o : Option Occurrence) → occurrence p f l ≡ o → IfFiring i n (found_at rs h j o)
  at_within f j l None e = tt
  at_within f j l (Some o) e =
      let at = occurrence_rule p f l o e in
      for_within o.number o.rule o.place j (atom_of rs j) (All-got IsBounded p o.number o.rule at bounded) refl

store_ids : (lo n : ℕ) (rs : List Row) → Ascends lo rs n → All (λ (r : Row). r.0 < n) rs
store_ids lo n [] h = All-nil (λ (r : Row). r.0 < n)
store_ids lo n (r ∷ rs) h =
    let ends : r.0 + 1 ≤ n = Ascends-ends (r.0 + 1) n rs h.1 in
    All-cons (λ (r : Row). r.0 < n) r rs (omega (arith, ends)) (store_ids (r.0 + 1) n rs h.1)

both_so : (P Q : Row → Type 0) (rs : List Row) → All P rs → All Q rs → All (λ (r : Row). P r × Q r) rs
both_so P Q [] h k = All-nil (λ (r : Row). P r × Q r)
both_so P Q (r ∷ rs) h k = All-cons (λ (r : Row). P r × Q r) r rs (All-head P r rs h, All-head Q r rs k) (both_so P Q rs (All-tail P r rs h) (All-tail Q r rs k))

-- the rows of a state
rows_within : (s : State) → IsSound s → IsWithin s → All (IsRowWithin s.next_id s.next_var) (rows s)
rows_within s sound h =
    let resolved : Row → Row = λ r. (r.0, resolved_atom s.subst r.1) in
    All-map (IsRowWithin s.next_id s.next_var) resolved s.store
    (All-weaker (IsRowWithin s.next_id s.next_var) (λ (r : Row). IsRowWithin s.next_id s.next_var (resolved r)) (λ r q. (q.0, apply_all_within s.next_var s.subst r.1.args h.subst q.1)) s.store
    (both_so (λ (r : Row). r.0 < s.next_id) (λ (r : Row). AreBelow s.next_var r.1.args) s.store (store_ids 0 s.next_id s.store sound.ascends) h.store))

-- the body's variables
fresh_less : (x h v n : ℕ) → x < v → nat_lt x h ≡ false → n + (x - h) < n + (v - h)
fresh_less x h v n lt e = grind (arith, lt, e)

body_variable : (r : Rule) (m : Subst) (n x : ℕ) (b : Bool) → nat_lt x r.head_vars ≡ b → IsSubstBelow n m → (x < r.head_vars → binds_var m x ≡ true) → x < r.vars
    → IsBelow (n + (r.vars - r.head_vars)) (cond b (value_at m x) (var (n + (x - r.head_vars))))
body_variable r m n x true e h c lt = below_more n (n + (r.vars - r.head_vars)) (value_at m x) (omega arith) (bound_within n m x h (c ((Decides-ltb x r.head_vars).0 e)))
body_variable r m n x false e h c lt = fresh_less x r.head_vars r.vars n lt e

ids_less : (i n : ℕ) (t : List Row) → All (IsRowWithin i n) t → All (λ j. j < i) (ids_of t)
ids_less i n t h = All-map (λ (j : ℕ). j < i) (λ (r : Row). r.0) t (All-weaker (IsRowWithin i n) (λ (r : Row). r.0 < i) (λ r q. q.0) t h)

if_some : (n : ℕ) (o : Option Subst) (m : Subst) → o ≡ Some m → IfSubst n o → IsSubstBelow n m
if_some n None m e h = absurd (none_some m e)
  where
    none_some : (x : Subst) → ◌≡◌ {A = Option Subst} None (Some x) → ⊥
    none_some x e = cc
if_some n (Some k) m e h = let same : k ≡ m = cc in subst (IsSubstBelow n) same h

put_back : (n : ℕ) (b : Bool) (e : Element) (rest : List Element) → IsElementBelow n e → AreElementsBelow n rest → AreElementsBelow n (cond b (e ∷ rest) rest)
put_back n true e rest h k = All-cons (IsElementBelow n) e rest h k
put_back n false e rest h k = k

module _ (s : State) (rest : List Element) (i j : ℕ) (a : Atom) (within : IsWithin s) (own : AreBelow s.next_var a.args) (others : AreElementsBelow s.next_var rest) where
  fired_within : (k : ℕ) (r : Rule) (place : ℕ) (t : List Row) → IsBounded r → All (IsRowWithin s.next_id s.next_var) t → (m : Subst) → fits r.heads t ≡ Some m → IsWithin (fire_step s rest (active i j a) k r place t)
  fired_within k r place t b q m e =
      let n = s.next_var in
      let top = n + (r.vars - r.head_vars) in
      let le : n ≤ top = omega arith in
      let args : AreRowsBelow n t = All-weaker (IsRowWithin s.next_id n) (λ (x : Row). AreBelow n x.1.args) (λ x w. w.1) t q in
      let small : IsSubstBelow n m = if_some n (fits r.heads t) m e (fits_within n r.heads t args) in
      let is : unwrap_or (fits r.heads t) [] ≡ m = ap (λ (o : Option Subst). unwrap_or o []) e in
      let variables = λ (x : ℕ) (lt : x < r.vars). body_variable r m n x (nat_lt x r.head_vars) refl small (λ l. fits_law.variables r.heads t m e x ∙ b.covered x l) lt in
      let replaced : (x : ℕ) → x < r.vars → IsBelow top (in_body r (unwrap_or (fits r.heads t) []) n x) = λ x lt. subst (λ (w : Subst). IsBelow top (in_body r w n x)) (sym is) (variables x lt) in
      record {
        stack = All-append (IsElementBelow top) (body_of r t n) _
            (All-map (IsElementBelow top) (λ g. goal (goal_instance (in_body r (unwrap_or (fits r.heads t) []) n) g)) r.body
            (All-weaker (IsGoalBelow r.vars) _ (λ g h. goal_within r.vars top (in_body r (unwrap_or (fits r.heads t) []) n) g replaced h) r.body b.body))
            (put_back top (nat_lt place r.kept) (active i j a) rest (below_more_all n top a.args le own) (elements_more n top rest le others));
        store = rows_more n top _ le (All-filter _ (λ (x : Row). AreBelow n x.1.args) s.store within.store);
        subst = subst_more n top s.subst le within.subst;
        entries = All-push (λ (f : ℕ × List ℕ). All (λ i. i < s.next_id) f.1) s.history (k, ids_of t) within.entries (ids_less s.next_id n t q);
      }

  found_within : (w : Found) → IfFiring s.next_id s.next_var w → IsWithin (search_step s rest i j a w)
  found_within no_occurrence h = record { stack = others; store = within.store; subst = within.subst; entries = within.entries }
  found_within no_firing h = record { stack = All-cons (IsElementBelow s.next_var) (active i (j + 1) a) rest own others; store = within.store; subst = within.subst; entries = within.entries }
  found_within (firing k r place t) h = fired_within k r place t h.0 h.1 h.2.0 h.2.1

module _ (p : Program) (bounded : AreBounded p) (s : State) (sound : IsSound s) (within : IsWithin s) where
  top_within : (es : List Element) → AreElementsBelow s.next_var es → IsWithin (step_top p s es)
  top_within [] h = within
  top_within (goal g ∷ es) h = solved_within s es g within (All-head (IsElementBelow s.next_var) (goal g) es h) (All-tail (IsElementBelow s.next_var) (goal g) es h)
  top_within (known i a ∷ es) h = record {
    stack = All-cons (IsElementBelow s.next_var) (active i 1 a) es (All-head (IsElementBelow s.next_var) (known i a) es h) (All-tail (IsElementBelow s.next_var) (known i a) es h);
    store = within.store;
    subst = within.subst;
    entries = within.entries;
  }
  top_within (active i j a ∷ es) h =
      found_within s es i j a within (All-head (IsElementBelow s.next_var) (active i j a) es h) (All-tail (IsElementBelow s.next_var) (active i j a) es h) (search_at p s i j a)
      (at_within p bounded s.next_id s.next_var (rows s) s.history (rows_within s sound within) a.sym i j (occurrence p a.sym j) refl)

  at_status : (w : Status) → IsWithin (step_at p s w)
  at_status running = top_within s.stack within.stack
  at_status done = within
  at_status failed = within
  at_status (faulted f) = within

start_within : (q : Query) → IsQueryBounded q → IsWithin (start q)
start_within q h = record {
  stack = All-map (IsElementBelow _) (λ g. goal g) q.goals h;
  store = All-nil (λ (r : Row). AreBelow _ r.1.args);
  subst = All-nil (λ (p : ℕ × Tree). IsBelow _ p.1);
  entries = All-nil (λ (f : ℕ × List ℕ). All (λ i. i < 1) f.1);
}

pub bounds_law : BoundsLaw
bounds_law = record { starts = start_within; steps = λ p s b sound h. at_status p b s sound h s.status }
