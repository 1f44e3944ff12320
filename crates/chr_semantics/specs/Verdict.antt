-- Why a rule does not fire with a list of constraints, one for each head, or that it could (this project's own).
use Rattle.std.specs.Prelude.{◌≡◌, ℕ, ◌+◌, ◌-◌, Bool, true, false, cond, not, ◌&&◌, ◌||◌, ◌==◌, nat_lt, List, [], ◌∷◌, ◌++◌, Option, Some, None, is_none, is_some, find, filter_map, map, length, flat_map, option_and_then, option_map, slice_get, unwrap_or, Ok, Err}
use Rattle.std.specs.List.{list_all}
use Rattle.chr_semantics.specs.Tree.{Tree, var, int, node, Trees, none, more, is_ground_tree, same}
use Rattle.chr_semantics.specs.Subst.{Subst, apply, binds_var, instance, instances}
use Rattle.chr_semantics.specs.Mgu.{mgu, vars_of_all}
use Rattle.chr_semantics.specs.Value.{Value, not_number, overflow, unbound, value, zero_divisor}
use Rattle.chr_semantics.specs.Program.{Head, Program, Query, Rule, Test, compares, identical, is_ground, is_integer, not_unifiable}
use Rattle.chr_semantics.specs.Match.{Row, fits}
use Rattle.chr_semantics.specs.Guard.{entailed, is_int}
use Rattle.chr_semantics.specs.Search.{atom_of, can_fire, fired_before, has_number}
use Rattle.chr_semantics.specs.State.{State, rows, start}
use Rattle.chr_semantics.specs.Step.{after}

-- ---- guards

-- Why a test is not entailed: it is false of the terms that stand there; a binding may yet decide it; or a side has no value, whatever is
-- bound.
pub data Lack : Type 0 where
  untrue : Lack
  undecided : Lack
  never : Lack

abbrev pub is_unbound : Value → Bool
is_unbound (Ok z) = false
is_unbound (Err unbound) = true
is_unbound (Err not_number) = false
is_unbound (Err overflow) = false
is_unbound (Err zero_divisor) = false

-- a fault that no binding mends
abbrev pub is_faulty : Value → Bool
is_faulty (Ok z) = false
is_faulty (Err unbound) = false
is_faulty (Err not_number) = true
is_faulty (Err overflow) = true
is_faulty (Err zero_divisor) = true

abbrev pub lack_of_values : Value → Value → Lack
lack_of_values a b = cond (is_faulty a || is_faulty b) never (cond (is_unbound a || is_unbound b) undecided untrue)

abbrev pub is_variable : Tree → Bool
is_variable (var x) = true
is_variable (int z) = false
is_variable (node f ts) = false

abbrev pub lack_where : Bool → Lack
lack_where true = undecided
lack_where false = untrue

-- of a test that is not entailed under the match
abbrev pub lack : Subst → Test → Lack
lack m (identical s t) = lack_where (is_some (mgu [] (apply m s) (apply m t)))
lack m (not_unifiable s t) = lack_where (not (same (apply m s) (apply m t)))
lack m (compares c s t) = lack_of_values (value (apply m s)) (value (apply m t))
lack m (is_integer t) = lack_where (is_variable (apply m t))
lack m (is_ground t) = undecided

-- the test with what the match gives its variables put in
abbrev pub applied : Subst → Test → Test
applied m (identical s t) = identical (apply m s) (apply m t)
applied m (not_unifiable s t) = not_unifiable (apply m s) (apply m t)
applied m (compares c s t) = compares c (apply m s) (apply m t)
applied m (is_integer t) = is_integer (apply m t)
applied m (is_ground t) = is_ground (apply m t)

-- ---- heads and constraints

-- Terms made equal one after another, with what was bound before: the bindings, or where two terms part, by the numbers of the arguments
-- that lead there, with both terms as they stand there.
pub data Joining : Type 0 where
  joined : Subst → Joining
  parted : List ℕ → Tree → Tree → Joining

abbrev pub joined_by : Option Subst → Subst → Tree → Tree → Joining
joined_by None u t v = parted [] (apply u t) (apply u v)
joined_by (Some r) u t v = joined r

abbrev mutual
  pub join_terms : Subst → Tree → Tree → Joining
  join_terms u (var x) v = joined_by (mgu u (var x) v) u (var x) v
  join_terms u (int z) v = joined_by (mgu u (int z) v) u (int z) v
  join_terms u (node f ts) (var y) = joined_by (mgu u (node f ts) (var y)) u (node f ts) (var y)
  join_terms u (node f ts) (int w) = parted [] (apply u (node f ts)) (int w)
  join_terms u (node f ts) (node g vs) = cond (f == g) (join_arguments u 1 ts vs) (parted [] (apply u (node f ts)) (apply u (node g vs)))

  -- from the k-th argument on; where one list is shorter, the other's term stands for both
  pub join_arguments : Subst → ℕ → Trees → Trees → Joining
  join_arguments u k none none = joined u
  join_arguments u k none (more v vs) = parted (k ∷ []) v v
  join_arguments u k (more t ts) none = parted (k ∷ []) t t
  join_arguments u k (more t ts) (more v vs) = elim (join_terms u t v) [ joined r ↦ join_arguments r (k + 1) ts vs | parted way s w ↦ parted (k ∷ way) s w ]

-- the terms with their variables renamed apart from those below n
abbrev pub renamed : ℕ → Trees → Trees
renamed n ts = instances (λ x. var (n + x)) ts

-- heads from the k-th on, renamed apart from the variables below n, made equal to rows; the way begins with the number of the head
abbrev pub join_rows : Subst → ℕ → ℕ → List Head → List Row → Joining
join_rows u n k [] rs = joined u
join_rows u n k (h ∷ hs) [] = joined u
join_rows u n k (h ∷ hs) (r ∷ rs) = elim (join_arguments u 1 (renamed n h.atom.args) r.1.args) [ joined v ↦ join_rows v n (k + 1) hs rs | parted way s w ↦ parted (k ∷ way) s w ]

-- the variables of rows, and a number past all of a list
abbrev pub row_vars : List Row → List ℕ
row_vars rs = flat_map (λ (r : Row). vars_of_all r.1.args) rs

abbrev pub past : List ℕ → ℕ
past [] = 0
past (x ∷ xs) = cond (nat_lt x (past xs)) (past xs) (x + 1)

-- ---- verdicts

-- What stands in the way of a firing, of which the first counts; heads, arguments and tests are numbered from 1.
pub data Verdict : Type 0 where
  -- the rule has fired with the list
  fired : Verdict
  -- the constraint of an identity has not come yet, or has gone
  not_yet_there : ℕ → Verdict
  removed : ℕ → Verdict
  -- an identity stands for two heads
  twice : ℕ → Verdict
  -- the constraint for a head has another symbol
  other_symbol : ℕ → Verdict
  -- no binding makes the heads the constraints: where they part, with both terms
  unlike : List ℕ → Tree → Tree → Verdict
  -- a binding would: the head, and a variable of its constraint that this binds
  waits : ℕ → ℕ → Verdict
  -- a test of the guard is not entailed
  guard : ℕ → Lack → Verdict
  -- nothing
  could_fire : Verdict

abbrev pub first_absent : State → List ℕ → Option Verdict
first_absent s [] = None
first_absent s (i ∷ ids) = cond (is_some (atom_of s.store i)) (first_absent s ids) (Some (cond (nat_lt i s.next_id) (removed i) (not_yet_there i)))

abbrev pub first_repeated : List ℕ → Option Verdict
first_repeated [] = None
first_repeated (i ∷ ids) = cond (has_number ids i) (Some (twice i)) (first_repeated ids)

abbrev pub first_of_another : ℕ → List Head → List Row → Option Verdict
first_of_another k [] rs = None
first_of_another k (h ∷ hs) [] = None
first_of_another k (h ∷ hs) (r ∷ rs) = cond (h.atom.sym == r.1.sym) (first_of_another (k + 1) hs rs) (Some (other_symbol k))

-- the first variable of the rows that a unifier binds
abbrev pub first_bound : Subst → ℕ → List Row → Option Verdict
first_bound u k [] = None
first_bound u k (r ∷ rs) = elim (find (binds_var u) (vars_of_all r.1.args)) [ Some x ↦ Some (waits k x) | None ↦ first_bound u (k + 1) rs ]

abbrev pub first_lack : Subst → ℕ → List Test → Verdict
first_lack m k [] = could_fire
first_lack m k (t ∷ ts) = cond (entailed m t) (first_lack m (k + 1) ts) (guard k (lack m t))

-- of heads that have a unifier with the rows, by the match
abbrev pub of_match : Rule → List Row → Subst → Option Subst → Verdict
of_match rule rs u (Some m) = first_lack m 1 rule.guard
of_match rule rs u None = unwrap_or (first_bound u 1 rs) (waits 0 0)

abbrev pub of_joining : Rule → List Row → Joining → Verdict
of_joining rule rs (parted way s w) = unlike way s w
of_joining rule rs (joined u) = of_match rule rs u (fits rule.heads rs)

-- of rows of the heads' symbols with different identities
abbrev pub of_rows : Rule → List Row → Verdict
of_rows rule rs = of_joining rule rs (join_rows [] (past (row_vars rs)) 1 rule.heads rs)

abbrev pub or_else : Option Verdict → Verdict → Verdict
or_else None v = v
or_else (Some w) v = w

-- the rows of identities, where all live
abbrev pub rows_of : List Row → List ℕ → List Row
rows_of rs ids = filter_map (λ i. option_map (λ a. (i, a)) (atom_of rs i)) ids

-- the verdict on the rule r and a list of identities, one for each head
abbrev pub verdict : State → ℕ → Rule → List ℕ → Verdict
verdict s r rule ids =
    let rs = rows_of (rows s) ids in
    cond (fired_before s.history r ids) fired
    (or_else (first_absent s ids) (or_else (first_repeated ids) (or_else (first_of_another 1 rule.heads rs) (of_rows rule rs))))

-- the k-th test of the rule's guard, from 1, as it stands with a list whose constraints the heads fit
abbrev pub tested : State → Rule → List ℕ → ℕ → Option Test
tested s rule ids k = option_and_then (λ m. option_map (applied m) (slice_get rule.guard (k - 1))) (fits rule.heads (rows_of (rows s) ids))

-- all these constraints live, their identities differ, and the rule can fire with them
abbrev pub can_fire_with : State → ℕ → Rule → List ℕ → Bool
can_fire_with s r rule ids =
    list_all (λ i. is_some (atom_of s.store i)) ids && (is_none (first_repeated ids) && can_fire s.history r rule (rows_of (rows s) ids))

-- how far a list came: the place of what stands in its way among the kinds of verdicts, in the order in which they count
abbrev pub stage : Verdict → ℕ
stage fired = 1
stage (not_yet_there i) = 2
stage (removed i) = 2
stage (twice i) = 3
stage (other_symbol k) = 4
stage (unlike way s w) = 5
stage (waits k x) = 6
stage (guard k l) = 7
stage could_fire = 8

-- the verdict says that nothing stands in the way
abbrev pub is_could_fire : Verdict → Bool
is_could_fire v = stage v == 8

-- rows with a function of variables applied
abbrev pub bound_by : (ℕ → Tree) → List Row → List Row
bound_by f rs = map (λ (r : Row). (r.0, record { sym = r.1.sym; args = instances f r.1.args })) rs

-- the test under the match, with a function of variables applied, is decided: it is entailed, or it compares and no side is unbound
abbrev pub IsDecided : (ℕ → Tree) → Subst → Test → Type 0
IsDecided f m (identical s t) = same (instance f (apply m s)) (instance f (apply m t)) ≡ true
IsDecided f m (not_unifiable s t) = mgu [] (instance f (apply m s)) (instance f (apply m t)) ≡ None
IsDecided f m (compares c s t) = (is_unbound (value (instance f (apply m s))) ≡ false) × (is_unbound (value (instance f (apply m t))) ≡ false)
IsDecided f m (is_integer t) = is_int (instance f (apply m t)) ≡ true
IsDecided f m (is_ground t) = is_ground_tree (instance f (apply m t)) ≡ true

-- A list could fire exactly where its constraints live, are different and can fire the rule. Where, in a query's run, a list is unlike the
-- heads, it is so for good, and so is each that begins with it: a list for the first heads that is unlike them has none behind it that ever
-- fires. Where it waits, some binding makes the heads match; and where a test is undecided, some binding decides it.
pub record VerdictLaw : Type 0 where
  pub could : (s : State) (r : ℕ) (rule : Rule) (ids : List ℕ) → is_could_fire (verdict s r rule ids) ≡ can_fire_with s r rule ids
  pub for_good : (p : Program) (q : Query) (n m r : ℕ) (rule : Rule) (ids way : List ℕ) (t u : Tree)
      → verdict (after p (start q) n) r rule ids ≡ unlike way t u → can_fire_with (after p (start q) (n + m)) r rule ids ≡ false
  pub behind : (p : Program) (q : Query) (n m r : ℕ) (rule : Rule) (ids others way : List ℕ) (t u : Tree)
      → verdict (after p (start q) n) r rule ids ≡ unlike way t u → can_fire_with (after p (start q) (n + m)) r rule (ids ++ others) ≡ false
  pub mends : (s : State) (r : ℕ) (rule : Rule) (ids : List ℕ) (k x : ℕ) → length ids ≡ length rule.heads → verdict s r rule ids ≡ waits k x
      → (f : ℕ → Tree) × (m : Subst) × (fits rule.heads (bound_by f (rows_of (rows s) ids)) ≡ Some m)
  pub decides : (m : Subst) (t : Test) → lack m t ≡ undecided → (f : ℕ → Tree) × IsDecided f m t
