-- The footprint law.
use Rattle.std.specs.Prelude.{◌≡◌, ◌↔◌, IsTrue, ℕ, ◌+◌, ◌<◌, ◌≤◌, ◌==◌, true, cond, List, [], ◌∷◌, ◌++◌, Option, Some, None}
use Rattle.std.specs.List.{list_all}
use Rattle.chr_semantics.specs.Subst.{IsSolved}
use Rattle.chr_semantics.specs.Program.{Atom, Occurrence, Program, occurrence, Query}
use Rattle.chr_semantics.specs.Match.{Row}
use Rattle.chr_semantics.specs.Search.{atom_of, first, ids_found, live_entries}
use Rattle.chr_semantics.specs.State.{Element, goal, known, active, State, resolved_atom, rows, start}
use Rattle.chr_semantics.specs.Step.{after, search_at}
use Rattle.chr_semantics.specs.Touch.{Mark, symbol, rule, touches, touched, touched_any, footprint}
use Rattle.chr_semantics.specs.Tasks.{Task, guest, needed_task}
use Rattle.chr_semantics.specs.Schedule.{serves}

-- the identities ascend, from lo on, and are below hi
abbrev pub Ascends : ℕ → List Row → ℕ → Type 0
Ascends lo [] hi = lo ≤ hi
Ascends lo (r ∷ rs) hi = (lo ≤ r.0) × Ascends (r.0 + 1) rs hi

-- the goal a of an element is that of its constraint i, where it lives
abbrev pub IsGoalOf : List Row → ℕ → ℕ → Atom → Type 0
IsGoalOf store n i a = (i < n) × ((b : Atom) → atom_of store i ≡ Some b → b ≡ a)

abbrev pub AgreesAt : List Row → ℕ → Element → Type 0
AgreesAt store n (goal g) = Unit {0}
AgreesAt store n (known i a) = IsGoalOf store n i a
AgreesAt store n (active i j a) = IsGoalOf store n i a

-- the stack agrees with a store whose identities are below n
abbrev pub Agrees : List Row → ℕ → List Element → Type 0
Agrees store n [] = Unit {0}
Agrees store n (e ∷ es) = AgreesAt store n e × Agrees store n es

-- what holds of each state of a run
pub record IsSound (s : State) : Type 0 where
  pub solved : IsSolved s.subst
  pub ascends : Ascends 0 s.store s.next_id
  pub agrees : Agrees s.store s.next_id s.stack

-- In a query's run: where none of the next n transitions touches the footprint of occurrence j of the living constraint i, its first firing
-- stays.
abbrev pub FootprintLaw : Type 0
FootprintLaw =
    (p : Program) (r : Query) (k n i j : ℕ) (a : Atom) (o : Occurrence)
    → (let s = after p (start r) k in atom_of s.store i ≡ Some a → occurrence p a.sym j ≡ Some o → touched_any p s n (footprint p s i j) ≡ 0
    → first p (rows (after p s n)) (after p s n).history i j ≡ first p (rows s) s.history i j)

abbrev pub with_guest : State → Option Atom → List Row
with_guest s None = rows s
with_guest s (Some a) = rows s ++ (s.next_id, resolved_atom s.subst a) ∷ []

-- the rows that a search for the constraint i looks at: for the next identity the guest is added
abbrev pub rows_for : State → ℕ → List Row
rows_for s i = cond (i == s.next_id) (with_guest s (guest s)) (rows s)

-- what the task finds in what the state shows
abbrev pub answer : Program → State → Task → Option (List ℕ)
answer p s t = first p (rows_for s t.0) s.history t.0 t.1

-- in a query's run a task finds the same with only the entries of the history whose identities all live, for the guest too
abbrev pub TakenLaw : Type 0
TakenLaw =
    (p : Program) (r : Query) (n : ℕ) (t : Task)
    → (let s = after p (start r) n in first p (rows_for s t.0) (live_entries (rows s) s.history) t.0 t.1 ≡ answer p s t)

-- in a query's run, an answer that serves is the first firing
abbrev pub ServesLaw : Type 0
ServesLaw =
    (p : Program) (r : Query) (k m : ℕ) (t : Task) (a : Atom) (o : Occurrence)
    → (let q = start r in atom_of (after p q (k + m)).store t.0 ≡ Some a → occurrence p a.sym t.1 ≡ Some o → serves p q k (k + m) t ≡ true
    → answer p (after p q k) t ≡ first p (rows (after p q (k + m))) (after p q (k + m)).history t.0 t.1)

-- what an Activate of a constraint of the symbol f adds to the count of a mark
abbrev pub marks_added : ℕ → Mark → ℕ
marks_added f (symbol g) = cond (f == g) 1 0
marks_added f (rule r) = 0

-- The counts of touches, mark by mark, which a run can keep as stamps: a step adds one to the marks that it touches; the counts of some
-- marks are equal at two places exactly where no transition between touches any of them; and where the constraint i came in between, the
-- count of its symbol alone has risen, by one, exactly where one transition touches the footprint, which is then its Activate.
pub record StampsLaw : Type 0 where
  pub grows : (p : Program) (q : State) (n : ℕ) (x : Mark) → touched p q (n + 1) x ≡ touched p q n x + cond (touches p (after p q n) x) 1 0
  pub untouched : (p : Program) (q : State) (k m : ℕ) (marks : List Mark) → IsTrue (list_all (λ x. touched p q k x == touched p q (k + m) x) marks) ↔ (touched_any p (after p q k) m marks ≡ 0)
  pub activated :
      (p : Program) (r : Query) (k m i j : ℕ) (a : Atom) (o : Occurrence)
      → (let q = start r in (after p q k).next_id ≡ i → atom_of (after p q (k + m)).store i ≡ Some a → occurrence p a.sym j ≡ Some o
      → IsTrue (list_all (λ x. touched p q k x + marks_added a.sym x == touched p q (k + m) x) (footprint p (after p q (k + m)) i j)) ↔ (touched_any p (after p q k) m (footprint p (after p q (k + m)) i j) ≡ 1))

-- what the search of the next step finds
abbrev pub step_answer_top : Program → State → List Element → Option (List ℕ)
step_answer_top p s [] = None
step_answer_top p s (goal g ∷ es) = None
step_answer_top p s (known i a ∷ es) = None
step_answer_top p s (active i j a ∷ es) = ids_found (search_at p s i j a)

abbrev pub step_answer : Program → State → Option (List ℕ)
step_answer p s = step_answer_top p s s.stack

-- of a query's start: an answer that serves the search of a step is what that search finds
abbrev pub UsedLaw : Type 0
UsedLaw =
    (p : Program) (r : Query) (k m : ℕ) (t : Task) → (let q = start r in needed_task p (after p q (k + m)) ≡ Some t → serves p q k (k + m) t ≡ true
    → answer p (after p q k) t ≡ step_answer p (after p q (k + m)))
