-- What a core keeps, and that it stands at a schedule of a query.
use Rattle.std.specs.Prelude.{◌≡◌, ◌≤◌, ℕ, ◌+◌, true, false, cond, not, ◌&&◌, ◌==◌, nat_lt, List, [], ◌∷◌, ◌++◌, length, replicate, Option, Some, None, slice_get, unwrap_or}
use Rattle.std.specs.List.{list_any}
use Rattle.chr_semantics.specs.Footprint.{answer, marks_added}
use Rattle.chr_semantics.specs.Program.{Atom, Occurrence, Program, Query, occurrence}
use Rattle.chr_semantics.specs.Schedule.{Event, Progress, arrive, double, kept, late, move, progress, publish, same_goal, took}
use Rattle.chr_semantics.specs.Search.{atom_of, first, has_number}
use Rattle.chr_semantics.specs.Stamps.{IsRise, Rise, stamp}
use Rattle.chr_semantics.specs.State.{State, resolved_atom, rows, start}
use Rattle.chr_semantics.specs.Step.{after}
use Rattle.chr_semantics.specs.Tasks.{Task, needed_task, same_task}
use Rattle.chr_semantics.specs.Touch.{footprint_of}
use Rattle.chr_semantics.specs.declared.limits.TheConstants.{KEPT_ROUNDS}
use Rattle.chr_laws.specs.Kept.{Answered, IsPlaced, at_of, is_guests, newest, place_of, serves_at}
use Rattle.chr_laws.specs.Rounds.{AreRounds, Holds, IsRound, Round, ats, flag_at}
use Rattle.chr_laws.specs.Sums.{sum_of}

-- The transitions, the rounds, the kept answers, where those to a task stand among them, and the numbers of late, double, used and own
-- events.
pub record Core : Type 0 where
  pub steps : ℕ
  pub rounds : List Round
  pub answers : List Answered
  pub row : Task → Option ℕ
  pub guests : Task → List ℕ
  pub late : ℕ
  pub double : ℕ
  pub used : ℕ
  pub own : ℕ

abbrev pub no_core : Core
no_core = record { steps = 0; rounds = []; answers = []; row = λ t. None; guests = λ t. []; late = 0; double = 0; used = 0; own = 0 }

-- it agrees with a progress that n events made
pub record StandsAt (p : Program) (rise : Rise) (q : State) (g : Progress) (n : ℕ) (c : Core) : Type 0 where
  pub holds : Holds p rise q g c.rounds c.answers c.row c.guests
  pub steps_are : g.steps ≡ c.steps
  pub late_are : g.late ≡ c.late
  pub double_are : g.double ≡ c.double
  pub used_are : g.used ≡ c.used
  pub own_are : g.own ≡ c.own
  pub few : c.late + c.double + c.used + c.own ≤ n

-- it stands at a schedule from the start q of a query
abbrev pub Stands : Program → Rise → State → List Event → Core → Type 0
Stands p rise q es c = StandsAt p rise q (progress p q es) (length es) c

-- A core goes on to stand at the schedule with one event more.
pub record StandsLaw : Type 0 where
  pub none : (p : Program) (rise : Rise) (q : State) → Stands p rise q [] no_core
  pub publishes :
      (p : Program) (rise : Rise) (q : State) (es : List Event) (c : Core) (d : Round)
      → Stands p rise q es c → IsRound p rise q d → d.at ≡ c.steps → d.flags ≡ replicate (length d.flags) false
      → Stands p rise q (es ++ publish ∷ []) (record c { rounds = c.rounds ++ d ∷ [] })
  -- what becomes of an answer
  pub takes :
      (p : Program) (rise : Rise) (q : State) (es : List Event) (c : Core) (i x : ℕ)
      → Stands p rise q es c
      → took (progress p q es) i x ≡ cond (nat_lt (i + KEPT_ROUNDS) (length c.rounds)) (late i) (cond (flag_at c.rounds i x) (double i) (kept i))
  pub comes_late :
      (p : Program) (rise : Rise) (q : State) (es : List Event) (c : Core) (i x : ℕ)
      → Stands p rise q es c → took (progress p q es) i x ≡ late i
      → Stands p rise q (es ++ arrive i x ∷ []) (record c { late = c.late + 1 })
  pub comes_again :
      (p : Program) (rise : Rise) (q : State) (es : List Event) (c : Core) (i x : ℕ)
      → Stands p rise q es c → took (progress p q es) i x ≡ double i
      → Stands p rise q (es ++ arrive i x ∷ []) (record c { double = c.double + 1 })
  pub keeps :
      (p : Program) (rise : Rise) (q : State) (es : List Event) (c : Core) (new_rounds : List Round) (new_row : Task → Option ℕ) (new_guests : Task → List ℕ) (k : Answered)
      → Stands p rise q es c → took (progress p q es) k.round k.index ≡ kept k.round
      → IsPlaced p q (ats c.rounds) k → k.ids ≡ answer p (after p q (at_of (ats c.rounds) k)) k.task
      → ats new_rounds ≡ ats c.rounds → AreRounds p rise q new_rounds
      → ((i x : ℕ) → flag_at new_rounds i x ≡ cond (same_task (i, x) (place_of k)) true (flag_at c.rounds i x))
      → ((t : Task) → new_row t ≡ cond (same_task t k.task && not (is_guests p q (ats c.rounds) k)) (newest (ats c.rounds) c.answers (at_of (ats c.rounds) k) (length c.answers) (c.row t)) (c.row t))
      → ((t : Task) → new_guests t ≡ cond (same_task t k.task && is_guests p q (ats c.rounds) k) (c.guests t ++ length c.answers ∷ []) (c.guests t))
      → Stands p rise q (es ++ arrive k.round k.index ∷ []) (record c { rounds = new_rounds; answers = c.answers ++ k ∷ []; row = new_row; guests = new_guests })
  -- a transition without a search
  pub moves :
      (p : Program) (rise : Rise) (q : State) (es : List Event) (c : Core)
      → Stands p rise q es c → needed_task p (after p q c.steps) ≡ None
      → Stands p rise q (es ++ move ∷ []) (record c { steps = c.steps + 1 })
  -- with a search that a kept answer serves
  pub uses :
      (p : Program) (rise : Rise) (q : State) (es : List Event) (c : Core) (t : Task) (n : ℕ) (k : Answered)
      → Stands p rise q es c → needed_task p (after p q c.steps) ≡ Some t
      → slice_get c.answers n ≡ Some k → same_task t k.task ≡ true → serves_at p q (ats c.rounds) c.steps c.answers t n ≡ true
      → Stands p rise q (es ++ move ∷ []) (record c { steps = c.steps + 1; used = c.used + 1 })
  -- with one that none serves
  pub searches :
      (p : Program) (rise : Rise) (q : State) (es : List Event) (c : Core) (t : Task)
      → Stands p rise q es c → needed_task p (after p q c.steps) ≡ Some t
      → ((n : ℕ) → c.row t ≡ Some n → serves_at p q (ats c.rounds) c.steps c.answers t n ≡ false)
      → list_any (serves_at p q (ats c.rounds) c.steps c.answers t) (c.guests t) ≡ false
      → Stands p rise q (es ++ move ∷ []) (record c { steps = c.steps + 1; own = c.own + 1 })

-- what the round of an answer keeps: the sum of its task, and the goal of the guest
abbrev pub sum_in : ℕ → Option Round → ℕ
sum_in x None = 0
sum_in x (Some d) = unwrap_or (slice_get d.sums x) 0

abbrev pub sum_kept : List Round → Answered → ℕ
sum_kept rounds k = sum_in k.index (slice_get rounds k.round)

abbrev pub goal_in : Option Round → Option Atom
goal_in None = None
goal_in (Some d) = d.guest

abbrev pub goal_kept : List Round → Answered → Option Atom
goal_kept rounds k = goal_in (slice_get rounds k.round)

-- the constraint of a task lives, and has that occurrence
pub record HasOccurrence (p : Program) (s : State) (t : Task) : Type 0 where
  pub atom : Atom
  pub occ : Occurrence
  pub living : atom_of s.store t.0 ≡ Some atom
  pub is : occurrence p atom.sym t.1 ≡ Some occ

-- Where a core stands at a schedule of a query: whether a kept answer serves is told by what its round keeps, and one that serves is what
-- the search of the next step finds.
pub record TellsLaw : Type 0 where
  pub needed : (p : Program) (r : Query) (n : ℕ) (t : Task) → needed_task p (after p (start r) n) ≡ Some t → HasOccurrence p (after p (start r) n) t
  pub of_rows :
      (p : Program) (rise : Rise) → IsRise p rise → (r : Query) (es : List Event) (c : Core) (t : Task) (n : ℕ) (k : Answered)
      → Stands p rise (start r) es c → c.row t ≡ Some n → slice_get c.answers n ≡ Some k
      → (h : HasOccurrence p (after p (start r) c.steps) t)
      → serves_at p (start r) (ats c.rounds) c.steps c.answers t n ≡ (sum_kept c.rounds k == sum_of (stamp p rise (start r) c.steps) (footprint_of (Some h.occ)))
  pub of_guests :
      (p : Program) (rise : Rise) → IsRise p rise → (r : Query) (es : List Event) (c : Core) (t : Task) (n : ℕ) (k : Answered)
      → Stands p rise (start r) es c → has_number (c.guests t) n ≡ true → slice_get c.answers n ≡ Some k
      → (h : HasOccurrence p (after p (start r) c.steps) t)
      → serves_at p (start r) (ats c.rounds) c.steps c.answers t n
      ≡ (same_goal (goal_kept c.rounds k) (Some (resolved_atom (after p (start r) c.steps).subst h.atom))
      && sum_kept c.rounds k + sum_of (marks_added h.atom.sym) (footprint_of (Some h.occ)) == sum_of (stamp p rise (start r) c.steps) (footprint_of (Some h.occ)))
  pub finds :
      (p : Program) (rise : Rise) (r : Query) (es : List Event) (c : Core) (t : Task) (n : ℕ) (k : Answered)
      → Stands p rise (start r) es c → HasOccurrence p (after p (start r) c.steps) t
      → slice_get c.answers n ≡ Some k → same_task t k.task ≡ true → serves_at p (start r) (ats c.rounds) c.steps c.answers t n ≡ true
      → (let s = after p (start r) c.steps in k.ids ≡ first p (rows s) s.history t.0 t.1)
