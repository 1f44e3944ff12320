-- What is kept of the rounds and of the answers of a schedule, and that it agrees with the schedule's progress.
use Rattle.std.specs.Prelude.{◌≡◌, ◌≤◌, ℕ, Bool, false, true, cond, not, ◌&&◌, List, [], ◌∷◌, ◌++◌, map, length, replicate, Option, Some, None, slice_get, unwrap_or}
use Rattle.std.specs.List.{list_any}
use Rattle.chr_semantics.specs.Footprint.{answer}
use Rattle.chr_semantics.specs.Program.{Atom, Program}
use Rattle.chr_semantics.specs.Schedule.{Progress, kept, next, no_progress, publish, with_took}
use Rattle.chr_semantics.specs.Stamps.{Rise, stamp}
use Rattle.chr_semantics.specs.State.{State}
use Rattle.chr_semantics.specs.Step.{after}
use Rattle.chr_semantics.specs.Tasks.{Task, same_task, tasks}
use Rattle.chr_laws.specs.Kept.{Answered, ArePast, ArePlaced, AreSpots, IsPlaced, at_of, is_guests, newest, place_of}
use Rattle.chr_laws.specs.Sums.{guest_goal, marks_at, sum_of}

-- A round: the transitions before it, the next identity there, the goal of its guest with the bindings applied, for each of its tasks the
-- stamps of the footprint added up, and whether the answer to it was kept.
pub record Round : Type 0 where
  pub at : ℕ
  pub next : ℕ
  pub guest : Option Atom
  pub sums : List ℕ
  pub flags : List Bool

abbrev pub ats : List Round → List ℕ
ats rounds = map (λ (d : Round). d.at) rounds

-- the sum of a task
abbrev pub task_sum : Program → Rise → State → ℕ → Task → ℕ
task_sum p rise q n t = sum_of (stamp p rise q n) (marks_at p (after p q n) t)

-- it is of the state after its transitions
pub record IsRound (p : Program) (rise : Rise) (q : State) (d : Round) : Type 0 where
  pub next_is : d.next ≡ (after p q d.at).next_id
  pub guest_is : d.guest ≡ guest_goal (after p q d.at)
  pub sums_are : d.sums ≡ map (task_sum p rise q d.at) (tasks p (after p q d.at))
  pub flags_are : length d.flags ≡ length (tasks p (after p q d.at))

abbrev pub AreRounds : Program → Rise → State → List Round → Type 0
AreRounds p rise q [] = Unit {0}
AreRounds p rise q (d ∷ ds) = IsRound p rise q d × AreRounds p rise q ds

-- whether the answer to a task of a round was kept
abbrev pub flag_in : ℕ → Option Round → Bool
flag_in x None = false
flag_in x (Some d) = unwrap_or (slice_get d.flags x) false

abbrev pub flag_at : List Round → ℕ → ℕ → Bool
flag_at rounds i x = flag_in x (slice_get rounds i)

-- each kept answer is what its task finds where its round was published
abbrev pub AreAnswers : Program → State → List ℕ → List Answered → Type 0
AreAnswers p q rounds [] = Unit {0}
AreAnswers p q rounds (k ∷ ks) = (k.ids ≡ answer p (after p q (at_of rounds k)) k.task) × AreAnswers p q rounds ks

-- rounds, kept answers and their spots agree with a progress
pub record Holds (p : Program) (rise : Rise) (q : State) (g : Progress) (rounds : List Round) (answers : List Answered) (row : Task → Option ℕ) (guests : Task → List ℕ) : Type 0 where
  pub ats_are : ats rounds ≡ g.rounds
  pub are_rounds : AreRounds p rise q rounds
  pub past : ArePast g.steps (ats rounds)
  pub kept_are : map place_of answers ≡ g.kept
  pub placed : ArePlaced p q (ats rounds) answers
  pub are_answers : AreAnswers p q (ats rounds) answers
  pub spots : AreSpots p q (ats rounds) answers row guests
  pub flagged : (i x : ℕ) → flag_at rounds i x ≡ list_any (same_task (i, x)) g.kept

-- They go on to agree.
pub record HoldsLaw : Type 0 where
  pub at_start : (p : Program) (rise : Rise) (q : State) → Holds p rise q no_progress [] [] (λ t. None) (λ t. [])
  -- where no round and no answer comes
  pub as_ever :
      (p : Program) (rise : Rise) (q : State) (g h : Progress) (rounds : List Round) (answers : List Answered) (row : Task → Option ℕ) (guests : Task → List ℕ)
      → Holds p rise q g rounds answers row guests → h.rounds ≡ g.rounds → h.kept ≡ g.kept → g.steps ≤ h.steps → Holds p rise q h rounds answers row guests
  -- with one round more, of which no answer was kept
  pub publishes :
      (p : Program) (rise : Rise) (q : State) (g : Progress) (rounds : List Round) (answers : List Answered) (row : Task → Option ℕ) (guests : Task → List ℕ) (d : Round)
      → Holds p rise q g rounds answers row guests → IsRound p rise q d → d.at ≡ g.steps → d.flags ≡ replicate (length d.flags) false
      → Holds p rise q (next p q g publish) (rounds ++ d ∷ []) answers row guests
  -- with one answer more
  pub keeps :
      (p : Program) (rise : Rise) (q : State) (g : Progress) (rounds new_rounds : List Round) (answers : List Answered) (row new_row : Task → Option ℕ) (guests new_guests : Task → List ℕ) (k : Answered)
      → Holds p rise q g rounds answers row guests
      → IsPlaced p q (ats rounds) k → k.ids ≡ answer p (after p q (at_of (ats rounds) k)) k.task
      → ats new_rounds ≡ ats rounds → AreRounds p rise q new_rounds
      → ((i x : ℕ) → flag_at new_rounds i x ≡ cond (same_task (i, x) (place_of k)) true (flag_at rounds i x))
      → ((t : Task) → new_row t ≡ cond (same_task t k.task && not (is_guests p q (ats rounds) k)) (newest (ats rounds) answers (at_of (ats rounds) k) (length answers) (row t)) (row t))
      → ((t : Task) → new_guests t ≡ cond (same_task t k.task && is_guests p q (ats rounds) k) (guests t ++ length answers ∷ []) (guests t))
      → Holds p rise q (with_took g k.index (kept k.round)) new_rounds (answers ++ k ∷ []) new_row new_guests
