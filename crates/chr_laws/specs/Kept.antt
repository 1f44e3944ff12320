-- The kept answers of a run, and where those to a task stand among them.
use Rattle.std.specs.Prelude.{◌≡◌, ◌<◌, ℕ, Bool, true, false, cond, not, ◌&&◌, ◌==◌, nat_le, List, [], ◌∷◌, ◌++◌, map, length, Option, Some, None, slice_get, unwrap_or}
use Rattle.std.specs.List.{list_all, list_any}
use Rattle.chr_semantics.specs.Program.{Program}
use Rattle.chr_semantics.specs.Schedule.{Progress, is_served, serves}
use Rattle.chr_semantics.specs.Search.{has_number}
use Rattle.chr_semantics.specs.State.{State}
use Rattle.chr_semantics.specs.Step.{after}
use Rattle.chr_semantics.specs.Tasks.{Task, same_task, tasks}

-- a kept answer: the round of its task, the index there, the task, and the identities that were found
pub record Answered : Type 0 where
  pub round : ℕ
  pub index : ℕ
  pub task : Task
  pub ids : Option (List ℕ)

abbrev pub place_of : Answered → ℕ × ℕ
place_of k = (k.round, k.index)

-- the transitions before its round; the rounds have these
abbrev pub at_of : List ℕ → Answered → ℕ
at_of rounds k = unwrap_or (slice_get rounds k.round) 0

-- its constraint was the guest of its round
abbrev pub is_guests : Program → State → List ℕ → Answered → Bool
is_guests p q rounds k = k.task.0 == (after p q (at_of rounds k)).next_id

-- it is the answer to the task that stands there
abbrev pub IsPlaced : Program → State → List ℕ → Answered → Type 0
IsPlaced p q rounds k = (k.round < length rounds) × (slice_get (tasks p (after p q (at_of rounds k))) k.index ≡ Some k.task)

abbrev pub ArePlaced : Program → State → List ℕ → List Answered → Type 0
ArePlaced p q rounds [] = Unit {0}
ArePlaced p q rounds (k ∷ ks) = IsPlaced p q rounds k × ArePlaced p q rounds ks

-- the answer at a position passes the test
abbrev pub passes : (Answered → Bool) → Option Answered → Bool
passes test None = false
passes test (Some k) = test k

-- the answer at that position came from a round that is no older
abbrev pub is_newer : List ℕ → List Answered → ℕ → Option ℕ → Bool
is_newer rounds kept a None = false
is_newer rounds kept a (Some d) = passes (λ l. nat_le a (at_of rounds l)) (slice_get kept d)

-- For each task: the position of the answer from its newest round, among those to tasks of stored constraints, and the positions of the
-- answers to tasks of guests.
pub record AreSpots (p : Program) (q : State) (rounds : List ℕ) (kept : List Answered) (row : Task → Option ℕ) (guests : Task → List ℕ) : Type 0 where
  pub row_is : (t : Task) (c : ℕ) → row t ≡ Some c → passes (λ k. same_task t k.task && not (is_guests p q rounds k)) (slice_get kept c) ≡ true
  pub guests_are : (t : Task) → list_all (λ c. passes (λ k. same_task t k.task && is_guests p q rounds k) (slice_get kept c)) (guests t) ≡ true
  pub all_rows : (c : ℕ) (k : Answered) → slice_get kept c ≡ Some k → is_guests p q rounds k ≡ false → is_newer rounds kept (at_of rounds k) (row k.task) ≡ true
  pub all_guests : (c : ℕ) (k : Answered) → slice_get kept c ≡ Some k → is_guests p q rounds k ≡ true → has_number (guests k.task) c ≡ true

-- each round comes after at most n transitions
abbrev pub ArePast : ℕ → List ℕ → Type 0
ArePast n rounds = list_all (λ a. nat_le a n) rounds ≡ true

-- whether the answer at a position serves the task
abbrev pub serves_at : Program → State → List ℕ → ℕ → List Answered → Task → ℕ → Bool
serves_at p q rounds n kept t c = passes (λ k. serves p q (at_of rounds k) n t) (slice_get kept c)

-- Where the kept answers of a progress are these: one that is to the task and serves makes it served; and it is not served where neither
-- the newest one to a stored constraint's task does, nor any to a guest's.
pub record ServedLaw : Type 0 where
  pub served :
      (p : Program) (q : State) (g : Progress) (kept : List Answered) (t : Task) (c : ℕ) (k : Answered)
      → map place_of kept ≡ g.kept → ArePlaced p q g.rounds kept → slice_get kept c ≡ Some k → same_task t k.task ≡ true → serves p q (at_of g.rounds k) g.steps t ≡ true
      → is_served p q g t ≡ true
  pub not_served :
      (p : Program) (q : State) (g : Progress) (kept : List Answered) (row : Task → Option ℕ) (guests : Task → List ℕ) (t : Task)
      → map place_of kept ≡ g.kept → ArePlaced p q g.rounds kept → ArePast g.steps g.rounds → AreSpots p q g.rounds kept row guests
      → ((c : ℕ) → row t ≡ Some c → serves_at p q g.rounds g.steps kept t c ≡ false)
      → list_any (serves_at p q g.rounds g.steps kept t) (guests t) ≡ false
      → is_served p q g t ≡ false

-- how an answer at the position d, if any, gives way to one of a round after a transitions, at the position c
abbrev pub newest : List ℕ → List Answered → ℕ → ℕ → Option ℕ → Option ℕ
newest rounds kept a c None = Some c
newest rounds kept a c (Some d) = cond (passes (λ l. nat_le (at_of rounds l) a) (slice_get kept d)) (Some c) (Some d)

-- The spots after one more answer, and after one more round.
pub record SpotsLaw : Type 0 where
  pub none : (p : Program) (q : State) → AreSpots p q [] [] (λ t. None) (λ t. [])
  pub one_more :
      (p : Program) (q : State) (rounds : List ℕ) (kept : List Answered) (row new_row : Task → Option ℕ) (guests new_guests : Task → List ℕ) (k : Answered)
      → AreSpots p q rounds kept row guests
      → ((t : Task) → new_row t ≡ cond (same_task t k.task && not (is_guests p q rounds k)) (newest rounds kept (at_of rounds k) (length kept) (row t)) (row t))
      → ((t : Task) → new_guests t ≡ cond (same_task t k.task && is_guests p q rounds k) (guests t ++ length kept ∷ []) (guests t))
      → AreSpots p q rounds (kept ++ k ∷ []) new_row new_guests
  pub later :
      (p : Program) (q : State) (rounds : List ℕ) (kept : List Answered) (row : Task → Option ℕ) (guests : Task → List ℕ) (a : ℕ)
      → ArePlaced p q rounds kept → AreSpots p q rounds kept row guests → AreSpots p q (rounds ++ a ∷ []) kept row guests
  pub placed_more : (p : Program) (q : State) (rounds : List ℕ) (kept : List Answered) (a : ℕ) → ArePlaced p q rounds kept → ArePlaced p q (rounds ++ a ∷ []) kept
