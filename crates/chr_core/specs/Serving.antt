-- Whether a kept answer serves a search, or is still good.
use Rattle.std.specs.Prelude.{◌≡◌, ◌+◌, ◌==◌, ◌&&◌, ℕ, Bool, false, true, List, Option, Some, option_and_then, slice_get}
use Rattle.std.specs.List.{list_any}
use Rattle.chr_semantics.specs.Footprint.{marks_added}
use Rattle.chr_semantics.specs.Program.{Atom, Occurrence, Program, occurrence}
use Rattle.chr_semantics.specs.Schedule.{Progress, is_served, same_goal}
use Rattle.chr_semantics.specs.Search.{atom_of, has_number}
use Rattle.chr_semantics.specs.State.{State}
use Rattle.chr_semantics.specs.Tasks.{Task, guest, same_task}
use Rattle.chr_semantics.specs.Touch.{footprint_at}
use Rattle.chr_laws.specs.Kept.{Answered, passes, serves_at}
use Rattle.chr_laws.specs.Rounds.{ats}
use Rattle.chr_laws.specs.Stands.{Core, goal_kept, sum_kept}
use Rattle.chr_laws.specs.Sums.{sum_of, task_atom}
use Rattle.chr_machine.specs.Model.{Model, state_in}
use Rattle.chr_machine.specs.NeedView.{Needed, ended, plain, search_of}
use Rattle.chr_core.specs.Marks.{mark_stamp}

-- the answer at a position is to the task, and serves it
pub record ServesAt (p : Program) (q : State) (c : Core) (t : Task) (n : ℕ) : Type 0 where
  pub answer : Answered
  pub there : slice_get c.answers n ≡ Some answer
  pub its : same_task t answer.task ≡ true
  pub serves : serves_at p q (ats c.rounds) c.steps c.answers t n ≡ true

-- neither the newest answer to a stored constraint's task does, nor any to a guest's
pub record NoneServes (p : Program) (q : State) (c : Core) (t : Task) : Type 0 where
  pub row : (n : ℕ) → c.row t ≡ Some n → serves_at p q (ats c.rounds) c.steps c.answers t n ≡ false
  pub guests : list_any (serves_at p q (ats c.rounds) c.steps c.answers t) (c.guests t) ≡ false

-- by what a core keeps, where the footprint was touched so often: of an answer to a stored constraint's task
abbrev pub row_passes : Core → ℕ → ℕ → Bool
row_passes c touches n = passes (λ k. sum_kept c.rounds k == touches) (slice_get c.answers n)

-- and of one to a guest's, where the Activate of the constraint added so much
abbrev pub guest_passes : Core → Atom → ℕ → ℕ → ℕ → Bool
guest_passes c a own touches n = passes (λ k. same_goal (goal_kept c.rounds k) (Some a) && sum_kept c.rounds k + own == touches) (slice_get c.answers n)

-- it is one of these
pub record GuestPasses (c : Core) (positions : List ℕ) (a : Atom) (own touches n : ℕ) : Type 0 where
  pub member : has_number positions n ≡ true
  pub passing : guest_passes c a own touches n ≡ true

-- what a task of the store asks for: its constraint, how often its footprint was touched, and how much of that the Activate adds
pub record IsAsked (m : Model) (t : Task) (a : Atom) (touches own : ℕ) : Type 0 where
  pub living : atom_of m.base.store.rows t.0 ≡ Some a
  pub touches_are : touches ≡ sum_of (mark_stamp m.base.store m.base.entries) (footprint_at m.rules t.1 (Some a))
  pub own_are : own ≡ sum_of (marks_added a.sym) (footprint_at m.rules t.1 (Some a))

-- what the guest's task at an occurrence asks for while it waits: its Activate has added nothing yet
pub record IsWaiting (m : Model) (number : ℕ) (a : Atom) (touches own : ℕ) : Type 0 where
  pub waits : guest (state_in m) ≡ Some a
  pub touches_are : touches ≡ sum_of (mark_stamp m.base.store m.base.entries) (footprint_at m.rules number (Some a))
  pub own_are : own ≡ 0

-- the occurrence of a task, by its constraint, which for the next identity is the guest
abbrev pub task_occurrence : Program → State → Task → Option Occurrence
task_occurrence p s t = option_and_then (λ (a : Atom). occurrence p a.sym t.1) (task_atom s t)

-- whether a kept answer serves what the next step needs
abbrev pub served_by : Program → State → Progress → Needed → Bool
served_by p q g (search_of t) = is_served p q g t
served_by p q g plain = false
served_by p q g ended = false
