-- What a round keeps of each of its tasks: the stamps of the task's footprint, added up.
use Rattle.std.specs.Prelude.{◌≡◌, ℕ, ◌+◌, true, false, cond, ◌&&◌, ◌||◌, ◌==◌, List, [], ◌∷◌, Option, Some, slice_get, option_map}
use Rattle.chr_semantics.specs.Footprint.{marks_added}
use Rattle.chr_semantics.specs.Program.{Atom, Occurrence, Program, Query, occurrence}
use Rattle.chr_semantics.specs.Schedule.{same_goal, serves}
use Rattle.chr_semantics.specs.Search.{atom_of}
use Rattle.chr_semantics.specs.Stamps.{IsRise, Rise, stamp}
use Rattle.chr_semantics.specs.State.{State, resolved_atom, start}
use Rattle.chr_semantics.specs.Step.{after}
use Rattle.chr_semantics.specs.Tasks.{Task, guest, lives, tasks}
use Rattle.chr_semantics.specs.Touch.{Mark, footprint_at, footprint_of}

abbrev pub sum_of : (Mark → ℕ) → List Mark → ℕ
sum_of f [] = 0
sum_of f (x ∷ xs) = f x + sum_of f xs

-- the constraint of a task: for the next identity it is the guest
abbrev pub task_atom : State → Task → Option Atom
task_atom s t = cond (t.0 == s.next_id) (guest s) (atom_of s.store t.0)

-- what the task can depend on, as it stands where it is published
abbrev pub marks_at : Program → State → Task → List Mark
marks_at p s t = footprint_at p t.1 (task_atom s t)

-- the goal of the guest, with the bindings applied
abbrev pub guest_goal : State → Option Atom
guest_goal s = option_map (resolved_atom s.subst) (guest s)

abbrev pub LivingLaw : Type 0
LivingLaw = (p : Program) (s : State) (x : ℕ) (t : Task) → slice_get (tasks p s) x ≡ Some t → (lives s t.0 || t.0 == s.next_id) ≡ true

-- In a query's run, for a task of the state after k transitions whose constraint lives m transitions later and has that occurrence: an
-- answer to the task of a stored constraint serves exactly where the sum is the same as before; one to a guest's task, where the goal is
-- the same and the sum has risen by one for each head of the constraint's symbol.
pub record SumsLaw : Type 0 where
  pub of_rows :
      (p : Program) (rise : Rise) → IsRise p rise → (r : Query) (k m x : ℕ) (t : Task) (a : Atom) (o : Occurrence)
      → (let q = start r in slice_get (tasks p (after p q k)) x ≡ Some t → (t.0 == (after p q k).next_id) ≡ false
      → atom_of (after p q (k + m)).store t.0 ≡ Some a → occurrence p a.sym t.1 ≡ Some o
      → serves p q k (k + m) t ≡ (sum_of (stamp p rise q k) (marks_at p (after p q k) t) == sum_of (stamp p rise q (k + m)) (footprint_of (Some o))))
  pub of_guests :
      (p : Program) (rise : Rise) → IsRise p rise → (r : Query) (k m : ℕ) (t : Task) (a : Atom) (o : Occurrence)
      → (let q = start r in (t.0 == (after p q k).next_id) ≡ true
      → atom_of (after p q (k + m)).store t.0 ≡ Some a → occurrence p a.sym t.1 ≡ Some o
      → serves p q k (k + m) t ≡ (same_goal (guest_goal (after p q k)) (Some (resolved_atom (after p q (k + m)).subst a))
      && sum_of (stamp p rise q k) (marks_at p (after p q k) t) + sum_of (marks_added a.sym) (footprint_of (Some o)) == sum_of (stamp p rise q (k + m)) (footprint_of (Some o))))

-- an answer to a task of a stored constraint serves where an older one does
abbrev pub NewestLaw : Type 0
NewestLaw =
    (p : Program) (q : State) (k l m : ℕ) (t : Task)
    → (t.0 == (after p q k).next_id) ≡ false → (t.0 == (after p q (k + l)).next_id) ≡ false
    → serves p q k (k + l + m) t ≡ true → serves p q (k + l) (k + l + m) t ≡ true
