-- Whether an answer that was kept is still good: then its task is not searched for again.
use Rattle.std.specs.Prelude.{◌≡◌, ℕ, ◌+◌, Bool, true, false, cond, ◌&&◌, ◌==◌, List, Option, Some, None, slice_get}
use Rattle.std.specs.List.{list_all, list_any}
use Rattle.chr_semantics.specs.Program.{Atom, Occurrence, Program, Query, occurrence}
use Rattle.chr_semantics.specs.Schedule.{Event, Progress, is_served, progress, same_goal}
use Rattle.chr_semantics.specs.Stamps.{IsRise, Rise, stamp}
use Rattle.chr_semantics.specs.State.{State, start}
use Rattle.chr_semantics.specs.Step.{after}
use Rattle.chr_semantics.specs.Tasks.{Task, guest, same_task, tasks}
use Rattle.chr_semantics.specs.Touch.{footprint_at, footprint_of, touched}
use Rattle.chr_laws.specs.Kept.{passes}
use Rattle.chr_laws.specs.Stands.{Core, Stands, goal_kept, sum_kept}
use Rattle.chr_laws.specs.Sums.{guest_goal, marks_at, sum_of}

-- an answer to a guest's task of the state after k steps, where the guest still waits after n: it is the same one, under the same identity,
-- and nothing has touched the footprint since
abbrev pub is_good_guest : Program → State → ℕ → ℕ → Task → Bool
is_good_guest p q k n t =
    t.0 == (after p q k).next_id
    && (same_goal (guest_goal (after p q k)) (guest_goal (after p q n)) && list_all (λ x. touched p q k x == touched p q n x) (footprint_at p t.1 (guest (after p q n))))

abbrev pub is_good_task : Program → State → ℕ → ℕ → Task → Option Task → Bool
is_good_task p q k n t None = false
is_good_task p q k n t (Some u) = same_task t u && is_good_guest p q k n t

-- the answer of that index to that round, which was published after k steps, is
abbrev pub is_good_answer : Program → State → ℕ → Task → ℕ → Option ℕ → Bool
is_good_answer p q n t x None = false
is_good_answer p q n t x (Some k) = is_good_task p q k n t (slice_get (tasks p (after p q k)) x)

-- Whether a kept answer to a task is good: for a guest's it can't serve yet; for a stored constraint's it would serve a Step now.
abbrev pub is_good : Program → State → Progress → Task → Bool
is_good p q g t = cond (t.0 == (after p q g.steps).next_id) (list_any (λ (a : ℕ × ℕ). is_good_answer p q g.steps t a.1 (slice_get g.rounds a.0)) g.kept) (is_served p q g t)

-- by what a core keeps: the goal of the answer's round is that one, and the sum of its task this one
abbrev pub has_kept_good : Core → Option Atom → ℕ → ℕ → Bool
has_kept_good c goal sum n = passes (λ k. same_goal (goal_kept c.rounds k) goal && sum_kept c.rounds k == sum) (slice_get c.answers n)

-- An answer to a guest's task whose guest still waits is good exactly where the goal is the same, and the sum of the footprint. So, where a
-- core stands at a schedule, what it keeps tells whether a kept answer is good.
pub record GoodLaw : Type 0 where
  pub of_guests :
      (p : Program) (rise : Rise) → IsRise p rise → (r : Query) (k m : ℕ) (t : Task) (a : Atom) (o : Occurrence)
      → (let q = start r in (t.0 == (after p q k).next_id) ≡ true
      → guest (after p q (k + m)) ≡ Some a → occurrence p a.sym t.1 ≡ Some o
      → is_good_guest p q k (k + m) t
      ≡ (same_goal (guest_goal (after p q k)) (guest_goal (after p q (k + m)))
      && sum_of (stamp p rise q k) (marks_at p (after p q k) t) == sum_of (stamp p rise q (k + m)) (footprint_of (Some o))))
  pub kept :
      (p : Program) (rise : Rise) → IsRise p rise → (r : Query) (es : List Event) (c : Core) (t : Task) (a : Atom) (o : Occurrence)
      → Stands p rise (start r) es c → (let s = after p (start r) c.steps in (t.0 == s.next_id) ≡ true
      → guest s ≡ Some a → occurrence p a.sym t.1 ≡ Some o
      → is_good p (start r) (progress p (start r) es) t
      ≡ list_any (has_kept_good c (guest_goal s) (sum_of (stamp p rise (start r) c.steps) (footprint_of (Some o)))) (c.guests t))
