-- What a core keeps tells whether a kept answer is good.
use Rattle.std.proofs.Common.{◌≡◌, ◌∙◌, ◌+◌, ◌==◌, ◌&&◌, Bool, List, None, Option, Some, [], ap, arith, false, map, refl, subst, sym, true, true≢false, ℕ}
use Rattle.std.specs.List.{list_any}
use Rattle.std.specs.Prelude.{IfNone, IfSome, cond, is_some, option_and_then, option_map, slice_get}
use Rattle.chr_semantics.specs.Calls.{rise_by_calls}
use Rattle.chr_semantics.specs.Names.{Names}
use Rattle.chr_semantics.specs.Program.{Atom, Occurrence, Program, Query, occurrence}
use Rattle.chr_semantics.specs.Schedule.{Event, Progress, is_served, progress, same_goal}
use Rattle.chr_semantics.specs.Search.{atom_of, has_number}
use Rattle.chr_semantics.specs.Stamps.{stamp}
use Rattle.chr_semantics.specs.State.{State, resolved_atom, start}
use Rattle.chr_semantics.specs.Step.{after}
use Rattle.chr_semantics.specs.Tasks.{Task, guest}
use Rattle.chr_semantics.specs.Touch.{footprint_at, footprint_of}
use Rattle.chr_semantics.proofs.CallsLaw.{calls_law}
use Rattle.chr_laws.specs.Good.{has_kept_good, is_good, is_good_answer}
use Rattle.chr_laws.specs.Kept.{passes}
use Rattle.chr_laws.specs.Stands.{Core, HasOccurrence, Stands, goal_kept, sum_kept}
use Rattle.chr_laws.specs.Sums.{guest_goal, sum_of}
use Rattle.chr_laws.proofs.GoodLaw.{good_law}
use Rattle.chr_laws.proofs.Places.{none_of}
use Rattle.chr_machine.specs.Model.{Model, state_in}
use Rattle.chr_core.specs.IsAt.{IsAt}
use Rattle.chr_core.specs.Marks.{mark_stamp}
use Rattle.chr_core.specs.Serving.{GuestPasses, IsWaiting, NoneServes, ServesAt, guest_passes, task_occurrence}
use Rattle.chr_core.proofs.Serves.{served_is}

-- of a task of the store that has an occurrence
pub stored_occurrence : (p : Program) (s : State) (t : Task) → (t.0 == s.next_id) ≡ false → is_some (task_occurrence p s t) ≡ true → HasOccurrence p s t
stored_occurrence p s t stored is = by (atom_of s.store t.0) refl (rw stored at is)
  where
    with : (a : Atom) (o : Option Occurrence) → atom_of s.store t.0 ≡ Some a → occurrence p a.sym t.1 ≡ o → is_some o ≡ true → HasOccurrence p s t
    with a None there its is = absurd (true≢false (sym is))
    with a (Some o) there its is = record { atom = a; occ = o; living = there; is = its }

    by : (x : Option Atom) → atom_of s.store t.0 ≡ x → is_some (option_and_then (λ (a : Atom). occurrence p a.sym t.1) x) ≡ true → HasOccurrence p s t
    by None there is = absurd (true≢false (sym is))
    by (Some a) there is = with a (occurrence p a.sym t.1) there refl is

-- a guest waits, and has that occurrence
pub record HasGuest (p : Program) (s : State) (t : Task) : Type 0 where
  pub atom : Atom
  pub occ : Occurrence
  pub waits : guest s ≡ Some atom
  pub is : occurrence p atom.sym t.1 ≡ Some occ

-- of the guest's task that has an occurrence
pub guest_occurrence : (p : Program) (s : State) (t : Task) → (t.0 == s.next_id) ≡ true → is_some (task_occurrence p s t) ≡ true → HasGuest p s t
guest_occurrence p s t next is = by (guest s) refl (rw next at is)
  where
    with : (a : Atom) (o : Option Occurrence) → guest s ≡ Some a → occurrence p a.sym t.1 ≡ o → is_some o ≡ true → HasGuest p s t
    with a None there its is = absurd (true≢false (sym is))
    with a (Some o) there its is = record { atom = a; occ = o; waits = there; is = its }

    by : (x : Option Atom) → guest s ≡ x → is_some (option_and_then (λ (a : Atom). occurrence p a.sym t.1) x) ≡ true → HasGuest p s t
    by None there is = absurd (true≢false (sym is))
    by (Some a) there is = with a (occurrence p a.sym t.1) there refl is

-- the constraint that asks has that occurrence
pub its_occurrence : (p : Program) (s : State) (t : Task) (w : HasGuest p s t) (a : Atom) → guest s ≡ Some a → occurrence p a.sym t.1 ≡ Some w.occ
its_occurrence p s t w a waits = let e : Some w.atom ≡ Some a = sym w.waits ∙ waits in let same : w.atom ≡ a = cc in ap (λ (b : Atom). occurrence p b.sym t.1) (sym same) ∙ w.is

-- for a stored constraint a kept answer is good where one serves
good_where_served : (p : Program) (q : State) (g : Progress) (t : Task) → (t.0 == (after p q g.steps).next_id) ≡ false → is_good p q g t ≡ is_served p q g t
good_where_served p q g t stored = ap (λ (b : Bool). cond b (list_any (λ (a : ℕ × ℕ). is_good_answer p q g.steps t a.1 (slice_get g.rounds a.0)) g.kept) (is_served p q g t)) stored

-- where one of the list passes, one passes
one_passes : (f : ℕ → Bool) (xs : List ℕ) (n : ℕ) → has_number xs n ≡ true → f n ≡ true → list_any f xs ≡ true
one_passes f xs n member is = by (list_any f xs) refl
  where
    by : (b : Bool) → list_any f xs ≡ b → b ≡ true
    by true e = refl
    by false e = absurd (true≢false (sym is ∙ none_of f xs n e member))

any_same : (f g : ℕ → Bool) (xs : List ℕ) → ((n : ℕ) → f n ≡ g n) → list_any f xs ≡ list_any g xs
any_same f g xs same = λ k. list_any (λ n. same n k) xs

module _ (names : Names) (p : Program) (r : Query) (m : Model) (at : IsAt names p r m) (es : List Event) (c : Core) (stands : Stands p (rise_by_calls p) (start r) es c) (steps_are : c.steps ≡ m.steps) (t : Task) where
  state_is : state_in m ≡ after p (start r) c.steps
  state_is = at.run.state_is ∙ ap (after p (start r)) (sym steps_are)

  progress_is : state_in m ≡ after p (start r) (progress p (start r) es).steps
  progress_is = state_is ∙ ap (after p (start r)) (sym stands.steps_are)

  -- of a constraint of the store
  pub good_stored : (t.0 == (state_in m).next_id) ≡ false
      → (x : Option ℕ) → IfSome x (λ n. ServesAt p (start r) c t n) → IfNone x (NoneServes p (start r) c t) → is_some x ≡ is_good p (start r) (progress p (start r) es) t
  good_stored stored x some none =
      served_is p r es c stands t x some none
      ∙ sym (good_where_served p (start r) (progress p (start r) es) t (ap (λ (s : State). t.0 == s.next_id) (sym progress_is) ∙ stored))

  -- of the guest
  module _ (next : (t.0 == (state_in m).next_id) ≡ true) (a : Atom) (o : Occurrence) (waits : guest (state_in m) ≡ Some a) (is : occurrence p a.sym t.1 ≡ Some o) where
    abbrev goal_now : Atom
    goal_now = resolved_atom m.base.subst a

    abbrev sum_now : ℕ
    sum_now = sum_of (stamp p (rise_by_calls p) (start r) c.steps) (footprint_of (Some o))

    goal_is : guest_goal (after p (start r) c.steps) ≡ Some goal_now
    goal_is = ap guest_goal (sym state_is) ∙ ap (option_map (resolved_atom m.base.subst)) waits

    kept_good : is_good p (start r) (progress p (start r) es) t ≡ list_any (has_kept_good c (Some goal_now) sum_now) (c.guests t)
    kept_good =
        good_law.kept p (rise_by_calls p) (calls_law.rise p) r es c t a o stands
        (ap (λ (s : State). t.0 == s.next_id) (sym state_is) ∙ next) (ap guest (sym state_is) ∙ waits) is
        ∙ ap (λ (g : Option Atom). list_any (has_kept_good c g sum_now) (c.guests t)) goal_is

    module _ (touches own : ℕ) (waiting : IsWaiting m t.1 a touches own) where
      marks_are : footprint_at m.rules t.1 (Some a) ≡ footprint_of (Some o)
      marks_are = (λ k. footprint_at (at.run.same.rules k) t.1 (Some a)) ∙ ap footprint_of is

      touches_are : touches ≡ sum_now
      touches_are = waiting.touches_are ∙ ap (sum_of (mark_stamp m.base.store m.base.entries)) marks_are
          ∙ (λ k. sum_of (λ x. at.stamps_are x k) (footprint_of (Some o)))
          ∙ ap (λ (n : ℕ). sum_of (stamp p (rise_by_calls p) (start r) n) (footprint_of (Some o))) (sym steps_are)

      same_sum : (n : ℕ) → (n + own == touches) ≡ (n == sum_now)
      same_sum n = (let e : n + own ≡ n = (let z = waiting.own_are in omega (arith, z)) in λ k. e k == touches_are k)

      passes_same : (n : ℕ) → guest_passes c goal_now own touches n ≡ has_kept_good c (Some goal_now) sum_now n
      passes_same n = λ k. passes (λ z. same_goal (goal_kept c.rounds z) (Some goal_now) && same_sum (sum_kept c.rounds z) k) (slice_get c.answers n)

      pub good_guest : (x : Option ℕ) → IfSome x (λ n. GuestPasses c (c.guests t) goal_now own touches n) → IfNone x (list_any (guest_passes c goal_now own touches) (c.guests t) ≡ false)
          → is_some x ≡ is_good p (start r) (progress p (start r) es) t
      good_guest None some none = sym (kept_good ∙ sym (any_same _ _ (c.guests t) passes_same) ∙ none)
      good_guest (Some n) some none = sym (kept_good ∙ sym (any_same _ _ (c.guests t) passes_same) ∙ one_passes (guest_passes c goal_now own touches) (c.guests t) n some.member some.passing)

  -- of no answer to the task
  pub good_none : c.row t ≡ None → c.guests t ≡ [] → (is_some (task_occurrence p (state_in m) t) && is_good p (start r) (progress p (start r) es) t) ≡ false
  good_none row guests = by (is_some (task_occurrence p (state_in m) t)) (t.0 == (state_in m).next_id) refl refl
    where
      none : NoneServes p (start r) c t
      none = record {
        row = λ n is. let e : None ≡ Some n = sym row ∙ is in cc;
        guests = rw guests refl;
      }

      by : (b next : Bool) → is_some (task_occurrence p (state_in m) t) ≡ b → (t.0 == (state_in m).next_id) ≡ next → (b && is_good p (start r) (progress p (start r) es) t) ≡ false
      by false next is at_next = refl
      by true false is at_next = sym (good_stored at_next None tt none)
      by true true is at_next = let w = guest_occurrence p (state_in m) t at_next is in kept_good at_next w.atom w.occ w.waits w.is ∙ rw guests refl
