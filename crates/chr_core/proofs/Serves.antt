-- What a core keeps tells whether an answer serves.
use Rattle.std.proofs.Common.{◌≡◌, ◌∙◌, ◌+◌, ◌==◌, ◌&&◌, ◌||◌, Bool, List, None, Option, Some, [], ◌∷◌, ap, false, refl, subst, sym, true, ℕ}
use Rattle.std.proofs.lemmas.Bool.{and_parts, eq-eqb}
use Rattle.std.specs.List.{list_any}
use Rattle.std.specs.Prelude.{IfNone, IfSome, is_some, length, not, slice_get}
use Rattle.chr_semantics.specs.Calls.{rise_by_calls}
use Rattle.chr_semantics.specs.Footprint.{marks_added}
use Rattle.chr_semantics.specs.Names.{Names}
use Rattle.chr_semantics.specs.Program.{Atom, Occurrence, Program, Query, occurrence}
use Rattle.chr_semantics.specs.Schedule.{Event, is_served, progress, same_goal}
use Rattle.chr_semantics.specs.Search.{atom_of, first, has_number}
use Rattle.chr_semantics.specs.Stamps.{stamp}
use Rattle.chr_semantics.specs.State.{State, resolved_atom, rows, start}
use Rattle.chr_semantics.specs.Step.{after}
use Rattle.chr_semantics.specs.Tasks.{Task, needed_task, same_task}
use Rattle.chr_semantics.specs.Touch.{footprint_at, footprint_of}
use Rattle.chr_semantics.proofs.CallsLaw.{calls_law}
use Rattle.chr_laws.specs.Kept.{Answered, is_guests, passes, serves_at}
use Rattle.chr_laws.specs.Rounds.{ats}
use Rattle.chr_laws.specs.Stands.{Core, HasOccurrence, Stands, goal_kept, sum_kept}
use Rattle.chr_laws.specs.Sums.{sum_of}
use Rattle.chr_laws.proofs.Places.{passing}
use Rattle.chr_laws.proofs.Stands.{is_own, is_used}
use Rattle.chr_laws.proofs.Tells.{guest_at, row_at, tells_law}
use Rattle.chr_machine.specs.Model.{Model, state_in}
use Rattle.chr_machine.specs.NeedView.{Answers, need, search_of}
use Rattle.chr_core.specs.IsAt.{IsAt}
use Rattle.chr_core.specs.Marks.{mark_stamp}
use Rattle.chr_core.specs.Serving.{GuestPasses, IsAsked, NoneServes, ServesAt, guest_passes, row_passes}
use Rattle.chr_core.proofs.Needs.{need_search}

-- a list where none passes, by another test for its members
none_pass : (f g : ℕ → Bool) (xs : List ℕ) → ((n : ℕ) → has_number xs n ≡ true → f n ≡ g n) → list_any f xs ≡ list_any g xs
none_pass f g [] h = refl
none_pass f g (x ∷ xs) h = λ k. (h x (here x xs) k || none_pass f g xs (λ n e. h n (there x xs n e)) k)
  where
    here : (y : ℕ) (ys : List ℕ) → has_number (y ∷ ys) y ≡ true
    here y ys = rw (eq-eqb y y refl) refl

    there : (y : ℕ) (ys : List ℕ) (n : ℕ) → has_number ys n ≡ true → has_number (y ∷ ys) n ≡ true
    there y ys n e = at (n == y)
      where
        at : (b : Bool) → (b || has_number ys n) ≡ true
        at true = refl
        at false = e

-- the search that the next step needs is of a constraint that lives, with that occurrence
pub needed_occurrence : (names : Names) (p : Program) (r : Query) (m : Model) → IsAt names p r m → (t : Task) → need m ≡ search_of t → HasOccurrence p (state_in m) t
needed_occurrence names p r m at t needs =
    subst (λ (s : State). HasOccurrence p s t) (sym at.run.state_is) (tells_law.needed p r m.steps t (
    sym (λ k. needed_task (at.run.same.rules k) (at.run.state_is k)) ∙ (need_search (needed_task m.rules (state_in m)) m.status t needs).0
    ))

-- whether one was found tells whether the step is served
pub served_is : (p : Program) (r : Query) (es : List Event) (c : Core) → Stands p (rise_by_calls p) (start r) es c → (t : Task) (x : Option ℕ)
    → IfSome x (λ n. ServesAt p (start r) c t n) → IfNone x (NoneServes p (start r) c t) → is_some x ≡ is_served p (start r) (progress p (start r) es) t
served_is p r es c stands t None some none = sym (is_own p (rise_by_calls p) (start r) (progress p (start r) es) (length es) c stands t none.row none.guests)
served_is p r es c stands t (Some n) some none = sym (is_used p (rise_by_calls p) (start r) (progress p (start r) es) (length es) c stands t n some.answer some.there some.its some.serves)

module _ (names : Names) (p : Program) (r : Query) (m : Model) (at : IsAt names p r m) (es : List Event) (c : Core) (stands : Stands p (rise_by_calls p) (start r) es c) (steps_are : c.steps ≡ m.steps)
    (t : Task) (has : HasOccurrence p (state_in m) t) where
  state_is : state_in m ≡ after p (start r) c.steps
  state_is = at.run.state_is ∙ ap (after p (start r)) (sym steps_are)

  rules_are : m.rules ≡ p
  rules_are = at.run.same.rules

  pub occ : HasOccurrence p (after p (start r) c.steps) t
  occ = subst (λ (s : State). HasOccurrence p s t) state_is has

  -- the constraint of the task is in the store
  pub atom_there : atom_of m.base.store.rows t.0 ≡ Some occ.atom
  atom_there = ap (λ (s : State). atom_of s.store t.0) state_is ∙ occ.living

  module _ (a : Atom) (touches own : ℕ) (asked : IsAsked m t a touches own) where
    same_atom : occ.atom ≡ a
    same_atom = let e : Some occ.atom ≡ Some a = sym atom_there ∙ asked.living in cc

    marks_are : footprint_at m.rules t.1 (Some a) ≡ footprint_of (Some occ.occ)
    marks_are = sym (λ k. footprint_at (sym rules_are k) t.1 (Some (same_atom k))) ∙ ap footprint_of occ.is

    touches_are : touches ≡ sum_of (stamp p (rise_by_calls p) (start r) c.steps) (footprint_of (Some occ.occ))
    touches_are = asked.touches_are ∙ ap (sum_of (mark_stamp m.base.store m.base.entries)) marks_are
        ∙ (λ k. sum_of (λ x. at.stamps_are x k) (footprint_of (Some occ.occ)))
        ∙ ap (λ (n : ℕ). sum_of (stamp p (rise_by_calls p) (start r) n) (footprint_of (Some occ.occ))) (sym steps_are)

    own_are : own ≡ sum_of (marks_added occ.atom.sym) (footprint_of (Some occ.occ))
    own_are = asked.own_are ∙ ap (sum_of (marks_added a.sym)) marks_are ∙ ap (λ (b : Atom). sum_of (marks_added b.sym) (footprint_of (Some occ.occ))) (sym same_atom)

    goal_is : resolved_atom m.base.subst a ≡ resolved_atom (after p (start r) c.steps).subst occ.atom
    goal_is = λ k. resolved_atom (state_is k).subst (sym same_atom k)

    row_by : (n : ℕ) (x : Option Answered) → slice_get c.answers n ≡ x → c.row t ≡ Some n
        → passes (λ (l : Answered). sum_kept c.rounds l == touches) x ≡ serves_at p (start r) (ats c.rounds) c.steps c.answers t n
    row_by n None e is = sym (ap (passes _) e)
    row_by n (Some k) e is =
        ap (λ (w : ℕ). sum_kept c.rounds k == w) touches_are
        ∙ sym (tells_law.of_rows p (rise_by_calls p) (calls_law.rise p) r es c t n k stands is e occ)

    pub row_serves : (n : ℕ) → c.row t ≡ Some n → row_passes c touches n ≡ serves_at p (start r) (ats c.rounds) c.steps c.answers t n
    row_serves n is = row_by n (slice_get c.answers n) refl is

    guest_by : (n : ℕ) (x : Option Answered) → slice_get c.answers n ≡ x → has_number (c.guests t) n ≡ true
        → passes (λ (l : Answered). same_goal (goal_kept c.rounds l) (Some (resolved_atom m.base.subst a)) && sum_kept c.rounds l + own == touches) x ≡ serves_at p (start r) (ats c.rounds) c.steps c.answers t n
    guest_by n None e is = sym (ap (passes _) e)
    guest_by n (Some k) e is =
        (λ j. same_goal (goal_kept c.rounds k) (Some (goal_is j)) && sum_kept c.rounds k + own_are j == touches_are j)
        ∙ sym (tells_law.of_guests p (rise_by_calls p) (calls_law.rise p) r es c t n k stands is e occ)

    pub guest_serves : (n : ℕ) → has_number (c.guests t) n ≡ true → guest_passes c (resolved_atom m.base.subst a) own touches n ≡ serves_at p (start r) (ats c.rounds) c.steps c.answers t n
    guest_serves n is = guest_by n (slice_get c.answers n) refl is

    pub row_serves_at : (n : ℕ) → c.row t ≡ Some n → row_passes c touches n ≡ true → ServesAt p (start r) c t n
    row_serves_at n is e =
        let w = passing (λ (l : Answered). sum_kept c.rounds l == touches) (slice_get c.answers n) e in
        record { answer = w.0; there = w.1; its = (and_parts (same_task t w.0.task) (not (is_guests p (start r) (ats c.rounds) w.0)) (row_at p (rise_by_calls p) r es c t n w.0 stands is w.1)).0; serves = sym (row_serves n is) ∙ e }

    pub guest_serves_at : (n : ℕ) → GuestPasses c (c.guests t) (resolved_atom m.base.subst a) own touches n → ServesAt p (start r) c t n
    guest_serves_at n g =
        let w = passing (λ (l : Answered). same_goal (goal_kept c.rounds l) (Some (resolved_atom m.base.subst a)) && sum_kept c.rounds l + own == touches) (slice_get c.answers n) g.passing in
        record { answer = w.0; there = w.1; its = (and_parts (same_task t w.0.task) (is_guests p (start r) (ats c.rounds) w.0) (guest_at p (rise_by_calls p) r es c t n w.0 stands g.member w.1)).0; serves = sym (guest_serves n g.member) ∙ g.passing }

    pub none_serves : ((n : ℕ) → c.row t ≡ Some n → row_passes c touches n ≡ false) → list_any (guest_passes c (resolved_atom m.base.subst a) own touches) (c.guests t) ≡ false → NoneServes p (start r) c t
    none_serves rows guests = record {
      row = λ n is. sym (row_serves n is) ∙ rows n is;
      guests = sym (none_pass (guest_passes c (resolved_atom m.base.subst a) own touches) (serves_at p (start r) (ats c.rounds) c.steps c.answers t) (c.guests t) guest_serves) ∙ guests;
    }

    pub guest_found : (x : Option ℕ) → IfSome x (λ n. GuestPasses c (c.guests t) (resolved_atom m.base.subst a) own touches n) → IfSome x (λ n. ServesAt p (start r) c t n)
    guest_found None h = tt
    guest_found (Some n) h = guest_serves_at n h

    pub none_found : (x : Option ℕ) → ((n : ℕ) → c.row t ≡ Some n → row_passes c touches n ≡ false)
        → IfNone x (list_any (guest_passes c (resolved_atom m.base.subst a) own touches) (c.guests t) ≡ false) → IfNone x (NoneServes p (start r) c t)
    none_found None rows h = none_serves rows h
    none_found (Some n) rows h = tt

  -- an answer that serves is what the search of the step finds
  pub answers : need m ≡ search_of t → (n : ℕ) (w : ServesAt p (start r) c t n) → Answers m w.answer.ids
  answers needs n w = record {
    task = t;
    needs = needs;
    finds = tells_law.finds p (rise_by_calls p) r es c t n w.answer stands occ w.there w.its w.serves ∙ sym (λ k. first (rules_are k) (rows (state_is k)) (state_is k).history t.0 t.1);
  }
