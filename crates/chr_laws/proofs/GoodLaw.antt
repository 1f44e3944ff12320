-- Whether an answer to a guest's task is good is told by the stamps of the footprint, added up.
use Rattle.std.proofs.Common.{Bool, List, Option, Some, [], ap, cond, false, map, refl, subst, sym, true, ℕ, ◌&&◌, ◌||◌, ◌+◌, ◌-◌, ◌==◌, ◌∙◌, ◌∷◌, ◌≡◌}
use Rattle.std.proofs.lemmas.Bool.{and_from, and_parts, eq-eqb}
use Rattle.std.specs.List.{list_all, list_any}
use Rattle.std.specs.Prelude.{option_map, slice_get}
use Rattle.chr_semantics.specs.Program.{Atom, Occurrence, Program, Query, occurrence}
use Rattle.chr_semantics.specs.Schedule.{Event, is_served, progress, same_goal}
use Rattle.chr_semantics.specs.Search.{has_number}
use Rattle.chr_semantics.specs.Stamps.{IsRise, Rise, stamp}
use Rattle.chr_semantics.specs.State.{State, resolved_atom, start}
use Rattle.chr_semantics.specs.Step.{after}
use Rattle.chr_semantics.specs.Tasks.{Task, guest, same_task}
use Rattle.chr_semantics.specs.Touch.{Mark, footprint_at, footprint_of, touched}
use Rattle.chr_laws.specs.Good.{GoodLaw, has_kept_good, is_good, is_good_answer, is_good_guest, is_good_task}
use Rattle.chr_laws.specs.Kept.{Answered, IsPlaced, at_of, is_guests, passes, place_of}
use Rattle.chr_laws.specs.Rounds.{ats}
use Rattle.chr_laws.specs.Stands.{Core, Stands, goal_kept, sum_kept}
use Rattle.chr_laws.specs.Sums.{guest_goal, marks_at, sum_of}
use Rattle.chr_laws.proofs.Places.{any_mapped, get_some, none_mapped, none_of, passing}
use Rattle.chr_laws.proofs.Served.{placed_at, same_task_true}
use Rattle.chr_laws.proofs.SumsLaw.{guest_marks, untouched_sums}
use Rattle.chr_laws.proofs.Tells.{goal_is, guest_at, steps_parts, sum_is}

module _ (p : Program) (rise : Rise) (w : IsRise p rise) (r : Query) (k m : ℕ) (t : Task) (a : Atom) (o : Occurrence)
    (next : (t.0 == (after p (start r) k).next_id) ≡ true) (waits : guest (after p (start r) (k + m)) ≡ Some a) (is : occurrence p a.sym t.1 ≡ Some o) where
  before : State
  before = after p (start r) k

  now : State
  now = after p (start r) (k + m)

  now_marks : footprint_at p t.1 (guest (after p (start r) (k + m))) ≡ footprint_of (Some o)
  now_marks = ap (footprint_at p t.1) waits ∙ ap footprint_of is

  now_goal : guest_goal (after p (start r) (k + m)) ≡ Some (resolved_atom (after p (start r) (k + m)).subst a)
  now_goal = ap (option_map (resolved_atom (after p (start r) (k + m)).subst)) waits

  with_goal : (b : Bool) → same_goal (guest_goal (after p (start r) k)) (guest_goal (after p (start r) (k + m))) ≡ b
      → (b && list_all (λ x. touched p (start r) k x == touched p (start r) (k + m) x) (footprint_at p t.1 (guest (after p (start r) (k + m)))))
      ≡ (b && sum_of (stamp p rise (start r) k) (marks_at p (after p (start r) k) t) == sum_of (stamp p rise (start r) (k + m)) (footprint_of (Some o)))
  with_goal false h = refl
  with_goal true h =
      ap (list_all (λ x. touched p (start r) k x == touched p (start r) (k + m) x)) now_marks
      ∙ untouched_sums p rise w r k m (footprint_of (Some o))
      ∙ ap (λ (xs : List Mark). sum_of (stamp p rise (start r) k) xs == sum_of (stamp p rise (start r) (k + m)) (footprint_of (Some o)))
      (sym (guest_marks p (after p (start r) k) t (resolved_atom (after p (start r) (k + m)).subst a) o (guest (after p (start r) k)) refl next is (ap (same_goal (guest_goal (after p (start r) k))) (sym now_goal) ∙ h)))

  pub guest_is_good : is_good_guest p (start r) k (k + m) t
      ≡ (same_goal (guest_goal (after p (start r) k)) (guest_goal (after p (start r) (k + m)))
      && sum_of (stamp p rise (start r) k) (marks_at p (after p (start r) k) t) == sum_of (stamp p rise (start r) (k + m)) (footprint_of (Some o)))
  guest_is_good =
      ap (λ (b : Bool). b && (same_goal (guest_goal (after p (start r) k)) (guest_goal (after p (start r) (k + m))) && list_all (λ x. touched p (start r) k x == touched p (start r) (k + m) x) (footprint_at p t.1 (guest (after p (start r) (k + m)))))) next
      ∙ with_goal _ refl

-- ---- the kept answers

-- what the definition says of a kept answer
placed_good : (p : Program) (q : State) (rounds : List ℕ) (n : ℕ) (t : Task) (k : Answered) → IsPlaced p q rounds k
    → is_good_answer p q n t k.index (slice_get rounds k.round) ≡ (same_task t k.task && is_good_guest p q (at_of rounds k) n t)
placed_good p q rounds n t k h =
    ap (is_good_answer p q n t k.index) (get_some rounds k.round 0 h.0)
    ∙ ap (is_good_task p q (at_of rounds k) n t) h.1

or_right : (a b : Bool) → b ≡ true → (a || b) ≡ true
or_right true b h = refl
or_right false b h = h

-- one that passes is among them
some_of : (f : ℕ → Bool) (xs : List ℕ) → list_any f xs ≡ true → (n : ℕ) × (has_number xs n ≡ true) × (f n ≡ true)
some_of f [] h = cc
some_of f (x ∷ xs) h = at (f x) refl h (some_of f xs)
  where
    at : (b : Bool) → f x ≡ b → (b || list_any f xs) ≡ true → (list_any f xs ≡ true → (n : ℕ) × (has_number xs n ≡ true) × (f n ≡ true)) → (n : ℕ) × (has_number (x ∷ xs) n ≡ true) × (f n ≡ true)
    at true is k others = (x, ap (λ (b : Bool). b || has_number xs x) (eq-eqb x x refl), is)
    at false is k others = let rest = others k in (rest.0, or_right (rest.0 == x) (has_number xs rest.0) rest.1, rest.2)

module _ (p : Program) (rise : Rise) (w : IsRise p rise) (r : Query) (es : List Event) (c : Core) (t : Task) (a : Atom) (o : Occurrence)
    (h : Stands p rise (start r) es c) (now_next : (t.0 == (after p (start r) c.steps).next_id) ≡ true) (waits : guest (after p (start r) c.steps) ≡ Some a) (is : occurrence p a.sym t.1 ≡ Some o) where
  abbrev sum_now : ℕ
  sum_now = sum_of (stamp p rise (start r) c.steps) (footprint_of (Some o))

  abbrev goal_now : Option Atom
  goal_now = guest_goal (after p (start r) c.steps)

  abbrev good_kept : ℕ → Bool
  good_kept = has_kept_good c goal_now sum_now

  abbrev good_place : ℕ × ℕ → Bool
  good_place x = is_good_answer p (start r) c.steps t x.1 (slice_get (ats c.rounds) x.0)

  -- of an answer to that task whose constraint was the guest of its round
  told : (n : ℕ) (k : Answered) (there : slice_get c.answers n ≡ Some k) (its : same_task t k.task ≡ true) → (t.0 == (after p (start r) (at_of (ats c.rounds) k)).next_id) ≡ true
      → is_good_guest p (start r) (at_of (ats c.rounds) k) c.steps t ≡ good_kept n
  told n k there its next =
      let at = at_of (ats c.rounds) k in
      let parts = steps_parts p rise r es c t n k h there its in
      subst (λ (m : ℕ). is_good_guest p (start r) at m t ≡ (same_goal (guest_goal (after p (start r) at)) (guest_goal (after p (start r) m)) && sum_of (stamp p rise (start r) at) (marks_at p (after p (start r) at) t) == sum_of (stamp p rise (start r) m) (footprint_of (Some o)))) (sym parts)
      (guest_is_good p rise w r at (c.steps - at) t a o next (subst (λ (m : ℕ). guest (after p (start r) m) ≡ Some a) parts waits) is)
      ∙ ap (λ (g : Option Atom). same_goal g goal_now && sum_of (stamp p rise (start r) at) (marks_at p (after p (start r) at) t) == sum_now) (sym (goal_is p rise r es c t n k h there its))
      ∙ ap (λ (m : ℕ). same_goal (goal_kept c.rounds k) goal_now && m == sum_now) (sym (sum_is p rise r es c t n k h there its))
      ∙ sym (ap (passes (λ z. same_goal (goal_kept c.rounds z) goal_now && sum_kept c.rounds z == sum_now)) there)

  -- where none passes that is kept for the task, none is good
  by_kind : (n : ℕ) (k : Answered) → slice_get c.answers n ≡ Some k → same_task t k.task ≡ true → list_any good_kept (c.guests t) ≡ false → (b : Bool) → (t.0 == (after p (start r) (at_of (ats c.rounds) k)).next_id) ≡ b
      → is_good_guest p (start r) (at_of (ats c.rounds) k) c.steps t ≡ false
  by_kind n k there its none false not_next = ap (λ (b : Bool). b && (same_goal (guest_goal (after p (start r) (at_of (ats c.rounds) k))) goal_now && list_all (λ x. touched p (start r) (at_of (ats c.rounds) k) x == touched p (start r) c.steps x) (footprint_at p t.1 (guest (after p (start r) c.steps))))) not_next
  by_kind n k there its none true next =
      let same = same_task_true t k.task its in
      let kind : is_guests p (start r) (ats c.rounds) k ≡ true = ap (λ (u : Task). u.0 == (after p (start r) (at_of (ats c.rounds) k)).next_id) (sym same) ∙ next in
      let member = ap (λ (u : Task). has_number (c.guests u) n) same ∙ h.holds.spots.all_guests n k there kind in
      told n k there its next ∙ none_of good_kept (c.guests t) n none member

  by_task : (n : ℕ) (k : Answered) → slice_get c.answers n ≡ Some k → list_any good_kept (c.guests t) ≡ false → (b : Bool) → same_task t k.task ≡ b
      → (b && is_good_guest p (start r) (at_of (ats c.rounds) k) c.steps t) ≡ false
  by_task n k there none false its = refl
  by_task n k there none true its = by_kind n k there its none (t.0 == (after p (start r) (at_of (ats c.rounds) k)).next_id) refl

  by_answers : (b : Bool) → list_any good_kept (c.guests t) ≡ b → list_any good_place (map place_of c.answers) ≡ b
  by_answers false none = none_mapped good_place place_of c.answers
      (λ n k there. placed_good p (start r) (ats c.rounds) c.steps t k (placed_at p (start r) (ats c.rounds) c.answers n k h.holds.placed there) ∙ by_task n k there none (same_task t k.task) refl)
  by_answers true some =
      let found = some_of good_kept (c.guests t) some in
      let n = found.0 in
      let shown = passing (λ k. same_goal (goal_kept c.rounds k) goal_now && sum_kept c.rounds k == sum_now) (slice_get c.answers n) found.2 in
      let k = shown.0 in
      let kinds = and_parts (same_task t k.task) (is_guests p (start r) (ats c.rounds) k) (guest_at p rise r es c t n k h found.1 shown.1) in
      let next : (t.0 == (after p (start r) (at_of (ats c.rounds) k)).next_id) ≡ true = ap (λ (u : Task). u.0 == (after p (start r) (at_of (ats c.rounds) k)).next_id) (same_task_true t k.task kinds.0) ∙ kinds.1 in
      any_mapped good_place place_of c.answers n k shown.1
      (placed_good p (start r) (ats c.rounds) c.steps t k (placed_at p (start r) (ats c.rounds) c.answers n k h.holds.placed shown.1)
      ∙ and_from (same_task t k.task) _ kinds.0 (told n k shown.1 kinds.0 next ∙ found.2))

  pub kept_is_good : is_good p (start r) (progress p (start r) es) t ≡ list_any good_kept (c.guests t)
  kept_is_good =
      let g = progress p (start r) es in
      ap (λ (m : ℕ). cond (t.0 == (after p (start r) m).next_id) (list_any (λ (x : ℕ × ℕ). is_good_answer p (start r) m t x.1 (slice_get g.rounds x.0)) g.kept) (is_served p (start r) g t)) h.steps_are
      ∙ ap (λ (b : Bool). cond b (list_any (λ (x : ℕ × ℕ). is_good_answer p (start r) c.steps t x.1 (slice_get g.rounds x.0)) g.kept) (is_served p (start r) g t)) now_next
      ∙ ap (λ (rs : List ℕ). list_any (λ (x : ℕ × ℕ). is_good_answer p (start r) c.steps t x.1 (slice_get rs x.0)) g.kept) (sym h.holds.ats_are)
      ∙ ap (list_any good_place) (sym h.holds.kept_are)
      ∙ by_answers _ refl

pub good_law : GoodLaw
good_law = record {
  of_guests = λ p rise w r k m t a o next waits is. guest_is_good p rise w r k m t a o next waits is;
  kept = λ p rise w r es c t a o h next waits is. kept_is_good p rise w r es c t a o h next waits is;
}
