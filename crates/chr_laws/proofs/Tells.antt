-- What a core that stands at a schedule tells of its answers.
use Rattle.std.proofs.Common.{Bool, List, None, Option, Some, [], ap, arith, cond, false, refl, subst, sym, true, zero, suc, ℕ, ◌&&◌, ◌||◌, ◌+◌, ◌-◌, ◌<◌, ◌≤◌, ◌==◌, ◌∙◌, ◌∷◌, ◌≡◌, length, map}
use Rattle.std.proofs.lemmas.Bool.{and_parts, eqb-true, leb-true, not-true}
use Rattle.std.proofs.lemmas.Option.{slice_get-map}
use Rattle.std.specs.List.{list_all}
use Rattle.std.specs.Prelude.{is_some, not, option_map, slice_get, unwrap_or}
use Rattle.chr_semantics.specs.Footprint.{Agrees, answer, marks_added}
use Rattle.chr_semantics.specs.Program.{Atom, Occurrence, Program, Query, occurrence}
use Rattle.chr_semantics.specs.Schedule.{Event, progress, same_goal, serves}
use Rattle.chr_semantics.specs.Search.{atom_of, first, has_number}
use Rattle.chr_semantics.specs.Stamps.{IsRise, Rise, stamp}
use Rattle.chr_semantics.specs.State.{Element, State, active, goal, known, resolved_atom, rows, start}
use Rattle.chr_semantics.specs.Step.{after}
use Rattle.chr_semantics.specs.Tasks.{Task, needed_task_top, same_task, tasks}
use Rattle.chr_semantics.specs.Touch.{footprint_of}
use Rattle.chr_semantics.proofs.ServesLaw.{serves_law}
use Rattle.chr_semantics.proofs.Soundness.{sound_after, sound_start}
use Rattle.chr_laws.specs.Kept.{Answered, at_of, is_guests, passes, serves_at}
use Rattle.chr_laws.specs.Rounds.{AreAnswers, AreRounds, IsRound, Round, ats, task_sum}
use Rattle.chr_laws.specs.Stands.{Core, HasOccurrence, Stands, TellsLaw, goal_in, goal_kept, sum_in, sum_kept}
use Rattle.chr_laws.specs.Sums.{guest_goal, marks_at, sum_of}
use Rattle.chr_laws.proofs.Places.{get_some}
use Rattle.chr_laws.proofs.Served.{past_at, placed_at, same_task_true}
use Rattle.chr_laws.proofs.SumsLaw.{sums_law}

needed_at : (p : Program) (s : State) (i j : ℕ) (a : Atom) (t : Task) (x : Option Atom) (o : Option Occurrence) → ((b : Atom) → atom_of s.store i ≡ Some b → b ≡ a) → atom_of s.store i ≡ x → occurrence p a.sym j ≡ o
    → cond {A = Option Task} (is_some x && is_some o) (Some (i, j)) None ≡ Some t → HasOccurrence p s t
needed_at p s i j a t None o agree ex eo e = cc
needed_at p s i j a t (Some b) None agree ex eo e = cc
needed_at p s i j a t (Some b) (Some o) agree ex eo e =
    let same : (i, j) ≡ t = cc in
    subst (λ (u : Task). HasOccurrence p s u) same (record { atom = b; occ = o; living = ex; is = ap (λ (x : Atom). occurrence p x.sym j) (agree b ex) ∙ eo })

needed_top : (p : Program) (s : State) (es : List Element) (t : Task) → Agrees s.store s.next_id es → needed_task_top p s es ≡ Some t → HasOccurrence p s t
needed_top p s [] t h e = cc
needed_top p s (goal g ∷ es) t h e = cc
needed_top p s (known i a ∷ es) t h e = cc
needed_top p s (active i j a ∷ es) t h e = needed_at p s i j a t (atom_of s.store i) (occurrence p a.sym j) h.0.1 refl refl e

-- the round of a position
round_of : (rounds : List Round) (i : ℕ) → i < length (ats rounds) → (d : Round) × (slice_get rounds i ≡ Some d)
round_of [] i h = absurd (omega (arith, h))
round_of (d ∷ ds) zero h = (d, refl)
round_of (d ∷ ds) (suc i) h = round_of ds i (omega (arith, h))

is_round : (p : Program) (rise : Rise) (q : State) (rounds : List Round) (i : ℕ) (d : Round) → AreRounds p rise q rounds → slice_get rounds i ≡ Some d → IsRound p rise q d
is_round p rise q [] i d h e = cc
is_round p rise q (c ∷ cs) zero d h e = let same : c ≡ d = cc in subst (IsRound p rise q) same h.0
is_round p rise q (c ∷ cs) (suc i) d h e = is_round p rise q cs i d h.1 e

answer_at : (p : Program) (q : State) (rounds : List ℕ) (answers : List Answered) (n : ℕ) (k : Answered) → AreAnswers p q rounds answers → slice_get answers n ≡ Some k → k.ids ≡ answer p (after p q (at_of rounds k)) k.task
answer_at p q rounds [] n k h e = cc
answer_at p q rounds (l ∷ ls) zero k h e = let same : l ≡ k = cc in subst (λ (z : Answered). z.ids ≡ answer p (after p q (at_of rounds z)) z.task) same h.0
answer_at p q rounds (l ∷ ls) (suc n) k h e = answer_at p q rounds ls n k h.1 e

-- what all pass, each passes
all_of : (f : ℕ → Bool) (xs : List ℕ) (n : ℕ) → list_all f xs ≡ true → has_number xs n ≡ true → f n ≡ true
all_of f [] n h k = cc
all_of f (x ∷ xs) n h k = let r = and_parts (f x) (list_all f xs) h in at (n == x) refl k (all_of f xs n r.1)
  where
    at : (b : Bool) → (n == x) ≡ b → (b || has_number xs n) ≡ true → (has_number xs n ≡ true → f n ≡ true) → f n ≡ true
    at true is k go = ap f (eqb-true n x is) ∙ (and_parts (f x) (list_all f xs) h).0
    at false is k go = go k

module _ (p : Program) (rise : Rise) (r : Query) (es : List Event) (c : Core) (t : Task) (n : ℕ) (k : Answered)
    (h : Stands p rise (start r) es c) (there : slice_get c.answers n ≡ Some k) (its : same_task t k.task ≡ true) where
  abbrev pub at : ℕ
  at = at_of (ats c.rounds) k

  pub task_is : t ≡ k.task
  task_is = same_task_true t k.task its

  pub below : k.round < length (ats c.rounds)
  below = (placed_at p (start r) (ats c.rounds) c.answers n k h.holds.placed there).0

  task_there : slice_get (tasks p (after p (start r) at)) k.index ≡ Some t
  task_there = (placed_at p (start r) (ats c.rounds) c.answers n k h.holds.placed there).1 ∙ ap (λ (u : Task). Some u) (sym task_is)

  past : at ≤ c.steps
  past = let w = past_at (progress p (start r) es).steps (ats c.rounds) k.round at h.holds.past (get_some (ats c.rounds) k.round 0 below) in
      let l = leb-true at (progress p (start r) es).steps w in
      let e = h.steps_are in
      omega (arith, l, e)

  pub steps_parts : c.steps ≡ at + (c.steps - at)
  steps_parts = let l = past in omega (arith, l)

  here : serves_at p (start r) (ats c.rounds) c.steps c.answers t n ≡ serves p (start r) at c.steps t
  here = ap (passes (λ (z : Answered). serves p (start r) (at_of (ats c.rounds) z) c.steps t)) there

  abbrev round : Round
  round = (round_of c.rounds k.round below).0

  round_there : slice_get c.rounds k.round ≡ Some round
  round_there = (round_of c.rounds k.round below).1

  round_is : IsRound p rise (start r) round
  round_is = is_round p rise (start r) c.rounds k.round round h.holds.are_rounds round_there

  at_is : round.at ≡ at
  at_is = sym (ap (λ (x : Option ℕ). unwrap_or x 0) (slice_get-map (λ (d : Round). d.at) c.rounds k.round ∙ ap (option_map (λ (d : Round). d.at)) round_there))

  pub sum_is : sum_kept c.rounds k ≡ task_sum p rise (start r) at t
  sum_is =
      ap (sum_in k.index) round_there
      ∙ ap (λ (xs : List ℕ). unwrap_or (slice_get xs k.index) 0) round_is.sums_are
      ∙ ap (λ (m : ℕ). unwrap_or (slice_get (map (task_sum p rise (start r) m) (tasks p (after p (start r) m))) k.index) 0) at_is
      ∙ ap (λ (x : Option ℕ). unwrap_or x 0) (slice_get-map (task_sum p rise (start r) at) (tasks p (after p (start r) at)) k.index ∙ ap (option_map (task_sum p rise (start r) at)) task_there)

  pub goal_is : goal_kept c.rounds k ≡ guest_goal (after p (start r) at)
  goal_is = ap goal_in round_there ∙ round_is.guest_is ∙ ap (λ (m : ℕ). guest_goal (after p (start r) m)) at_is

  module _ (w : IsRise p rise) (occ : HasOccurrence p (after p (start r) c.steps) t) where
    row_tells : (t.0 == (after p (start r) at).next_id) ≡ false
        → serves_at p (start r) (ats c.rounds) c.steps c.answers t n ≡ (sum_kept c.rounds k == sum_of (stamp p rise (start r) c.steps) (footprint_of (Some occ.occ)))
    row_tells not_next =
        here
        ∙ subst (λ (m : ℕ). serves p (start r) at m t ≡ (sum_of (stamp p rise (start r) at) (marks_at p (after p (start r) at) t) == sum_of (stamp p rise (start r) m) (footprint_of (Some occ.occ)))) (sym steps_parts)
        (sums_law.of_rows p rise w r at (c.steps - at) k.index t occ.atom occ.occ task_there not_next
        (subst (λ (m : ℕ). atom_of (after p (start r) m).store t.0 ≡ Some occ.atom) steps_parts occ.living) occ.is)
        ∙ ap (λ (m : ℕ). m == sum_of (stamp p rise (start r) c.steps) (footprint_of (Some occ.occ))) (sym sum_is)

    guest_tells : (t.0 == (after p (start r) at).next_id) ≡ true
        → serves_at p (start r) (ats c.rounds) c.steps c.answers t n
        ≡ (same_goal (goal_kept c.rounds k) (Some (resolved_atom (after p (start r) c.steps).subst occ.atom))
        && sum_kept c.rounds k + sum_of (marks_added occ.atom.sym) (footprint_of (Some occ.occ)) == sum_of (stamp p rise (start r) c.steps) (footprint_of (Some occ.occ)))
    guest_tells next =
        here
        ∙ subst (λ (m : ℕ). serves p (start r) at m t
        ≡ (same_goal (guest_goal (after p (start r) at)) (Some (resolved_atom (after p (start r) m).subst occ.atom))
        && sum_of (stamp p rise (start r) at) (marks_at p (after p (start r) at) t) + sum_of (marks_added occ.atom.sym) (footprint_of (Some occ.occ)) == sum_of (stamp p rise (start r) m) (footprint_of (Some occ.occ)))) (sym steps_parts)
        (sums_law.of_guests p rise w r at (c.steps - at) t occ.atom occ.occ next
        (subst (λ (m : ℕ). atom_of (after p (start r) m).store t.0 ≡ Some occ.atom) steps_parts occ.living) occ.is)
        ∙ ap (λ (g : Option Atom). same_goal g (Some (resolved_atom (after p (start r) c.steps).subst occ.atom)) && sum_of (stamp p rise (start r) at) (marks_at p (after p (start r) at) t) + sum_of (marks_added occ.atom.sym) (footprint_of (Some occ.occ)) == sum_of (stamp p rise (start r) c.steps) (footprint_of (Some occ.occ))) (sym goal_is)
        ∙ ap (λ (m : ℕ). same_goal (goal_kept c.rounds k) (Some (resolved_atom (after p (start r) c.steps).subst occ.atom)) && m + sum_of (marks_added occ.atom.sym) (footprint_of (Some occ.occ)) == sum_of (stamp p rise (start r) c.steps) (footprint_of (Some occ.occ))) (sym sum_is)

  finds_by : HasOccurrence p (after p (start r) c.steps) t → serves_at p (start r) (ats c.rounds) c.steps c.answers t n ≡ true
      → k.ids ≡ first p (rows (after p (start r) c.steps)) (after p (start r) c.steps).history t.0 t.1
  finds_by occ served =
      answer_at p (start r) (ats c.rounds) c.answers n k h.holds.are_answers there
      ∙ ap (answer p (after p (start r) at)) (sym task_is)
      ∙ subst (λ (m : ℕ). answer p (after p (start r) at) t ≡ first p (rows (after p (start r) m)) (after p (start r) m).history t.0 t.1) (sym steps_parts)
      (serves_law p r at (c.steps - at) t occ.atom occ.occ
      (subst (λ (m : ℕ). atom_of (after p (start r) m).store t.0 ≡ Some occ.atom) steps_parts occ.living) occ.is
      (subst (λ (m : ℕ). serves p (start r) at m t ≡ true) steps_parts (sym here ∙ served)))

-- of the answer whose position is kept for the task
pub row_at : (p : Program) (rise : Rise) (r : Query) (es : List Event) (c : Core) (t : Task) (n : ℕ) (k : Answered)
    → Stands p rise (start r) es c → c.row t ≡ Some n → slice_get c.answers n ≡ Some k
    → (same_task t k.task && not (is_guests p (start r) (ats c.rounds) k)) ≡ true
row_at p rise r es c t n k h is there = sym (ap (passes (λ (l : Answered). same_task t l.task && not (is_guests p (start r) (ats c.rounds) l))) there) ∙ h.holds.spots.row_is t n is

pub guest_at : (p : Program) (rise : Rise) (r : Query) (es : List Event) (c : Core) (t : Task) (n : ℕ) (k : Answered)
    → Stands p rise (start r) es c → has_number (c.guests t) n ≡ true → slice_get c.answers n ≡ Some k
    → (same_task t k.task && is_guests p (start r) (ats c.rounds) k) ≡ true
guest_at p rise r es c t n k h is there =
    sym (ap (passes (λ (l : Answered). same_task t l.task && is_guests p (start r) (ats c.rounds) l)) there)
    ∙ all_of (λ m. passes (λ (l : Answered). same_task t l.task && is_guests p (start r) (ats c.rounds) l) (slice_get c.answers m)) (c.guests t) n (h.holds.spots.guests_are t) is

pub tells_law : TellsLaw
tells_law = record {
  needed = λ p r n t e. needed_top p (after p (start r) n) (after p (start r) n).stack t (sound_after p n (start r) (sound_start r)).agrees e;
  of_rows = λ p rise w r es c t n k h is there occ.
      let parts = and_parts (same_task t k.task) (not (is_guests p (start r) (ats c.rounds) k)) (row_at p rise r es c t n k h is there) in
      let same = same_task_true t k.task parts.0 in
      row_tells p rise r es c t n k h there parts.0 w occ
      (ap (λ (u : Task). u.0 == (after p (start r) (at_of (ats c.rounds) k)).next_id) same ∙ not-true (is_guests p (start r) (ats c.rounds) k) parts.1);
  of_guests = λ p rise w r es c t n k h is there occ.
      let parts = and_parts (same_task t k.task) (is_guests p (start r) (ats c.rounds) k) (guest_at p rise r es c t n k h is there) in
      let same = same_task_true t k.task parts.0 in
      guest_tells p rise r es c t n k h there parts.0 w occ
      (ap (λ (u : Task). u.0 == (after p (start r) (at_of (ats c.rounds) k)).next_id) same ∙ parts.1);
  finds = λ p rise r es c t n k h occ there its served. finds_by p rise r es c t n k h there its occ served;
}
