-- A schedule whose first events were replayed goes on with the next one.
use Rattle.std.proofs.Common.{◌≡◌, ◌∙◌, ◌<◌, ◌≤◌, ℕ, zero, suc, ◌+◌, Bool, true, false, cond, not, List, [], ◌∷◌, ◌++◌, length, Option, Some, None, ap, arith, get_or, refl, subst, sym, take}
use Rattle.std.proofs.lemmas.Bool.{lt-ltb}
use Rattle.std.specs.Prelude.{Err, IfErr, IfOk, Ok, OnOk, Result, drop, nat_lt, slice_get}
use Rattle.chr_semantics.specs.Program.{Program, Query}
use Rattle.chr_semantics.specs.Schedule.{Event, Progress, Refusal, Took, arrive, double, first_refusal, is_idle, is_served, kept, late, move, next, no_progress, performed, progress, publish, refusal, stranger, too_many_rounds, too_many_steps, took, unknown_round, unknown_task, with_step, with_took}
use Rattle.chr_semantics.specs.State.{State, start}
use Rattle.chr_semantics.specs.Step.{after, is_running}
use Rattle.chr_semantics.specs.Tasks.{Task, needed_task}
use Rattle.chr_semantics.specs.declared.limits.TheConstants.{MAX_TRANSITIONS}
use Rattle.chr_semantics.proofs.AppendedLaw.{appended_law}
use Rattle.chr_semantics.proofs.IdleLaw.{idle_law}
use Rattle.chr_schedule.specs.EventView.{event_view, events_view}
use Rattle.chr_schedule.specs.declared.event.Event as declared
use Rattle.chr_laws.specs.Replay.{or_later}
use Rattle.chr_laws.proofs.Replay.{replay_law}
use Rattle.chr_core.specs.Replaying.{HasReplayed, IsRefusal}
use Rattle.chr_core.specs.declared.error.ReplayError.{ReplayError}
use Rattle.chr_core.specs.declared.error.ReplayError.TheVariants.{Memory, TooManyRounds, TooManySteps, UnknownRound, UnknownTask}

-- a list in two parts at an element
split_at : {X : Type 0} (xs : List X) (k : ℕ) (x : X) → slice_get xs k ≡ Some x → xs ≡ take k xs ++ x ∷ drop (suc k) xs
split_at [] k x e = cc
split_at (y ∷ ys) zero x e = let s : y ≡ x = cc in ap (λ (z : _). z ∷ ys) s
split_at (y ∷ ys) (suc k) x e = ap (λ (l : List _). y ∷ l) (split_at ys k x e)

take_more : {X : Type 0} (xs : List X) (k : ℕ) (x : X) → slice_get xs k ≡ Some x → take (suc k) xs ≡ take k xs ++ x ∷ []
take_more [] k x e = cc
take_more (y ∷ ys) zero x e = let s : y ≡ x = cc in ap (λ (z : _). z ∷ []) s
take_more (y ∷ ys) (suc k) x e = ap (λ (l : List _). y ∷ l) (take_more ys k x e)

take_length : {X : Type 0} (xs : List X) (k : ℕ) (x : X) → slice_get xs k ≡ Some x → length (take k xs) ≡ k
take_length [] k x e = cc
take_length (y ∷ ys) zero x e = refl
take_length (y ∷ ys) (suc k) x e = ap (λ (n : ℕ). suc n) (take_length ys k x e)

-- an event that stands in a schedule
pub event_there : (es : List declared.Event) (k : ℕ) (d : declared.Event) {e : declared.Event} → k < length es → get_or es k d ≡ e → slice_get (events_view es) k ≡ Some (event_view e)
event_there [] k d h is = absurd (omega (arith, h))
event_there (x ∷ es) zero d h is = ap (λ (y : declared.Event). Some (event_view y)) is
event_there (x ∷ es) (suc k) d h is = event_there es k d (omega (arith, h)) is

-- the same refusal of something else
pub refusal_as : (o w : Option Refusal) (e : ReplayError) → ((x : Refusal) → o ≡ Some x → w ≡ Some x) → IsRefusal o e → IsRefusal w e
refusal_as o w (UnknownRound k) h i = h (unknown_round k) i
refusal_as o w (UnknownTask k) h i = h (unknown_task k) i
refusal_as o w Memory h i = tt
refusal_as o w (TooManyRounds k) h i = h (too_many_rounds k) i
refusal_as o w (TooManySteps k) h i = h (too_many_steps k) i

took_steps : (g : Progress) (x : ℕ) (a : Took) → (with_took g x a).steps ≡ g.steps
took_steps g x (kept i) = refl
took_steps g x (late i) = refl
took_steps g x (double i) = refl
took_steps g x stranger = refl

step_steps : (p : Program) (q : State) (g : Progress) (o : Option Task) → (with_step p q g o).steps ≡ g.steps + 1
step_steps p q g None = refl
step_steps p q g (Some t) = by (is_served p q g t)
  where
    by : (b : Bool) → (let h : Progress = elim b [ true ↦ record g { steps = g.steps + 1; used = g.used + 1 } | false ↦ record g { steps = g.steps + 1; own = g.own + 1 } ] in h.steps) ≡ g.steps + 1
    by true = refl
    by false = refl

pub begun_replay : (p : Program) (r : Query) → HasReplayed p r [] [] 0
begun_replay p r = record { accepted = refl; done_are = refl; steps_are = refl }

module _ {p : Program} {r : Query} (all : List Event) (k : ℕ) {e : Event} (is : slice_get all k ≡ Some e) {done : List Event} {steps : ℕ} (h : HasReplayed p r (take k all) done steps) where
  abbrev q : State
  q = start r

  abbrev es : List Event
  es = take k all

  abbrev g : Progress
  g = progress p q es

  refusal_by : (x : Refusal) (o l : Option Refusal) → o ≡ Some x → elim o [ Some y ↦ Some y | None ↦ l ] ≡ Some x
  refusal_by x None l d = cc
  refusal_by x (Some y) l d = d

  -- where the next event is refused, so is the schedule
  pub refused : (x : Refusal) → refusal p q g k e ≡ Some x → first_refusal p q no_progress 0 all ≡ Some x
  refused x d =
      ap (first_refusal p q no_progress 0) (split_at all k e is)
      ∙ (replay_law.first p q es (e ∷ drop (suc k) all)
      ∙ (ap (λ (o : Option Refusal). or_later o (first_refusal p q g (length es) (e ∷ drop (suc k) all))) h.accepted
      ∙ (ap (λ (n : ℕ). first_refusal p q g n (e ∷ drop (suc k) all)) (take_length all k e is)
      ∙ refusal_by x (refusal p q g k e) (first_refusal p q (next p q g e) (k + 1) (drop (suc k) all)) d)))

  accepted_by : (o : Option Refusal) → o ≡ None → ◌≡◌ {A = Option Refusal} (elim o [ Some y ↦ Some y | None ↦ None ]) None
  accepted_by None d = refl
  accepted_by (Some y) d = cc

  accepted_more : refusal p q g k e ≡ None → first_refusal p q no_progress 0 (take (suc k) all) ≡ None
  accepted_more d =
      ap (first_refusal p q no_progress 0) (take_more all k e is)
      ∙ (replay_law.first p q es (e ∷ [])
      ∙ (ap (λ (o : Option Refusal). or_later o (first_refusal p q g (length es) (e ∷ []))) h.accepted
      ∙ (ap (λ (n : ℕ). first_refusal p q g n (e ∷ [])) (take_length all k e is)
      ∙ accepted_by (refusal p q g k e) d)))

  progress_more : progress p q (take (suc k) all) ≡ next p q g e
  progress_more = ap (progress p q) (take_more all k e is) ∙ appended_law p q es e

  performed_more : performed p q (take (suc k) all) ≡ cond (is_idle p q g e) done (done ++ e ∷ [])
  performed_more = ap (performed p q) (take_more all k e is) ∙ (replay_law.more p q es e ∙ ap (λ (l : List Event). cond (is_idle p q g e) l (l ++ e ∷ [])) (sym h.done_are))

  replayed : (new : List Event) (n : ℕ) → refusal p q g k e ≡ None → new ≡ cond (is_idle p q g e) done (done ++ e ∷ []) → n ≡ (next p q g e).steps → HasReplayed p r (take (k + 1) all) new n
  replayed new n d made counted =
      let on : suc k ≡ k + 1 = omega arith in
      subst (λ (j : ℕ). HasReplayed p r (take j all) new n) on record {
        accepted = accepted_more d;
        done_are = made ∙ sym performed_more;
        steps_are = counted ∙ ap (λ (w : Progress). w.steps) (sym progress_more);
      }

-- a Publish
module _ {p : Program} {r : Query} (all : List Event) (k : ℕ) (is : slice_get all k ≡ Some publish) {done : List Event} {steps : ℕ} (h : HasReplayed p r (take k all) done steps) where
  same_refusal : refusal p (start r) (progress p (start r) (take k all)) k publish ≡ refusal p (start r) (progress p (start r) done) k publish
  same_refusal = replay_law.publishes p r (take k all) k ∙ ap (λ (l : List Event). refusal p (start r) (progress p (start r) l) k publish) (sym h.done_are)

  pub publish_refused : (o : ReplayError) → IsRefusal (refusal p (start r) (progress p (start r) done) k publish) o → IsRefusal (first_refusal p (start r) no_progress 0 all) o
  publish_refused o i = refusal_as (refusal p (start r) (progress p (start r) done) k publish) (first_refusal p (start r) no_progress 0 all) o (λ x d. refused all k is h x (same_refusal ∙ d)) i

  pub publish_replayed : (new : List Event) → refusal p (start r) (progress p (start r) done) k publish ≡ None → new ≡ done ++ publish ∷ [] → HasReplayed p r (take (k + 1) all) new steps
  publish_replayed new d made = replayed all k is h new steps (same_refusal ∙ d) made h.steps_are

-- an arrival
module _ {p : Program} {r : Query} (all : List Event) (k : ℕ) {i x : ℕ} (is : slice_get all k ≡ Some (arrive i x)) {done : List Event} {steps : ℕ} (h : HasReplayed p r (take k all) done steps) where
  same_arrival : refusal p (start r) (progress p (start r) (take k all)) k (arrive i x) ≡ refusal p (start r) (progress p (start r) done) k (arrive i x)
  same_arrival = replay_law.arrives p r (take k all) k i x ∙ ap (λ (l : List Event). refusal p (start r) (progress p (start r) l) k (arrive i x)) (sym h.done_are)

  pub arrival_refused : (o : ReplayError) → IsRefusal (refusal p (start r) (progress p (start r) done) k (arrive i x)) o → IsRefusal (first_refusal p (start r) no_progress 0 all) o
  arrival_refused o w = refusal_as (refusal p (start r) (progress p (start r) done) k (arrive i x)) (first_refusal p (start r) no_progress 0 all) o (λ y d. refused all k is h y (same_arrival ∙ d)) w

  pub arrival_replayed : (new : List Event) → refusal p (start r) (progress p (start r) done) k (arrive i x) ≡ None → new ≡ done ++ arrive i x ∷ [] → HasReplayed p r (take (k + 1) all) new steps
  arrival_replayed new d made =
      let g = progress p (start r) (take k all) in
      replayed all k is h new steps (same_arrival ∙ d) made (h.steps_are ∙ sym (took_steps g x (took g i x)))

-- a Step
module _ {p : Program} {r : Query} (all : List Event) (k : ℕ) (is : slice_get all k ≡ Some move) {done : List Event} {steps : ℕ} (h : HasReplayed p r (take k all) done steps) where
  abbrev so_far : Progress
  so_far = progress p (start r) (take k all)

  pub few_steps : (progress p (start r) done).steps ≤ steps
  few_steps =
      let d = replay_law.few p r (take k all) in
      let e = ap (λ (l : List Event). (progress p (start r) l).steps) h.done_are in
      let s = h.steps_are in
      omega (arith, d, e, s)

  -- its state
  pub state_same : after p (start r) (progress p (start r) done).steps ≡ after p (start r) so_far.steps
  state_same = ap (λ (l : List Event). after p (start r) (progress p (start r) l).steps) h.done_are ∙ idle_law.state p r (take k all)

  step_refused : (o : ReplayError) → IsRefusal (cond (nat_lt steps MAX_TRANSITIONS) None (Some (too_many_steps k))) o → IsRefusal (first_refusal p (start r) no_progress 0 all) o
  step_refused o w = refusal_as (cond (nat_lt steps MAX_TRANSITIONS) None (Some (too_many_steps k))) (first_refusal p (start r) no_progress 0 all) o
      (λ y d. refused all k is h y (ap (λ (n : ℕ). cond (nat_lt n MAX_TRANSITIONS) None (Some (too_many_steps k))) (sym h.steps_are) ∙ d)) w

  step_replayed : (new : List Event) → nat_lt steps MAX_TRANSITIONS ≡ true → new ≡ cond (is_running (after p (start r) (progress p (start r) done).steps).status) (done ++ move ∷ []) done → HasReplayed p r (take (k + 1) all) new (steps + 1)
  step_replayed new few made =
      replayed all k is h new (steps + 1)
      (ap (λ (b : Bool). cond b None (Some (too_many_steps k))) (ap (λ (n : ℕ). nat_lt n MAX_TRANSITIONS) (sym h.steps_are) ∙ few))
      (made ∙ (ap (λ (s : State). cond (is_running s.status) (done ++ move ∷ []) done) state_same ∙ turned (is_running (after p (start r) so_far.steps).status)))
      (ap (λ (n : ℕ). n + 1) h.steps_are ∙ sym (step_steps p (start r) so_far (needed_task p (after p (start r) so_far.steps))))
    where
      turned : (b : Bool) → cond b (done ++ move ∷ []) done ≡ cond (not b) done (done ++ move ∷ [])
      turned true = refl
      turned false = refl

  -- whatever it answers
  pub step_answers : {E : Type 0} (o : Result ℕ E) (new : List Event) (s : State) → s ≡ after p (start r) (progress p (start r) done).steps
      → IfOk o (λ made. made ≡ steps + 1) → OnOk o (steps < MAX_TRANSITIONS) → OnOk o (new ≡ cond (is_running s.status) (done ++ move ∷ []) done) → IfOk o (HasReplayed p r (take (k + 1) all) new)
  step_answers (Err e) new s same counted few made = tt
  step_answers (Ok n) new s same counted few made =
      subst (HasReplayed p r (take (k + 1) all) new) (sym counted)
      (step_replayed new (lt-ltb steps MAX_TRANSITIONS few) (made ∙ ap (λ (w : State). cond (is_running w.status) (done ++ move ∷ []) done) same))

  pub step_refuses : {T : Type 0} (o : Result T ReplayError) → IfErr o (IsRefusal (cond (nat_lt steps MAX_TRANSITIONS) None (Some (too_many_steps k)))) → IfErr o (IsRefusal (first_refusal p (start r) no_progress 0 all))
  step_refuses (Ok n) w = tt
  step_refuses (Err e) w = step_refused e w
