-- What a core shows of the state that its steps lead to.
use Rattle.std.proofs.Common.{◌≡◌, ◌≢◌, ◌∙◌, ◌+◌, ◌++◌, ◌∷◌, [], ◌<◌, ◌≤◌, ◌&&◌, ℕ, List, not, Option, Some, None, Result, Ok, Err, ap, arith, refl, subst, sym}
use Rattle.std.specs.Prelude.{IfOk, OnOk, length, nat_le}
use Rattle.chr_semantics.specs.Policy.{is_place, is_place_for}
use Rattle.chr_semantics.specs.Program.{Query}
use Rattle.chr_semantics.specs.Schedule.{Event, Progress, is_served, move, progress}
use Rattle.chr_semantics.specs.State.{State, Status, done, failed, faulted, running, start}
use Rattle.chr_semantics.specs.Step.{after}
use Rattle.chr_semantics.specs.Tasks.{Task, needed_task, tasks}
use Rattle.chr_shelf.specs.declared.run.RunName.{Ghosts}
use Rattle.chr_semantics.specs.declared.limits.TheConstants.{MAX_TRANSITIONS}
use Rattle.chr_machine.specs.MachineView.{Moves, Steps}
use Rattle.chr_machine.specs.Model.{Model, state_in}
use Rattle.chr_machine.specs.NeedView.{ended, need, need_by, plain, search_of}
use Rattle.chr_machine.specs.declared.stepped.Stepped.{Stepped}
use Rattle.chr_machine.specs.declared.stepped.Stepped.TheVariants.{Ended, Moved, Spent}
use Rattle.chr_core.specs.CoreView.{events_of, machine_in, progress_of, query_of, start_of, stepped_events}
use Rattle.chr_core.specs.declared.run_core.Core.{Core}
use Rattle.chr_core.proofs.Needs.{need_plain, need_search}
use Rattle.chr_policy.specs.CoordinatorView.{IsAtRest, IsFullAt, events_by, machine_by, query_by}
use Rattle.chr_policy.specs.Standing.{IsReady, Rests}
use Rattle.chr_policy.specs.declared.coordinator.Coordinator.{Coordinator}
use Rattle.chr_policy.proofs.Stages.{rounds_more}
use Rattle.chr_policy.proofs.Standings.{at_rounds, rests_moved, rests_searched}

module _ {J A : Type 0} {G : Ghosts J} (c : Core J A G) where
  pub steps_are : (machine_in c).steps ≡ (progress_of c).steps
  steps_are = sym c.stands.steps_are

  pub state_is : state_in (machine_in c) ≡ after G.rules (start_of c) (progress_of c).steps
  state_is = c.at.run.state_is ∙ ap (after G.rules (start_of c)) (sym c.stands.steps_are)

  pub needed_are : needed_task G.rules (after G.rules (start_of c) (progress_of c).steps) ≡ needed_task (machine_in c).rules (state_in (machine_in c))
  needed_are = sym (λ k. needed_task (c.at.run.same.rules k) (state_is k))

  module _ (t : Task) (needs : need (machine_in c) ≡ search_of t) where
    pub needed_is : needed_task G.rules (after G.rules (start_of c) (progress_of c).steps) ≡ Some t
    needed_is = needed_are ∙ (need_search (needed_task (machine_in c).rules (state_in (machine_in c))) (machine_in c).status t needs).0

    -- whether there is a place to publish
    pub place_is : is_place G.rules (start_of c) (progress_of c) ≡ (not (is_served G.rules (start_of c) (progress_of c) t) && nat_le 2 (length (tasks (machine_in c).rules (state_in (machine_in c)))))
    place_is =
        ap (is_place_for G.rules (start_of c) (progress_of c)) needed_is
        ∙ sym (λ k. not (is_served G.rules (start_of c) (progress_of c) t) && nat_le 2 (length (tasks (c.at.run.same.rules k) (state_is k))))

-- a step of a run that goes on, below the limit, is a transition
moves_of : (stepped : Stepped) (m n : Model) → m.status ≡ running → m.steps < MAX_TRANSITIONS → Steps stepped m n → Moves m n × (stepped ≡ Moved)
moves_of Moved m n goes few h = (h, refl)
moves_of Ended m n goes few h = absurd (h.0 goes)
moves_of Spent m n goes few h = absurd (let full = h.1 in omega (arith, full, few))

module _ {J A : Type 0} {G : Ghosts J} (c d : Core J A G) (workers skipped : ℕ) (few : (machine_in c).steps < MAX_TRANSITIONS) (stepped : Stepped)
    (made : Steps stepped (machine_in c) (machine_in d)) (events : events_of d ≡ stepped_events stepped (events_of c)) (same : query_of d ≡ query_of c) where
  below : (progress_of c).steps < MAX_TRANSITIONS
  below = let s = steps_are c in omega (arith, s, few)

  -- what holds of the schedule with one Step more holds of the next one
  moved_on : (P : State → List Event → Type 0) → (machine_in c).status ≡ running → P (start_of c) (events_of c ++ move ∷ []) → P (start_of d) (events_of d)
  moved_on P goes h =
      let moved = (moves_of stepped (machine_in c) (machine_in d) goes few made).1 in
      let its : events_of c ++ move ∷ [] ≡ events_of d = sym (events ∙ ap (λ (w : Stepped). stepped_events w (events_of c)) moved) in
      subst (P (start_of d)) its (subst (λ (r : Query). P (start r) (events_of c ++ move ∷ [])) (sym same) h)

  rested : (machine_in c).status ≡ running → Rests G.rules (start_of c) workers skipped (events_of c ++ move ∷ []) → Rests G.rules (start_of d) workers skipped (events_of d)
  rested goes r = moved_on (λ q es. Rests G.rules q workers skipped es) goes r

  -- a progress whose rounds are there after the Step
  has_rounds : (at : Progress) → (machine_in c).status ≡ running → length at.rounds ≤ length (progress G.rules (start_of c) (events_of c ++ move ∷ [])).rounds → length at.rounds ≤ length (progress_of d).rounds
  has_rounds at goes h = moved_on (λ q es. length at.rounds ≤ length (progress G.rules q es).rounds) goes h

  more_steps : (goes : (machine_in c).status ≡ running) → (machine_in d).steps ≡ (machine_in c).steps + 1
  more_steps goes = (moves_of stepped (machine_in c) (machine_in d) goes few made).0.steps_are

  -- after a step that needs a search
  module _ (t : Task) (needs : need (machine_in c) ≡ search_of t) where
    goes : (machine_in c).status ≡ running
    goes = (need_search (needed_task (machine_in c).rules (state_in (machine_in c))) (machine_in c).status t needs).1

    pub searched_steps : (machine_in d).steps ≡ (machine_in c).steps + 1
    searched_steps = more_steps goes

    pub searched_rounds : (at : Progress) → IsReady G.rules (start_of c) workers skipped at (events_of c) → length at.rounds ≤ length (progress_of d).rounds
    searched_rounds at ready = has_rounds at goes (at_rounds G.rules (start_of c) (events_of c) at ready.published ready.missed ready.keeps)

    pub searched_rests : (at : Progress) → IsReady G.rules (start_of c) workers skipped at (events_of c) → Rests G.rules (start_of d) workers skipped (events_of d)
    searched_rests at ready = rested goes (rests_searched G.rules (start_of c) (events_of c) workers skipped at t ready (needed_is c t needs) below)

  -- after one that needs none
  module _ (needs : need (machine_in c) ≡ plain) where
    parts : (needed_task (machine_in c).rules (state_in (machine_in c)) ≡ None) × ((machine_in c).status ≡ running)
    parts = need_plain (needed_task (machine_in c).rules (state_in (machine_in c))) (machine_in c).status needs

    pub plain_steps : (machine_in d).steps ≡ (machine_in c).steps + 1
    plain_steps = more_steps parts.1

    pub plain_rounds : length (progress_of c).rounds ≤ length (progress_of d).rounds
    plain_rounds = has_rounds (progress_of c) parts.1 (rounds_more G.rules (start_of c) (events_of c) move)

    pub plain_rests : Rests G.rules (start_of c) workers skipped (events_of c) → Rests G.rules (start_of d) workers skipped (events_of d)
    plain_rests rests = rested parts.1 (rests_moved G.rules (start_of c) (events_of c) workers skipped rests (needed_are c ∙ parts.0) below)

-- so a coordinator is at rest again
module _ {J A : Type 0} {G : Ghosts J} {E : Type 0} (c : Core J A G) (k : Coordinator J A G) (few : (machine_in c).steps < MAX_TRANSITIONS) (o : Result Stepped E)
    (same : query_by k ≡ query_of c) where
  pub at_rest_searched : (t : Task) → need (machine_in c) ≡ search_of t → (at : Progress) → IsReady G.rules (start_of c) k.workers k.skipped at (events_of c) → k.skipped ≤ (machine_in c).steps + 1 → IsFullAt at k
      → IfOk o (λ w. Steps w (machine_in c) (machine_by k)) → IfOk o (λ w. events_by k ≡ stepped_events w (events_of c)) → OnOk o (IsAtRest k)
  at_rest_searched t needs at ready more full made events = by o made events
    where
      by : (o : Result Stepped E) → IfOk o (λ w. Steps w (machine_in c) (machine_by k)) → IfOk o (λ w. events_by k ≡ stepped_events w (events_of c)) → OnOk o (IsAtRest k)
      by (Err e) made events = tt
      by (Ok w) made events = record {
        rests = searched_rests c k.core k.workers k.skipped few w made events same t needs at ready;
        few = (let s = searched_steps c k.core k.workers k.skipped few w made events same t needs in omega (arith, s, more));
        full = λ is. (let all = full is in let h = searched_rounds c k.core k.workers k.skipped few w made events same t needs at ready in omega (arith, all, h));
      }

  pub at_rest_plain : need (machine_in c) ≡ plain → Rests G.rules (start_of c) k.workers k.skipped (events_of c) → k.skipped ≤ (machine_in c).steps → IsFullAt (progress_of c) k
      → IfOk o (λ w. Steps w (machine_in c) (machine_by k)) → IfOk o (λ w. events_by k ≡ stepped_events w (events_of c)) → OnOk o (IsAtRest k)
  at_rest_plain needs rests more full made events = by o made events
    where
      by : (o : Result Stepped E) → IfOk o (λ w. Steps w (machine_in c) (machine_by k)) → IfOk o (λ w. events_by k ≡ stepped_events w (events_of c)) → OnOk o (IsAtRest k)
      by (Err e) made events = tt
      by (Ok w) made events = record {
        rests = plain_rests c k.core k.workers k.skipped few w made events same needs rests;
        few = (let s = plain_steps c k.core k.workers k.skipped few w made events same needs in omega (arith, s, more));
        full = λ is. (let all = full is in let h = plain_rounds c k.core k.workers k.skipped few w made events same needs in omega (arith, all, h));
      }
