-- A run that went on so far, by the policy, is what its contract says.
use Rattle.std.proofs.Common.{◌≡◌, ◌≢◌, ◌⊎◌, inl, inr, ◌∙◌, ◌+◌, ◌-◌, ◌≤◌, ℕ, zero, suc, List, cond, false, None, ap, arith, refl, subst, sym}
use Rattle.chr_semantics.specs.Calls.{rise_by_calls}
use Rattle.chr_semantics.specs.Names.{Names}
use Rattle.chr_semantics.specs.Outcome.{outcome_of, run_refusal}
use Rattle.chr_semantics.specs.Program.{Program, Query}
use Rattle.chr_semantics.specs.Policy.{IsPolicy, IsTied}
use Rattle.chr_semantics.specs.Schedule.{Counts, Event, counts, progress}
use Rattle.chr_semantics.specs.Stamps.{stamp}
use Rattle.chr_semantics.specs.State.{State, Status, done, failed, faulted, running, start}
use Rattle.chr_semantics.specs.Step.{after, is_running, steps}
use Rattle.chr_semantics.proofs.Counts.{count-add}
use Rattle.chr_shelf.specs.declared.run.RunName.{Ghosts}
use Rattle.chr_machine.proofs.Starts.{first_start}
use Rattle.chr_core.specs.CoreView.{counts_view}
use Rattle.chr_core.specs.IsAt.{begun}
use Rattle.chr_core.specs.Outcomes.{IsOutcomeOf}
use Rattle.chr_policy.specs.CoordinatorView.{IsAtRest, IsMade, events_by, machine_by, names_by, query_by}
use Rattle.chr_policy.specs.declared.coordinator.Coordinator.{Coordinator}
use Rattle.chr_policy.specs.declared.coordinator.Made.{Made}
use Rattle.chr_policy.proofs.Cores.{state_is, steps_are}
use Rattle.chr_policy.proofs.Standings.{policy_of}
use Rattle.chr_run.specs.Headline.{IsOf, IsRun}
use Rattle.chr_run.specs.Turns.{IsThrough}
use Rattle.chr_run.specs.declared.result.Run.{Run}
use Rattle.chr_run.proofs.Ends.{Covers, HasRun, covers_ended, covers_same, has_run, step_ended}

not_running : (w : Status) → w ≢ running → is_running w ≡ false
not_running running h = absurd (h refl)
not_running done h = refl
not_running failed h = refl
not_running (faulted f) h = refl

-- no transition is made from a run that has ended
no_steps : (p : Program) (s : State) (n : ℕ) → s.status ≢ running → steps p s n ≡ 0
no_steps p s zero h = refl
no_steps p s (suc n) h =
    let rest = ap (λ (t : State). steps p t n) (step_ended p s s.status h) ∙ no_steps p s n h in
    let first : ◌≡◌ {A = ℕ} (cond (is_running s.status) 1 0) 0 = ap (λ b. cond b 1 0) (not_running s.status h) in
    omega (arith, rest, first)

same_steps : (p : Program) (s : State) (k n : ℕ) → k ≤ n → (k ≡ n) ⊎ ((after p s k).status ≢ running) → steps p s n ≡ steps p s k
same_steps p s k n within (inl e) = ap (steps p s) (sym e)
same_steps p s k n within (inr ended) =
    let split : n ≡ k + (n - k) = omega (arith, within) in
    let parts : steps p s (k + (n - k)) ≡ steps p s k + steps p (after p s k) (n - k) = count-add p (λ t. is_running t.status) s k (n - k) in
    let none = no_steps p (after p s k) (n - k) ended in
    ap (steps p s) split ∙ omega (arith, parts, none)

covers : (p : Program) (s : State) (k n : ℕ) → k ≤ n → (k ≡ n) ⊎ ((after p s k).status ≢ running) → Covers p s k n
covers p s k n within (inl e) = covers_same p s k n e
covers p s k n within (inr ended) = covers_ended p s k n within ended

module _ {J A : Type 0} {G : Ghosts J} (c : Coordinator J A G) where
  -- its machine stands where its transitions lead
  pub has_come : HasRun (names_by c) G.rules (query_by c) (machine_by c).steps (machine_by c)
  has_come = has_run (names_by c) G.rules (query_by c) (machine_by c).steps (begun (names_by c) G.rules (query_by c)) (machine_by c) (first_start (names_by c) G.rules (query_by c)) c.core.at.run

  -- and each of them was made
  steps_are_made : (let s = start (query_by c) in let k = (progress G.rules s (events_by c)).steps in k ≡ steps G.rules s k)
  steps_are_made = let same = steps_are c.core in let made = c.core.at.run.made in sym same ∙ sym made ∙ ap (steps G.rules (start (query_by c))) same

  module _ (n : ℕ) (through : IsThrough n (machine_by c)) where
    -- its rules
    abbrev pub p : Program
    p = G.rules

    -- where it begins
    abbrev pub s : State
    s = start (query_by c)

    -- how many Steps it has
    abbrev pub k : ℕ
    k = (progress p s (events_by c)).steps

    few : k ≤ n
    few = let same = steps_are c.core in let within = through.within in omega (arith, same, within)

    all : (k ≡ n) ⊎ ((after p s k).status ≢ running)
    all = let went = through.all in elim went [
      | inl e ↦ inl (sym (steps_are c.core) ∙ e)
      | inr ended ↦ inr (λ h. ended (ap (λ (t : State). t.status) (state_is c.core) ∙ h))
    ]

    covered : Covers p s k n
    covered = covers p s k n few all

    no_more : steps p s n ≡ steps p s k
    no_more = same_steps p s k n few all

    -- its Steps are these transitions
    all_made : k ≡ steps p s n
    all_made = steps_are_made ∙ sym no_more

    -- what it has made is what the contract of a run says
    is_run_here : {B : Type 0} (made : Made B) (r : Run B) → run_refusal n c.workers ≡ None → IsAtRest c → IsMade c made → IsOf made r → IsRun (names_by c) p (query_by c) n c.workers r
    is_run_here made r allowed rests is of =
        let es = sym (of.schedule_is ∙ is.schedule_is) in
        let counted = sym (of.counts_are ∙ is.counts_are) in
        let skipped = sym (of.skipped_are ∙ is.skipped_are) in
        let outcome : IsOutcomeOf (names_by c) p (query_by c) k r.outcome = subst (IsOutcomeOf (names_by c) p (query_by c) k) (sym of.outcome_is) is.outcome in
        let tied : IsTied p s n (counts p s (events_by c)) (events_by c) = record { none_refused = rests.rests.keeps.allowed; same_state = sym covered.state; none_idle = all_made; counts_are = refl } in
        let policy : IsPolicy p s c.workers c.skipped (events_by c) = policy_of p s (events_by c) c.workers c.skipped rests.rests (let few = rests.few in let same = steps_are c.core in omega (arith, few, same)) in
        record {
          allowed = allowed;
          outcome = record {
            outcome_is = outcome.outcome_is ∙ sym (λ i. outcome_of (covered.state i) (no_more i) (covered.lines (names_by c) (query_by c).var_names i) (query_by c).var_names);
            stamps_are = λ x. outcome.stamps_are x ∙ ap (λ m. stamp p (rise_by_calls p) s m x) (sym no_more);
          };
          tied = subst (λ (fs : List Event). IsTied p s n (counts_view r.counts) fs) es (subst (λ (k : Counts). IsTied p s n k (events_by c)) counted tied);
          policy = subst (λ (fs : List Event). IsPolicy p s c.workers r.skipped fs) es (subst (λ (k : ℕ). IsPolicy p s c.workers k (events_by c)) skipped policy);
        }

    -- by the names, the query and the workers that it began with
    pub is_run : {B : Type 0} (names : Names) (q : Query) (workers : ℕ) (made : Made B) (r : Run B) → names_by c ≡ names → query_by c ≡ q → c.workers ≡ workers
        → run_refusal n workers ≡ None → IsAtRest c → IsMade c made → IsOf made r → IsRun names p q n workers r
    is_run names q workers made r names_are query_is workers_are allowed rests is of =
        let here = is_run_here made r (subst (λ (w : ℕ). run_refusal n w ≡ None) (sym workers_are) allowed) rests is of in
        subst (λ (w : ℕ). IsRun names p q n w r) workers_are (subst (λ (x : Query). IsRun names p x n c.workers r) query_is (subst (λ (x : Names). IsRun x p (query_by c) n c.workers r) names_are here))
