-- What a run comes to, by the transitions that it made.
use Rattle.std.proofs.Common.{◌≡◌, ◌≢◌, ◌∙◌, ◌≤◌, ℕ, zero, suc, ◌+◌, ◌-◌, List, [], ◌++◌, None, add-zero, append_assoc, append-nil, ap, arith, refl, subst, sym}
use Rattle.chr_machine.specs.MachineView.{Further, Starts, Stops}
use Rattle.chr_machine.specs.Model.{Model, state_in}
use Rattle.chr_machine.specs.declared.stepped.Stepped.{Stepped}
use Rattle.chr_machine.specs.declared.stepped.Stepped.TheVariants.{Moved, Ended, Spent}
use Rattle.chr_semantics.proofs.Counts.{after-add}
use Rattle.chr_semantics.specs.Names.{Names, VarNames}
use Rattle.chr_semantics.specs.Outcome.{outcome_after, outcome_of}
use Rattle.chr_semantics.specs.Program.{Program, Query}
use Rattle.chr_semantics.specs.State.{State, Status, done, failed, faulted, running, start}
use Rattle.chr_semantics.specs.Step.{after, step, step_at, steps}
use Rattle.chr_semantics.specs.Text.{line_texts, trace}
use Rattle.chr_semantics.specs.Trace.{line, line_at}
use Rattle.chr_semantics.specs.declared.limits.TheConstants.{MAX_TRANSITIONS}

module _ (names : Names) (vars : VarNames) (p : Program) where
  -- a run that has ended stays as it is, and has no line
  ended_step : (s : State) (w : Status) → w ≢ running → (step_at p s w ≡ s) × (line_at p s w ≡ None)
  ended_step s running h = absurd (h refl)
  ended_step s done h = (refl, refl)
  ended_step s failed h = (refl, refl)
  ended_step s (faulted f) h = (refl, refl)

  ended_after : (s : State) (m : ℕ) → s.status ≢ running → after p s m ≡ s
  ended_after s zero h = refl
  ended_after s (suc m) h = ap (λ (t : State). after p t m) (ended_step s s.status h).0 ∙ ended_after s m h

  ended_trace : (s : State) (k m : ℕ) → s.status ≢ running → trace names vars p s k m ≡ []
  ended_trace s k zero h = refl
  ended_trace s k (suc m) h =
      ap (λ (l : List (List ℕ)). l ++ trace names vars p (step p s) (k + 1) m) (ap (line_texts names vars k) (ended_step s s.status h).1)
      ∙ (ap (λ (t : State). trace names vars p t (k + 1) m) (ended_step s s.status h).0 ∙ ended_trace s (k + 1) m h)

  -- the lines of the first transitions, and of those after them
  trace_parts : (s : State) (k n m : ℕ) → trace names vars p s k (n + m) ≡ trace names vars p s k n ++ trace names vars p (after p s n) (k + n) m
  trace_parts s k zero m =
      let none : 0 + m ≡ m = omega arith in
      ap (trace names vars p s k) none ∙ ap (λ (i : ℕ). trace names vars p s i m) (sym (add-zero k))
  trace_parts s k (suc n) m =
      let e : (k + 1) + n ≡ k + suc n = omega arith in
      let more : suc n + m ≡ suc (n + m) = omega arith in
      ap (trace names vars p s k) more ∙ (ap (λ (l : List (List ℕ)). line_texts names vars k (line p s) ++ l) (trace_parts (step p s) (k + 1) n m)
      ∙ (sym (append_assoc (line_texts names vars k (line p s)) (trace names vars p (step p s) (k + 1) n) (trace names vars p (after p (step p s) n) ((k + 1) + n) m))
      ∙ ap (λ (i : ℕ). (line_texts names vars k (line p s) ++ trace names vars p (step p s) (k + 1) n) ++ trace names vars p (after p (step p s) n) i m) e))

  -- where a run has ended after k transitions, n transitions are these
  all_after : (s : State) (k n : ℕ) → k ≤ n → (after p s k).status ≢ running → after p s k ≡ after p s n
  all_after s k n few ended =
      let sum : k + (n - k) ≡ n = omega arith in
      sym (ap (after p s) (sym sum) ∙ (after-add p s k (n - k) ∙ ended_after (after p s k) (n - k) ended))

  all_lines : (s : State) (k n : ℕ) → k ≤ n → (after p s k).status ≢ running → trace names vars p s 1 k ≡ trace names vars p s 1 n
  all_lines s k n few ended =
      let sum : k + (n - k) ≡ n = omega arith in
      sym (ap (trace names vars p s 1) (sym sum) ∙ (trace_parts s 1 k (n - k)
      ∙ (ap (λ (l : List (List ℕ)). trace names vars p s 1 k ++ l) (ended_trace (after p s k) (1 + k) (n - k) ended) ∙ append-nil (trace names vars p s 1 k))))

-- the first k transitions, which are all of n, or all that there are
module _ (names : Names) (p : Program) (q : Query) (n k : ℕ) (last : State) (lines : List (List ℕ)) (made : steps p (start q) k ≡ k) (state_is : last ≡ after p (start q) k) (lines_are : lines ≡ trace names q.var_names p (start q) 1 k) where
  all : k ≡ n → outcome_of last k lines q.var_names ≡ outcome_after names p q n
  all e =
      let one : last ≡ after p (start q) n = state_is ∙ ap (after p (start q)) e in
      let two : k ≡ steps p (start q) n = sym made ∙ ap (steps p (start q)) e in
      let three : lines ≡ trace names q.var_names p (start q) 1 n = lines_are ∙ ap (trace names q.var_names p (start q) 1) e in
      λ i. outcome_of (one i) (two i) (three i) q.var_names

  ended : k ≤ n → k ≡ steps p (start q) n → last.status ≢ running → outcome_of last k lines q.var_names ≡ outcome_after names p q n
  ended few two over =
      let end : (after p (start q) k).status ≢ running = subst (λ (s : State). s.status ≢ running) state_is over in
      let one : last ≡ after p (start q) n = state_is ∙ all_after names q.var_names p (start q) k n few end in
      let three : lines ≡ trace names q.var_names p (start q) 1 n = lines_are ∙ all_lines names q.var_names p (start q) k n few end in
      λ i. outcome_of (one i) (two i) (three i) q.var_names

-- what a machine has come to that was started on a query, and made n transitions, or fewer where the run ended
module _ (names : Names) (p : Program) (q : Query) (n : ℕ) (first last : Model) (starts : Starts names p q first) (further : Further (last.steps - first.steps) first last) where
  count : last.steps - first.steps ≡ last.steps
  count = omega (arith, starts.steps_are)

  made : steps p (start q) last.steps ≡ last.steps
  made = subst (λ (k : ℕ). steps p (start q) k ≡ k) count
      (subst (λ (s : State). steps p s (last.steps - first.steps) ≡ last.steps - first.steps) starts.state_is
      (subst (λ (r : Program). steps r (state_in first) (last.steps - first.steps) ≡ last.steps - first.steps) starts.rules_are further.made))

  state_is : state_in last ≡ after p (start q) last.steps
  state_is = further.state_is ∙ (λ i. after (starts.rules_are i) (starts.state_is i) (count i))

  lines_are : last.lines ≡ trace names q.var_names p (start q) 1 last.steps
  lines_are =
      let one : first.steps + 1 ≡ 1 = omega (arith, starts.steps_are) in
      further.lines_are ∙ (λ i. starts.lines_are i ++ trace (starts.names_are i) (starts.var_names_are i) (starts.rules_are i) (starts.state_is i) (one i) (count i))

  named : outcome_of (state_in last) last.steps last.lines last.var_names ≡ outcome_of (state_in last) last.steps last.lines q.var_names
  named = ap (outcome_of (state_in last) last.steps last.lines) (further.same.var_names ∙ starts.var_names_are)

  pub run_is : (stepped : Stepped) → Stops stepped n (last.steps - first.steps) first last → n ≤ MAX_TRANSITIONS → outcome_of (state_in last) last.steps last.lines last.var_names ≡ outcome_after names p q n
  run_is Moved stops small = named ∙ all names p q n last.steps (state_in last) last.lines made state_is lines_are (sym count ∙ stops.0)
  run_is Ended stops small =
      let few : last.steps ≤ n = omega (arith, count, stops.0) in
      let whole : last.steps ≡ steps p (start q) n = sym count ∙ (stops.1 ∙ (λ i. steps (starts.rules_are i) (starts.state_is i) n)) in
      named ∙ ended names p q n last.steps (state_in last) last.lines made state_is lines_are few whole stops.2
  run_is Spent stops small = absurd (omega (arith, count, small, stops.0, stops.2))
