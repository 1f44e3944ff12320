-- Runs, a transition at a time.
use Rattle.std.proofs.Common.{◌≡◌, ◌≢◌, ◌<◌, ◌≤◌, ◌∙◌, ◌-◌, Ok, Err, ℕ, zero, suc, ◌+◌, false, ◌++◌, List, ap, sym, refl, subst, arith, add-one, append_assoc, append-nil, add-zero}
use Rattle.chr_semantics.specs.Names.{Names, VarNames}
use Rattle.chr_semantics.specs.Program.{Program}
use Rattle.chr_semantics.specs.State.{State, Status, running, done, failed, faulted}
use Rattle.chr_semantics.specs.Step.{step, after, is_running, step_at, steps}
use Rattle.chr_semantics.proofs.Counts.{count-add}
use Rattle.chr_semantics.specs.Trace.{line}
use Rattle.chr_semantics.specs.Text.{line_texts, trace}
use Rattle.std.specs.declared.alloc.AllocError.{AllocError}
use Rattle.chr_semantics.specs.declared.limits.TheConstants.{MAX_TRANSITIONS}
use Rattle.chr_machine.specs.MachineView.{Further, IsDue, Moves, Runs}
use Rattle.chr_machine.specs.Model.{Model, state_in}
use Rattle.chr_machine.specs.declared.stepped.Stepped.TheVariants.{Moved, Ended, Spent}

after-suc : (p : Program) (s : State) (n : ℕ) → after p s (suc n) ≡ step p (after p s n)
after-suc p s zero = refl
after-suc p s (suc n) = after-suc p (step p s) n

after-more : (p : Program) (s : State) (n : ℕ) → after p s (n + 1) ≡ step p (after p s n)
after-more p s n = ap (after p s) (add-one n) ∙ after-suc p s n

trace-more : (names : Names) (vars : VarNames) (p : Program) (s : State) (k n : ℕ) → trace names vars p s k (suc n) ≡ trace names vars p s k n ++ line_texts names vars (k + n) (line p (after p s n))
trace-more names vars p s k zero = simp (append-nil, add-zero)
trace-more names vars p s k (suc n) =
    let e : (k + 1) + n ≡ k + suc n = omega arith in
    rw (trace-more names vars p (step p s) (k + 1) n, e, append_assoc)

-- one more transition, from a running state
steps-more : (p : Program) (s : State) (n : ℕ) → (after p s n).status ≡ running → steps p s n ≡ n → steps p s (n + 1) ≡ n + 1
steps-more p s n r e =
    let more : steps p s (n + 1) ≡ steps p s n + steps p (after p s n) 1 = count-add p (λ t. is_running t.status) s n 1 in
    let one : steps p (after p s n) 1 ≡ 1 = rw r refl in
    omega (arith, more, one, e)

-- an ended state is its own step
step-ended_at : (p : Program) (s : State) (w : Status) → (w ≡ running → ⊥) → (is_running w ≡ false) × (step_at p s w ≡ s)
step-ended_at p s running h = absurd (h refl)
step-ended_at p s done h = (refl, refl)
step-ended_at p s failed h = (refl, refl)
step-ended_at p s (faulted f) h = (refl, refl)

-- no step from an ended state is a transition
steps-ended : (p : Program) (s : State) (n : ℕ) → (s.status ≡ running → ⊥) → steps p s n ≡ 0
steps-ended p s zero h = refl
steps-ended p s (suc n) h =
    let at_end = step-ended_at p s s.status h in
    let rest : steps p (step p s) n ≡ 0 = ap (λ t. steps p t n) at_end.1 ∙ steps-ended p s n h in
    rw at_end.0 (omega (arith, rest))

-- where the run has ended after k transitions, the first n steps have no more
pub steps-all : (p : Program) (s t : State) (k n : ℕ) → k ≤ n → steps p s k ≡ k → t ≡ after p s k → (t.status ≡ running → ⊥) → k ≡ steps p s n
steps-all p s t k n few made at_end ended =
    let sum : k + (n - k) ≡ n = omega arith in
    let parts : steps p s (k + (n - k)) ≡ steps p s k + steps p (after p s k) (n - k) = count-add p (λ u. is_running u.status) s k (n - k) in
    let last : steps p (after p s k) (n - k) ≡ 0 = ap (λ u. steps p u (n - k)) (sym at_end) ∙ steps-ended p t (n - k) ended in
    let all : steps p s (k + (n - k)) ≡ steps p s n = ap (steps p s) sum in
    omega (arith, parts, last, made, all)

pub further_none : (m : Model) → Further 0 m m
further_none m = record { made = refl; state_is = refl; lines_are = sym (append-nil _); steps_are = omega arith; same = record { names = refl; rules = refl; var_names = refl } }

pub further_more : (n : ℕ) (a b c : Model) → Further n a b → Moves b c → Further (n + 1) a c
further_more n a b c r m = record {
  made = steps-more a.rules (state_in a) n (ap (λ (s : State). s.status) (sym r.state_is) ∙ m.running_is) r.made;
  state_is = m.state_is ∙ (ap (λ (p : Program). step p (state_in b)) r.same.rules ∙ (ap (step a.rules) r.state_is ∙ sym (after-more a.rules (state_in a) n)));
  lines_are =
      let e : b.steps + 1 ≡ (a.steps + 1) + n = omega (arith, r.steps_are) in
      let same_last : line_texts b.names b.var_names (b.steps + 1) (line b.rules (state_in b)) ≡ line_texts a.names a.var_names ((a.steps + 1) + n) (line a.rules (after a.rules (state_in a) n)) =
      λ k. line_texts (r.same.names k) (r.same.var_names k) (e k) (line (r.same.rules k) (r.state_is k))
      in
      m.lines_are ∙ (ap (λ (ls : List (List ℕ)). ls ++ line_texts b.names b.var_names (b.steps + 1) (line b.rules (state_in b))) r.lines_are
      ∙ (ap (λ (l : List (List ℕ)). (a.lines ++ trace a.names a.var_names a.rules (state_in a) (a.steps + 1) n) ++ l) same_last
      ∙ rw (add-one n, trace-more a.names a.var_names a.rules (state_in a) (a.steps + 1) n, append_assoc)));
  steps_are = omega (arith, m.steps_are, r.steps_are);
  same = record { names = m.same.names ∙ r.same.names; rules = m.same.rules ∙ r.same.rules; var_names = m.same.var_names ∙ r.same.var_names };
}

pub further_same : (n : ℕ) (a b c : Model) → Further n a b → c ≡ b → Further n a c
further_same n a b c r e = subst (Further n a) (sym e) r

-- this number of transitions stands between the two
counted : (k : ℕ) (a b : Model) → Further k a b → b.steps - a.steps ≡ k
counted k a b r = omega (arith, r.steps_are)

-- how a run stops
module _ (n k : ℕ) (a m b : Model) (r : Further k a m) (same : b ≡ m) where
  at_end : Further (b.steps - a.steps) a b
  at_end = subst (λ (i : ℕ). Further i a b) (sym (counted k a b (further_same k a m b r same))) (further_same k a m b r same)

  made_is : b.steps - a.steps ≡ k
  made_is = counted k a b (further_same k a m b r same)

  pub runs_ended : k ≤ n → m.status ≢ running → Runs (Ok Ended) n a b
  runs_ended within ended =
      let stands : b.status ≢ running = λ h. ended (sym (ap (λ (x : Model). x.status) same) ∙ h) in
      let all : k ≡ steps a.rules (state_in a) n = steps-all a.rules (state_in a) (state_in m) k n within r.made r.state_is ended in
      record { further = at_end; stops = (omega (arith, made_is, within), made_is ∙ all, stands); fewer = tt; due = tt }

  pub runs_spent : k < n → m.status ≡ running → MAX_TRANSITIONS ≤ m.steps → Runs (Ok Spent) n a b
  runs_spent less runs all =
      let steps_same = ap (λ (x : Model). x.steps) same in
      record { further = at_end; stops = (omega (arith, made_is, less), ap (λ (x : Model). x.status) same ∙ runs, omega (arith, steps_same, all)); fewer = tt; due = tt }

  pub runs_moved : k ≡ n → m.status ≡ running → Runs (Ok Moved) n a b
  runs_moved all runs = record { further = at_end; stops = (made_is ∙ all, ap (λ (x : Model). x.status) same ∙ runs); fewer = tt; due = tt }

  pub runs_refused : k < n → IsDue m → (e : AllocError) → Runs (Err e) n a b
  runs_refused less due e = record { further = at_end; stops = tt; fewer = omega (arith, made_is, less); due = subst IsDue (sym same) due }
