-- A run that has ended stays as it is, so that a budget above its transitions gives the same text.
use Rattle.std.proofs.Common.{◌≡◌, ◌≢◌, ◌⊎◌, inl, inr, ◌∙◌, ℕ, zero, suc, ◌+◌, ◌-◌, ◌<◌, ◌≤◌, ◌++◌, [], ◌∷◌, List, length, length-append, drop, take, refl, ap, sym, arith, append-nil, append_assoc, None}
use Rattle.std.proofs.lemmas.List.{take-append-drop}
use Rattle.chr_semantics.specs.Names.{Names, VarNames}
use Rattle.chr_semantics.specs.Program.{Program, Query}
use Rattle.chr_semantics.specs.State.{State, Status, running, done, failed, faulted, start}
use Rattle.chr_semantics.specs.Step.{step, step_at, after}
use Rattle.chr_semantics.specs.Trace.{line, line_at}
use Rattle.chr_semantics.specs.Text.{line_texts, trace, outcome, lines_text, text}
use Rattle.chr_semantics.proofs.Counts.{after-add}
use Rattle.chr_machine.specs.MachineView.{Starts, Further}
use Rattle.chr_machine.specs.Model.{Model, state_in}
use Rattle.chr_trace.proofs.Bodies.{lines_text-append}
use Rattle.chr_run.specs.Sending.{end_lines, rest_text}

-- a state that has ended stays
pub step_ended : (p : Program) (s : State) (w : Status) → w ≢ running → step_at p s w ≡ s
step_ended p s running h = absurd (h refl)
step_ended p s done h = refl
step_ended p s failed h = refl
step_ended p s (faulted f) h = refl

line_ended : (p : Program) (s : State) (w : Status) → w ≢ running → line_at p s w ≡ None
line_ended p s running h = absurd (h refl)
line_ended p s done h = refl
line_ended p s failed h = refl
line_ended p s (faulted f) h = refl

after_ended : (p : Program) (s : State) (n : ℕ) → s.status ≢ running → after p s n ≡ s
after_ended p s zero h = refl
after_ended p s (suc n) h = ap (λ t. after p t n) (step_ended p s s.status h) ∙ after_ended p s n h

trace_ended : (names : Names) (vars : VarNames) (p : Program) (s : State) (k n : ℕ) → s.status ≢ running → trace names vars p s k n ≡ []
trace_ended names vars p s k zero h = refl
trace_ended names vars p s k (suc n) h =
    ap (λ l. line_texts names vars k l ++ trace names vars p (step p s) (k + 1) n) (line_ended p s s.status h)
    ∙ (ap (λ t. trace names vars p t (k + 1) n) (step_ended p s s.status h) ∙ trace_ended names vars p s (k + 1) n h)

trace-add : (names : Names) (vars : VarNames) (p : Program) (s : State) (k a b : ℕ) → trace names vars p s k (a + b) ≡ trace names vars p s k a ++ trace names vars p (after p s a) (k + a) b
trace-add names vars p s k zero b =
    let e : 0 + b ≡ b = omega arith in
    let f : k ≡ k + 0 = omega arith in
    ap (trace names vars p s k) e ∙ ap (λ j. trace names vars p s j b) f
trace-add names vars p s k (suc a) b =
    let e : suc a + b ≡ suc (a + b) = omega arith in
    let f : (k + 1) + a ≡ k + suc a = omega arith in
    ap (trace names vars p s k) e
    ∙ (ap (λ ls. line_texts names vars k (line p s) ++ ls) (trace-add names vars p (step p s) (k + 1) a b)
    ∙ (ap (λ j. line_texts names vars k (line p s) ++ (trace names vars p (step p s) (k + 1) a ++ trace names vars p (after p (step p s) a) j b)) f
    ∙ sym (append_assoc (line_texts names vars k (line p s)) (trace names vars p (step p s) (k + 1) a) (trace names vars p (after p (step p s) a) (k + suc a) b))))

-- k transitions say all of n where they are n, or where the run has ended with them
pub record Covers (p : Program) (s : State) (k n : ℕ) : Type 0 where
  pub state : after p s n ≡ after p s k
  pub lines : (names : Names) (vars : VarNames) → trace names vars p s 1 n ≡ trace names vars p s 1 k

-- where they are n
pub covers_same : (p : Program) (s : State) (k n : ℕ) → k ≡ n → Covers p s k n
covers_same p s k n e = record { state = ap (after p s) (sym e); lines = λ names vars. ap (trace names vars p s 1) (sym e) }

-- where the run has ended with them
pub covers_ended : (p : Program) (s : State) (k n : ℕ) → k ≤ n → (after p s k).status ≢ running → Covers p s k n
covers_ended p s k n within ended =
    let split : n ≡ k + (n - k) = omega arith in
    record {
      state = ap (after p s) split ∙ (after-add p s k (n - k) ∙ after_ended p (after p s k) (n - k) ended);
      lines = λ names vars.
          ap (trace names vars p s 1) split
          ∙ (trace-add names vars p s 1 k (n - k)
          ∙ (ap (λ ls. trace names vars p s 1 k ++ ls) (trace_ended names vars p (after p s k) (1 + k) (n - k) ended) ∙ append-nil _));
    }

-- how far a machine has come, from its start
pub record HasRun (names : Names) (p : Program) (q : Query) (k : ℕ) (m : Model) : Type 0 where
  pub state : state_in m ≡ after p (start q) k
  pub lines : m.lines ≡ trace names q.var_names p (start q) 1 k
  pub names_are : m.names ≡ names
  pub rules_are : m.rules ≡ p
  pub var_names_are : m.var_names ≡ q.var_names

-- a machine that has come k transitions further from its start
pub has_run : (names : Names) (p : Program) (q : Query) (k : ℕ) (old new : Model) → Starts names p q old → Further k old new → HasRun names p q k new
has_run names p q k old new at far = record {
  state = far.state_is ∙ λ i. after (at.rules_are i) (at.state_is i) k;
  lines = far.lines_are ∙ λ i. at.lines_are i ++ trace (at.names_are i) (at.var_names_are i) (at.rules_are i) (at.state_is i) (at.steps_are i + 1) k;
  names_are = far.same.names ∙ at.names_are;
  rules_are = far.same.rules ∙ at.rules_are;
  var_names_are = far.same.var_names ∙ at.var_names_are;
}

covers_performed : (p : Program) (s : State) (k n : ℕ) (m : Model) → state_in m ≡ after p s k → k ≤ n → (k ≡ n) ⊎ (m.status ≢ running) → Covers p s k n
covers_performed p s k n m is within (inl e) = covers_same p s k n e
covers_performed p s k n m is within (inr ended) = covers_ended p s k n within (λ e. ended (ap (λ (t : State). t.status) is ∙ e))

-- some lines are no empty text
lines_some : (ls : List (List ℕ)) → 0 < length ls → 0 < length (lines_text ls)
lines_some [] h = absurd (omega (arith, h))
lines_some (l ∷ ls) h =
    let whole = length-append (l ++ 10 ∷ []) (lines_text ls) in
    let line = length-append l (10 ∷ []) in
    omega (arith, whole, line)

end_some : (names : Names) (vars : VarNames) (p : Program) (s : State) (ls : List (List ℕ)) → 0 < length (lines_text (ls ++ outcome names vars p s))
end_some names vars p s ls =
    let sum = length-append ls (outcome names vars p s) in
    let one : 0 < length (outcome names vars p s) = omega arith in
    lines_some (ls ++ outcome names vars p s) (omega (arith, sum, one))

-- nor is what is left of a run with its end
pub rest_some : (m : Model) (sent : ℕ) → 0 < length (rest_text m sent)
rest_some m sent = end_some m.names m.var_names m.rules (state_in m) (drop sent m.lines)

-- nor is its whole text
pub text_some : (names : Names) (p : Program) (q : Query) (n : ℕ) → 0 < length (text names p q n)
text_some names p q n = end_some names q.var_names p (after p (start q) n) (trace names q.var_names p (start q) 1 n)

-- the text of a run is what was made of it, and a rest
pub record Begins (names : Names) (p : Program) (q : Query) (n : ℕ) (m : Model) : Type 0 where
  pub rest : List ℕ
  pub some : 0 < length rest
  pub whole : text names p q n ≡ lines_text m.lines ++ rest

-- of n transitions after k of them
pub begins : (names : Names) (p : Program) (q : Query) (k n : ℕ) (m : Model) → HasRun names p q k m → k ≤ n → Begins names p q n m
begins names p q k n m ran within =
    let s = start q in
    let split : n ≡ k + (n - k) = omega arith in
    let later = trace names q.var_names p (after p s k) (1 + k) (n - k) in
    let end = outcome names q.var_names p (after p s n) in
    let lines : trace names q.var_names p s 1 n ≡ m.lines ++ later = ap (trace names q.var_names p s 1) split ∙ (trace-add names q.var_names p s 1 k (n - k) ∙ ap (λ ls. ls ++ later) (sym ran.lines)) in
    record {
      rest = lines_text (later ++ end);
      some = end_some names q.var_names p (after p s n) later;
      whole = ap (λ ls. lines_text (ls ++ end)) lines ∙ (ap lines_text (append_assoc m.lines later end) ∙ lines_text-append m.lines (later ++ end));
    }

-- where all of it was made, the rest is what stands after the trace
pub record IsWhole (names : Names) (p : Program) (q : Query) (n : ℕ) (m : Model) : Type 0 where
  pub text_is : text names p q n ≡ lines_text (m.lines ++ end_lines m)
  pub status_is : m.status ≡ (after p (start q) n).status

-- after n transitions, or as many as there are
pub is_whole : (names : Names) (p : Program) (q : Query) (k n : ℕ) (m : Model) → HasRun names p q k m → k ≤ n → (k ≡ n) ⊎ (m.status ≢ running) → IsWhole names p q n m
is_whole names p q k n m ran within all =
    let covers = covers_performed p (start q) k n m ran.state within all in
    let state : after p (start q) n ≡ state_in m = covers.state ∙ sym ran.state in
    let lines : trace names q.var_names p (start q) 1 n ≡ m.lines = covers.lines names q.var_names ∙ sym ran.lines in
    record {
      text_is =
          let ns = sym ran.names_are in
          let vs = sym ran.var_names_are in
          let rs = sym ran.rules_are in
          λ i. lines_text (lines i ++ outcome (ns i) (vs i) (rs i) (state i));
      status_is = ap (λ (t : State). t.status) (sym state);
    }

-- the first lines and the rest are all lines
pub sent_and_rest : (m : Model) (sent : ℕ) → lines_text (m.lines ++ end_lines m) ≡ lines_text (take sent m.lines) ++ rest_text m sent
sent_and_rest m sent =
    ap (λ ls. lines_text (ls ++ end_lines m)) (sym (take-append-drop sent m.lines))
    ∙ (ap lines_text (append_assoc (take sent m.lines) (drop sent m.lines) (end_lines m)) ∙ lines_text-append (take sent m.lines) (drop sent m.lines ++ end_lines m))
