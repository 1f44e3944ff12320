-- What has been performed of the first events of a schedule tells all that the next one asks of them.
use Rattle.std.proofs.Common.{◌≡◌, ◌∙◌, ℕ, zero, suc, ◌+◌, Bool, true, false, cond, not, List, [], ◌∷◌, ◌++◌, length, map, Option, Some, None, ap, arith, refl, subst, sym, true≢false, add-zero, append-nil, append_assoc}
use Rattle.std.proofs.lemmas.Bool.{not-true}
use Rattle.std.proofs.lemmas.List.{length-map, map-append}
use Rattle.std.specs.List.{fold, list_any}
use Rattle.std.specs.Prelude.{nat_lt, option_map, slice_get}
use Rattle.chr_semantics.specs.Names.{Names, VarNames}
use Rattle.chr_semantics.specs.Outcome.{outcome_after, outcome_of}
use Rattle.chr_semantics.specs.Program.{Program, Query}
use Rattle.chr_semantics.specs.Schedule.{Event, Progress, Refusal, Took, arrive, double, first_refusal, is_idle, is_served, kept, late, move, next, no_progress, performed, progress, publish, refusal, round_refusal, stranger, task_refusal, too_many_rounds, took, unknown_round, with_step, with_took, without_idle}
use Rattle.chr_semantics.specs.State.{State, Status, done, failed, faulted, running, start}
use Rattle.chr_semantics.specs.Step.{after, is_running, step, step_at, steps}
use Rattle.chr_semantics.specs.Tasks.{Task, needed_task, same_task, tasks}
use Rattle.chr_semantics.specs.Text.{line_texts, trace}
use Rattle.chr_semantics.specs.Trace.{line, line_at}
use Rattle.chr_semantics.specs.declared.limits.TheConstants.{KEPT_ROUNDS, MAX_ROUNDS}
use Rattle.chr_semantics.proofs.Counts.{after-add, count-add}
use Rattle.chr_laws.specs.Replay.{ReplayLaw, or_later}

-- one event more
more_from : (p : Program) (q : State) (es : List Event) (g : Progress) (e : Event)
    → without_idle p q g (es ++ e ∷ []) ≡ cond (is_idle p q (fold (next p q) g es) e) (without_idle p q g es) (without_idle p q g es ++ e ∷ [])
more_from p q [] g e = refl
more_from p q (d ∷ es) g e = by (is_idle p q g d) (is_idle p q (fold (next p q) (next p q g d) es) e) _ _ (more_from p q es (next p q g d) e)
  where
    by : (b c : Bool) (l m : List Event) → l ≡ cond c m (m ++ e ∷ []) → cond b l (d ∷ l) ≡ cond c (cond b m (d ∷ m)) (cond b m (d ∷ m) ++ e ∷ [])
    by true true l m h = h
    by true false l m h = h
    by false true l m h = ap (λ (l : List Event). d ∷ l) h
    by false false l m h = ap (λ (l : List Event). d ∷ l) h

-- the first refusal
first_from : (p : Program) (q : State) (es fs : List Event) (g : Progress) (k : ℕ)
    → first_refusal p q g k (es ++ fs) ≡ or_later (first_refusal p q g k es) (first_refusal p q (fold (next p q) g es) (k + length es) fs)
first_from p q [] fs g k = ap (λ (n : ℕ). first_refusal p q g n fs) (sym (add-zero k))
first_from p q (e ∷ es) fs g k =
    by (refusal p q g k e) _ _ _
    (first_from p q es fs (next p q g e) (k + 1) ∙ ap (λ (n : ℕ). or_later (first_refusal p q (next p q g e) (k + 1) es) (first_refusal p q (fold (next p q) (next p q g e) es) n fs)) (omega arith))
  where
    by : (o l m n : Option Refusal) → l ≡ or_later m n
        → elim o [ Some r ↦ Some r | None ↦ l ] ≡ or_later (elim o [ Some r ↦ Some r | None ↦ m ]) n
    by None l m n h = h
    by (Some r) l m n h = refl

-- a run that has ended
module _ (p : Program) where
  Ended : State → Type 0
  Ended s = is_running s.status ≡ false

  ended_step_at : (s : State) (w : Status) → is_running w ≡ false → step_at p s w ≡ s
  ended_step_at s running e = absurd (true≢false e)
  ended_step_at s done e = refl
  ended_step_at s failed e = refl
  ended_step_at s (faulted f) e = refl

  ended_line_at : (s : State) (w : Status) → is_running w ≡ false → line_at p s w ≡ None
  ended_line_at s running e = absurd (true≢false e)
  ended_line_at s done e = refl
  ended_line_at s failed e = refl
  ended_line_at s (faulted f) e = refl

  ended_after : (s : State) (m : ℕ) → is_running s.status ≡ false → after p s m ≡ s
  ended_after s zero e = refl
  ended_after s (suc m) e = ap (λ (t : State). after p t m) (ended_step_at s s.status e) ∙ ended_after s m e

  ended_steps : (s : State) (m : ℕ) → is_running s.status ≡ false → steps p s m ≡ 0
  ended_steps s zero e = refl
  ended_steps s (suc m) e =
      let rest : steps p (step p s) m ≡ 0 = ap (λ (t : State). steps p t m) (ended_step_at s s.status e) ∙ ended_steps s m e in
      rw e (omega (arith, rest))

  ended_trace : (names : Names) (vars : VarNames) (s : State) (k m : ℕ) → is_running s.status ≡ false → trace names vars p s k m ≡ []
  ended_trace names vars s k zero e = refl
  ended_trace names vars s k (suc m) e =
      ap (λ (l : List (List ℕ)). l ++ trace names vars p (step p s) (k + 1) m) (ap (line_texts names vars k) (ended_line_at s s.status e))
      ∙ (ap (λ (t : State). trace names vars p t (k + 1) m) (ended_step_at s s.status e) ∙ ended_trace names vars s (k + 1) m e)

  trace_parts : (names : Names) (vars : VarNames) (s : State) (k n m : ℕ) → trace names vars p s k (n + m) ≡ trace names vars p s k n ++ trace names vars p (after p s n) (k + n) m
  trace_parts names vars s k zero m =
      let none : 0 + m ≡ m = omega arith in
      ap (trace names vars p s k) none ∙ ap (λ (i : ℕ). trace names vars p s i m) (sym (add-zero k))
  trace_parts names vars s k (suc n) m =
      let e : (k + 1) + n ≡ k + suc n = omega arith in
      let more : suc n + m ≡ suc (n + m) = omega arith in
      ap (trace names vars p s k) more ∙ (ap (λ (l : List (List ℕ)). line_texts names vars k (line p s) ++ l) (trace_parts names vars (step p s) (k + 1) n m)
      ∙ (sym (append_assoc (line_texts names vars k (line p s)) (trace names vars p (step p s) (k + 1) n) (trace names vars p (after p (step p s) n) ((k + 1) + n) m)) ∙ ap (λ (i : ℕ). (line_texts names vars k (line p s) ++ trace names vars p (step p s) (k + 1) n) ++ trace names vars p (after p (step p s) n) i m) e))

  -- two numbers of Steps: the same, or both past the end
  record IsPast (q : State) (g h : ℕ) : Type 0 where
    pub beyond : ℕ
    pub is : g ≡ h + beyond
    pub over : is_running (after p q h).status ≡ true → beyond ≡ 0

  by_end : {C : Type 0} (b : Bool) → (b ≡ true → C) → (b ≡ false → C) → C
  by_end true x y = x refl
  by_end false x y = y refl

  past_state : (q : State) (g h : ℕ) → IsPast q g h → after p q g ≡ after p q h
  past_state q g h w = by_end (is_running (after p q h).status)
      (λ e. ap (after p q) (w.is ∙ (ap (λ (m : ℕ). h + m) (w.over e) ∙ add-zero h)))
      (λ e. ap (after p q) w.is ∙ (after-add p q h w.beyond ∙ ended_after (after p q h) w.beyond e))

  past_same : (q : State) (h : ℕ) → IsPast q h h
  past_same q h = record { beyond = 0; is = sym (add-zero h); over = λ e. refl }

  past_outcome : (names : Names) (r : Query) (g h : ℕ) → IsPast (start r) g h → outcome_after names p r h ≡ outcome_after names p r g
  past_outcome names r g h w = by_end (is_running (after p (start r) h).status)
      (λ e. ap (outcome_after names p r) (sym (w.is ∙ (ap (λ (m : ℕ). h + m) (w.over e) ∙ add-zero h))))
      (λ e.
      let q = start r in
      let state : after p q h ≡ after p q g = sym (past_state q g h w) in
      let parts : steps p q (h + w.beyond) ≡ steps p q h + steps p (after p q h) w.beyond = count-add p (λ t. is_running t.status) q h w.beyond in
      let rest : steps p (after p q h) w.beyond ≡ 0 = ended_steps (after p q h) w.beyond e in
      let made : steps p q h ≡ steps p q (h + w.beyond) = omega (arith, parts, rest) in
      let made_all : steps p q h ≡ steps p q g = made ∙ ap (steps p q) (sym w.is) in
      let lines : trace names r.var_names p q 1 h ≡ trace names r.var_names p q 1 g =
      sym (ap (trace names r.var_names p q 1) w.is ∙ (trace_parts names r.var_names q 1 h w.beyond
      ∙ (ap (λ (l : List (List ℕ)). trace names r.var_names p q 1 h ++ l) (ended_trace names r.var_names (after p q h) (1 + h) w.beyond e) ∙ append-nil _)))
      in
      λ i. outcome_of (state i) (made_all i) (lines i) r.var_names)

-- how far a schedule has come, and the events of it that were performed
module _ (p : Program) (q : State) where
  record Alike (g h : Progress) : Type 0 where
    pub steps_are : IsPast p q g.steps h.steps
    pub rounds_are : map (after p q) g.rounds ≡ map (after p q) h.rounds
    pub kept_are : g.kept ≡ h.kept

  alike_length : (g h : Progress) → Alike g h → length g.rounds ≡ length h.rounds
  alike_length g h w = sym (length-map g.rounds (after p q)) ∙ (ap (λ (l : List State). length l) w.rounds_are ∙ length-map h.rounds (after p q))

  alike_took : (g h : Progress) (i x : ℕ) → Alike g h → took g i x ≡ took h i x
  alike_took g h i x w = let l = alike_length g h w in λ j. cond (nat_lt (i + KEPT_ROUNDS) (l j)) (late i) (cond (list_any (same_task (i, x)) (w.kept_are j)) (double i) (kept i))

  after_took : (g h : Progress) (x : ℕ) (a : Took) → Alike g h → Alike (with_took g x a) (with_took h x a)
  after_took g h x (kept i) w = record { steps_are = w.steps_are; rounds_are = w.rounds_are; kept_are = ap (λ (l : List (ℕ × ℕ)). l ++ (i, x) ∷ []) w.kept_are }
  after_took g h x (late i) w = record { steps_are = w.steps_are; rounds_are = w.rounds_are; kept_are = w.kept_are }
  after_took g h x (double i) w = record { steps_are = w.steps_are; rounds_are = w.rounds_are; kept_are = w.kept_are }
  after_took g h x stranger w = w

  -- what a Step adds
  record IsMoved (g h : Progress) : Type 0 where
    pub steps_are : h.steps ≡ g.steps + 1
    pub rounds_are : h.rounds ≡ g.rounds
    pub kept_are : h.kept ≡ g.kept

  moved : (g : Progress) (o : Option Task) → IsMoved g (with_step p q g o)
  moved g None = record { steps_are = refl; rounds_are = refl; kept_are = refl }
  moved g (Some t) = by (is_served p q g t)
    where
      by : (b : Bool) → IsMoved g (elim b [ true ↦ record g { steps = g.steps + 1; used = g.used + 1 } | false ↦ record g { steps = g.steps + 1; own = g.own + 1 } ])
      by true = record { steps_are = refl; rounds_are = refl; kept_are = refl }
      by false = record { steps_are = refl; rounds_are = refl; kept_are = refl }

  after_step : (g h g1 h1 : Progress) → Alike g h → is_running (after p q g.steps).status ≡ true → IsMoved g g1 → IsMoved h h1 → Alike g1 h1
  after_step g h g1 h1 w run a b =
      let at_h : is_running (after p q h.steps).status ≡ true = ap (λ (s : State). is_running s.status) (sym (past_state p q g.steps h.steps w.steps_are)) ∙ run in
      let same : g.steps ≡ h.steps = w.steps_are.is ∙ (ap (λ (m : ℕ). h.steps + m) (w.steps_are.over at_h) ∙ add-zero h.steps) in
      let one : g1.steps ≡ h1.steps = a.steps_are ∙ (ap (λ (m : ℕ). m + 1) same ∙ sym b.steps_are) in
      record {
        steps_are = subst (λ (m : ℕ). IsPast p q m h1.steps) (sym one) (past_same p q h1.steps);
        rounds_are = ap (map (after p q)) a.rounds_are ∙ (w.rounds_are ∙ ap (map (after p q)) (sym b.rounds_are));
        kept_are = a.kept_are ∙ (w.kept_are ∙ sym b.kept_are);
      }

  after_idle : (g h g1 : Progress) → Alike g h → is_running (after p q g.steps).status ≡ false → IsMoved g g1 → Alike g1 h
  after_idle g h g1 w ended a =
      let at_h : is_running (after p q h.steps).status ≡ false = ap (λ (s : State). is_running s.status) (sym (past_state p q g.steps h.steps w.steps_are)) ∙ ended in
      record {
        steps_are = record {
          beyond = w.steps_are.beyond + 1;
          is = (let e = w.steps_are.is in let f = a.steps_are in omega (arith, e, f));
          over = λ e. absurd (true≢false (sym e ∙ at_h));
        };
        rounds_are = ap (map (after p q)) a.rounds_are ∙ w.rounds_are;
        kept_are = a.kept_are ∙ w.kept_are;
      }

  after_event : (g h : Progress) (e : Event) → is_idle p q g e ≡ false → Alike g h → Alike (next p q g e) (next p q h e)
  after_event g h publish busy w = record {
    steps_are = w.steps_are;
    rounds_are = map-append (after p q) g.rounds (g.steps ∷ []) ∙ ((λ j. w.rounds_are j ++ past_state p q g.steps h.steps w.steps_are j ∷ []) ∙ sym (map-append (after p q) h.rounds (h.steps ∷ [])));
    kept_are = w.kept_are;
  }
  after_event g h (arrive i x) busy w = subst (λ (a : Took). Alike (with_took g x (took g i x)) (with_took h x a)) (alike_took g h i x w) (after_took g h x (took g i x) w)
  after_event g h move busy w =
      after_step g h (next p q g move) (next p q h move) w (running_from (is_running (after p q g.steps).status) busy) (moved g (needed_task p (after p q g.steps))) (moved h (needed_task p (after p q h.steps)))
    where
      running_from : (b : Bool) → not b ≡ false → b ≡ true
      running_from true e = refl
      running_from false e = absurd (true≢false e)

  after_rest : (g h : Progress) (e : Event) → is_idle p q g e ≡ true → Alike g h → Alike (next p q g e) h
  after_rest g h publish idle w = absurd (true≢false (sym idle))
  after_rest g h (arrive i x) idle w = absurd (true≢false (sym idle))
  after_rest g h move idle w = after_idle g h (next p q g move) w (not-true (is_running (after p q g.steps).status) idle) (moved g (needed_task p (after p q g.steps)))

  after_events : (es : List Event) (g h : Progress) → Alike g h → Alike (fold (next p q) g es) (fold (next p q) h (without_idle p q g es))
  after_events [] g h w = w
  after_events (e ∷ es) g h w =
      by (is_idle p q g e) refl
      (λ is. after_events es (next p q g e) h (after_rest g h e is w))
      (λ is. after_events es (next p q g e) (next p q h e) (after_event g h e is w))
    where
      by : (b : Bool) → is_idle p q g e ≡ b
          → (is_idle p q g e ≡ true → Alike (fold (next p q) (next p q g e) es) (fold (next p q) h (without_idle p q (next p q g e) es)))
          → (is_idle p q g e ≡ false → Alike (fold (next p q) (next p q g e) es) (fold (next p q) (next p q h e) (without_idle p q (next p q g e) es)))
          → Alike (fold (next p q) (next p q g e) es) (fold (next p q) h (cond b (without_idle p q (next p q g e) es) (e ∷ without_idle p q (next p q g e) es)))
      by true is rests moves = rests is
      by false is rests moves = moves is

  alike : (es : List Event) → Alike (progress p q es) (progress p q (performed p q es))
  alike es = after_events es no_progress no_progress (record { steps_are = past_same p q 0; rounds_are = refl; kept_are = refl })

  -- what an arrival asks of its round
  refused_in : ℕ → ℕ → Option State → Option Refusal
  refused_in k x None = Some (unknown_round k)
  refused_in k x (Some s) = task_refusal k x (tasks p s)

  refused_at : (k x : ℕ) (o : Option ℕ) → round_refusal p q k x o ≡ refused_in k x (option_map (after p q) o)
  unfolding refused_in
  refused_at k x None = refl
  refused_at k x (Some n) = refl

  got : (ns : List ℕ) (i : ℕ) → slice_get (map (after p q) ns) i ≡ option_map (after p q) (slice_get ns i)
  got [] i = refl
  got (n ∷ ns) zero = refl
  got (n ∷ ns) (suc i) = got ns i

  arrives_as : (g h : Progress) (k i x : ℕ) → Alike g h → round_refusal p q k x (slice_get g.rounds i) ≡ round_refusal p q k x (slice_get h.rounds i)
  arrives_as g h k i x w =
      refused_at k x (slice_get g.rounds i)
      ∙ (ap (refused_in k x) (sym (got g.rounds i) ∙ (ap (λ (l : List State). slice_get l i) w.rounds_are ∙ got h.rounds i))
      ∙ sym (refused_at k x (slice_get h.rounds i)))

pub replay_law : ReplayLaw
replay_law = record {
  more = λ p q es e. more_from p q es no_progress e;
  few = λ p r es. let e = (alike p (start r) es).steps_are.is in omega (arith, e);
  publishes = λ p r es k. ap (λ (n : ℕ). cond (nat_lt n MAX_ROUNDS) None (Some (too_many_rounds k))) (alike_length p (start r) (progress p (start r) es) (progress p (start r) (performed p (start r) es)) (alike p (start r) es));
  arrives = λ p r es k i x. arrives_as p (start r) (progress p (start r) es) (progress p (start r) (performed p (start r) es)) k i x (alike p (start r) es);
  outcome = λ names p r es. past_outcome p names r (progress p (start r) es).steps (progress p (start r) (performed p (start r) es)).steps (alike p (start r) es).steps_are;
  first = λ p q es fs. first_from p q es fs no_progress 0 ∙ ap (λ (n : ℕ). or_later (first_refusal p q no_progress 0 es) (first_refusal p q (progress p q es) n fs)) (omega arith);
}
