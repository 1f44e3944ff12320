-- Runs that are watched, a transition at a time.
use Rattle.std.proofs.Common.{◌≡◌, ◌∙◌, ◌+◌, ◌<◌, ◌≤◌, ◌≢◌, ◌⊎◌, ◌∷◌, [], inl, inr, List, None, Option, Some, add-one, Bor, ap, arith, get_or, length, nat_lt, option_map, refl, true≢false, subst, suc, sym, zero, ◌-◌, ℕ, cond, true}
use Rattle.std.proofs.lemmas.List.{length-map}
use Rattle.std.proofs.lemmas.Bool.{lt-ltb}
use Rattle.std.proofs.lemmas.Option.{slice_get_past, slice_get_read}
use Rattle.std.specs.Prelude.{IfSome, is_some, option_and_then, slice_get, unwrap_or}
use Rattle.chr_semantics.specs.Life.{gone, taken_by}
use Rattle.chr_semantics.specs.Profile.{goal_of}
use Rattle.chr_semantics.specs.Search.{History}
use Rattle.chr_store.specs.HistoryView.{fired_view, firings_view}
use Rattle.chr_store.specs.declared.fired.Fired.{Fired}
use Rattle.chr_semantics.specs.Names.{Names}
use Rattle.chr_semantics.specs.Program.{Atom, Program, Query}
use Rattle.chr_semantics.specs.State.{Element, State, running, start}
use Rattle.chr_semantics.specs.Step.{after, is_running, step}
use Rattle.chr_semantics.proofs.Soundness.{sound_after, sound_start}
use Rattle.chr_trace.specs.State.{elem_view, stack_onto, stack_view}
use Rattle.chr_trace.specs.declared.state.Elem.{Elem}
use Rattle.chr_semantics.specs.declared.limits.TheConstants.{MAX_TRANSITIONS}
use Rattle.chr_machine.proofs.Runs.{further_same}
use Rattle.chr_machine.specs.MachineView.{Further, Moves, Starts}
use Rattle.chr_machine.specs.Model.{Model, state_in}
use Rattle.chr_look.specs.Leavings.{place_at}
use Rattle.chr_look.specs.LogView.{log_view}
use Rattle.chr_look.specs.Logs.{IsFirst, IsLog, IsNoted, LogModel, Sight, brought, entry_at, removal, sight}
use Rattle.chr_look.specs.Watching.{AreRemovalsIn, IsRunOf, IsWatched, machine_in}
use Rattle.chr_look.specs.declared.leaving.Removals.{Removals}
use Rattle.chr_look.specs.declared.watching.Watched.{Watched}
use Rattle.chr_look.proofs.Asked.{gone_told, taken_told}
use Rattle.chr_look.proofs.Fallen.{falls}
use Rattle.chr_look.proofs.Logged.{apart, begins, goes_on, not_below}
use Rattle.chr_look.proofs.Removed.{mapped_at}

onto_long : {A : Type 0} (es : List (Elem A)) (below : List Element) → length (stack_onto es below) ≡ length es + length below
onto_long [] below = omega arith
onto_long (e ∷ es) below =
    let rest : length (stack_onto es (elem_view e ∷ below)) ≡ length es + length (elem_view e ∷ below) = onto_long es (elem_view e ∷ below) in
    let one : length below + 1 ≡ length (elem_view e ∷ below) = add-one (length below) in
    omega (arith, rest, one)

-- as many elements as the stack has
pub stack_long : {A : Type 0} (es : List (Elem A)) → length (stack_view es) ≡ length es
stack_long es = onto_long es [] ∙ omega arith

-- what is noted, of what is the same
pub noted_of : (k j : ℕ) (a b : Option Atom) (s t u v : Sight) (old new : LogModel) → k ≡ j → a ≡ b → s ≡ t → u ≡ v → IsNoted k a s u old new → IsNoted j b t v old new
noted_of k j a b s t u v old new e f g h n =
    subst (λ x. IsNoted j b t x old new) h (subst (λ x. IsNoted j b x u old new) g (subst (λ x. IsNoted j x s u old new) f (subst (λ x. IsNoted x a s u old new) e n)))

-- the stack falls by one at most
pub falls_by_one : (m n : Model) → Moves m n → length m.stack ≤ length n.stack + 1
falls_by_one m n moves =
    let fell : length (state_in m).stack ≤ length (step m.rules (state_in m)).stack + 1 = falls m.rules (state_in m) in
    let same : length n.stack ≡ length (step m.rules (state_in m)).stack = ap (λ (s : State). length s.stack) moves.state_is in
    omega (arith, fell, same)

-- a run of k transitions from the start, which went on as far as it could
pub run_of : (names : Names) (p : Program) (q : Query) (n k : ℕ) (first m : Model) → Starts names p q first → Further k first m → (k ≡ n) ⊎ ((k < n) × ((m.status ≢ running) ⊎ (MAX_TRANSITIONS ≤ m.steps))) → IsRunOf names p q n m
run_of names p q n k first m starts further stops =
    let steps : m.steps ≡ k = omega (arith, further.steps_are, starts.steps_are) in
    record {
      first = first;
      starts = starts;
      further = subst (λ j. Further j first m) (sym steps) further;
      stops = subst (λ j. (j ≡ n) ⊎ ((j < n) × ((m.status ≢ running) ⊎ (MAX_TRANSITIONS ≤ m.steps)))) (sym steps) stops;
    }

-- where the last step found it ended, or at the limit
pub run_ended : (names : Names) (p : Program) (q : Query) (n k : ℕ) (first m b : Model) → Starts names p q first → Further k first m → k < n → m.status ≢ running → b ≡ m → IsRunOf names p q n b
run_ended names p q n k first m b starts further less ended same =
    run_of names p q n k first b starts (further_same k first m b further same) (inr (less, inl (λ h. ended (sym (ap (λ (x : Model). x.status) same) ∙ h))))

pub run_spent : (names : Names) (p : Program) (q : Query) (n k : ℕ) (first m b : Model) → Starts names p q first → Further k first m → k < n → MAX_TRANSITIONS ≤ m.steps → b ≡ m → IsRunOf names p q n b
run_spent names p q n k first m b starts further less all same =
    let steps = ap (λ (x : Model). x.steps) same in
    run_of names p q n k first b starts (further_same k first m b further same) (inr (less, inr (omega (arith, steps, all))))

module _ (p : Program) (q : Query) where
  pub first_log : (names : Names) (m : Model) (log : LogModel) → Starts names p q m → IsFirst (length m.stack) log → IsLog p (start q) m.steps log
  first_log names m log starts first =
      let height : length m.stack ≡ length (start q).stack = ap (λ (s : State). length s.stack) starts.state_is in
      subst (λ k. IsLog p (start q) k log) (sym starts.steps_are) (begins p (start q) log refl refl (subst (λ h. IsFirst h log) height first))

  pub state_first : (names : Names) (m : Model) → Starts names p q m → state_in m ≡ after p (start q) m.steps
  state_first names m starts = starts.state_is ∙ sym (ap (after p (start q)) starts.steps_are)

  -- a transition later
  module _ (m n : Model) (rules : m.rules ≡ p) (state : state_in m ≡ after p (start q) m.steps) (moves : Moves m n) where
    next : state_in n ≡ step p (after p (start q) m.steps)
    next = moves.state_is ∙ (λ k. step (rules k) (state k))

    after_more : (s : State) (k : ℕ) → after p s (suc k) ≡ step p (after p s k)
    after_more s zero = refl
    after_more s (suc k) = after_more (step p s) k

    pub state_next : state_in n ≡ after p (start q) n.steps
    state_next = next ∙ sym (ap (after p (start q)) (moves.steps_are ∙ add-one m.steps) ∙ after_more (start q) m.steps)

    pub rules_next : n.rules ≡ p
    rules_next = moves.same.rules ∙ rules

    pub log_next : (old new : LogModel) → IsLog p (start q) m.steps old → IsNoted n.steps (brought (state_in m) (state_in n)) (sight (state_in m)) (sight (state_in n)) old new → IsLog p (start q) n.steps new
    log_next old new log noted =
        let t = after p (start q) m.steps in
        let by_steps : IsNoted (m.steps + 1) (brought (state_in m) (state_in n)) (sight (state_in m)) (sight (state_in n)) old new = subst (λ k. IsNoted k (brought (state_in m) (state_in n)) (sight (state_in m)) (sight (state_in n)) old new) moves.steps_are noted in
        let by_first : IsNoted (m.steps + 1) (brought t (state_in n)) (sight t) (sight (state_in n)) old new = subst (λ s. IsNoted (m.steps + 1) (brought s (state_in n)) (sight s) (sight (state_in n)) old new) state by_steps in
        let by_next : IsNoted (m.steps + 1) (brought t (step p t)) (sight t) (sight (step p t)) old new = subst (λ s. IsNoted (m.steps + 1) (brought t s) (sight t) (sight s) old new) next by_first in
        subst (λ k. IsLog p (start q) k new) (sym moves.steps_are) (goes_on p (start q) m.steps old new (sound_after p m.steps (start q) (sound_start q)) log by_next)

-- what was looked up in a list, as its view
pub viewed : (o : Option (Bor Fired)) (es : List Fired) (n : ℕ) → is_some o ≡ nat_lt n (length es) → IfSome o (λ b. b.now ≡ get_or es n b.now) → option_map (λ b. fired_view b.now) o ≡ slice_get (firings_view es) n
viewed None es n there is = by (apart n (length es))
  where
    past : length es ≤ n → None ≡ slice_get (firings_view es) n
    past l = sym (slice_get_past (firings_view es) n (omega (arith, l, length-map es fired_view)))

    by : (n < length es) ⊎ ((n ≡ length es) ⊎ (length es < n)) → None ≡ slice_get (firings_view es) n
    by (inl l) = absurd (true≢false (sym (there ∙ lt-ltb n (length es) l)))
    by (inr (inl e)) = past (omega (arith, e))
    by (inr (inr l)) = past (omega (arith, l))
viewed (Some b) es n there is = by (apart n (length es))
  where
    past : length es ≤ n → Some (fired_view b.now) ≡ slice_get (firings_view es) n
    past l = absurd (true≢false (there ∙ not_below n (length es) l))

    by : (n < length es) ⊎ ((n ≡ length es) ⊎ (length es < n)) → Some (fired_view b.now) ≡ slice_get (firings_view es) n
    by (inl l) = sym (mapped_at fired_view es n b.now (slice_get_read es (length es) n b.now refl l is))
    by (inr (inl e)) = past (omega (arith, e))
    by (inr (inr l)) = past (omega (arith, l))

-- of a watched run, by the place that is kept of the first firing that removes the constraint
module _ {A : Type 0} (w : Watched A) (r : Removals A) (i : ℕ) (are : AreRemovalsIn w r) (p : Program) (q : Query) (h : IsWatched p q w) (one : 0 < i) where
  entries_are : (machine_in w).base.entries.list ≡ (after p (start q) (machine_in w).steps).history
  entries_are = ap (λ (s : State). s.history) h.state_is

  from_one : i ≡ (i - 1) + 1
  from_one = omega (arith, one)

  first_there : (ks : List ℕ) → length ks ≡ length (after p (start q) (machine_in w).steps).history → removal p ks (after p (start q) (machine_in w).steps).history ((i - 1) + 1) ≡ option_and_then (slice_get ks) (place_at r.places.items i)
  first_there ks l = sym (λ k. removal (h.rules_are k) ks (entries_are k) (from_one k)) ∙ are i ks (l ∙ sym (ap (λ (f : History). length f) entries_are))

  pub gone_is : option_and_then (slice_get (log_view w.log).times) (place_at r.places.items i) ≡ gone p (start q) (machine_in w).steps i
  gone_is = gone_told p (start q) (machine_in w).steps (log_view w.log) h.log_is (i - 1) (place_at r.places.items i) first_there ∙ ap (gone p (start q) (machine_in w).steps) (sym from_one)

  pub taken_is : option_and_then (slice_get (machine_in w).base.entries.list) (place_at r.places.items i) ≡ taken_by p (start q) (machine_in w).steps i
  taken_is =
      ap (λ (f : History). option_and_then (slice_get f) (place_at r.places.items i)) entries_are ∙ taken_told p (start q) (machine_in w).steps (log_view w.log) h.log_is (i - 1) (place_at r.places.items i) first_there
      ∙ ap (taken_by p (start q) (machine_in w).steps) (sym from_one)

unwrapped : (o : Option (Option ℕ)) (h : History) → entry_at h (Some (unwrap_or o None)) ≡ entry_at h o
unwrapped None h = refl
unwrapped (Some e) h = refl

-- of a watched run, by what was kept for the height of its stack
pub goal_rule_is : {A : Type 0} (p : Program) (q : Query) (w : Watched A) → IsWatched p q w → (es : List Fired) (stack : List (Elem A)) (place : Option ℕ) → firings_view es ≡ (machine_in w).base.entries.list
    → stack_view stack ≡ (machine_in w).stack → place ≡ unwrap_or (slice_get (log_view w.log).lows (length stack)) None → option_map (λ (f : ℕ × List ℕ). f.0) (entry_at (firings_view es) (Some place)) ≡ goal_of p (start q) (machine_in w).steps
goal_rule_is p q w h es stack place entries_is stack_is place_is =
    let t = after p (start q) (machine_in w).steps in
    let lows = (log_view w.log).lows in
    let same : length stack ≡ length t.stack = sym (stack_long stack) ∙ ap (λ (xs : List Element). length xs) stack_is ∙ ap (λ (s : State). length s.stack) h.state_is in
    let history : firings_view es ≡ t.history = entries_is ∙ ap (λ (s : State). s.history) h.state_is in
    let here : entry_at (firings_view es) (Some place) ≡ entry_at t.history (Some (unwrap_or (slice_get lows (length stack)) None)) = (λ k. entry_at (history k) (Some (place_is k))) in
    ap (option_map (λ (f : ℕ × List ℕ). f.0)) (here ∙ unwrapped (slice_get lows (length stack)) t.history ∙ ap (λ j. entry_at t.history (slice_get lows j)) same ∙ h.log_is.lows_are (length t.stack) (omega arith))

-- how many elements stand in the place of the top, where the run goes on
pub put_is : {A : Type 0} (es : List (Elem A)) (s : State) (height n : ℕ) → is_running s.status ≡ true → stack_view es ≡ s.stack → n ≡ length es + 1 - height → n ≡ cond (is_running s.status) (length s.stack + 1 - height) 0
put_is es s height n runs stack is = rw runs (is ∙ ap (λ l. l + 1 - height) (sym (stack_long es) ∙ ap (λ (xs : List Element). length xs) stack))
