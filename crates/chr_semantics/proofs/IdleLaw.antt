-- Steps of a run that has ended change neither its state nor its counts.
use Rattle.std.proofs.Common.{◌≡◌, ℕ, zero, suc, ◌+◌, Bool, true, false, cond, not, ◌&&◌, ◌==◌, nat_lt, List, [], ◌∷◌, ◌++◌, length, map, Option, Some, None, Result, Ok, Err, ℤ, ap, refl, ◌∙◌, sym, subst, arith, true≢false}
use Rattle.std.proofs.lemmas.Bool.{not-true}
use Rattle.std.specs.Prelude.{drop, filter, option_map, slice_get, ◌-◌}
use Rattle.std.specs.List.{fold, list_all, list_any}
use mathlib.Core.Path.{fun_ext}
use Rattle.chr_semantics.specs.Guard.{comparison_holds}
use Rattle.chr_semantics.specs.Match.{Row}
use Rattle.chr_semantics.specs.Mgu.{mgu}
use Rattle.chr_semantics.specs.Program.{Atom, Comparison, Goal, Program, Query, compare, constraint, evaluate, fail, tell}
use Rattle.chr_semantics.specs.Schedule.{Event, IdleLaw, Progress, Took, answer_serves, arrive, counts_of, double, is_idle, is_served, kept, late, move, next, no_progress, performed, progress, publish, same_goal, serves, stranger, task_serves, took, with_step, with_took, without_idle}
use Rattle.chr_semantics.specs.Search.{Found, atom_of, firing, has_number, ids_of, no_firing, no_occurrence}
use Rattle.chr_semantics.specs.State.{Element, State, Status, active, done, failed, faulted, goal, known, resolved_atom, rows, running, start, status_at, with_stack}
use Rattle.chr_semantics.specs.Step.{after, bind_step, body_of, compare_step, count_steps, evaluate_step, is_running, search_at, search_step, solve, step, step_at, step_top, with_status, woken_elements}
use Rattle.chr_semantics.specs.Subst.{Subst, apply}
use Rattle.chr_semantics.specs.Tasks.{Task, guest, needed_task, needed_task_top, same_task, tasks}
use Rattle.chr_semantics.specs.Touch.{Mark, footprint, touched, touched_any, touches, touches_at}
use Rattle.chr_semantics.specs.Tree.{Tree, int}
use Rattle.chr_semantics.specs.Value.{Fault, value}
use Rattle.chr_semantics.specs.declared.limits.TheConstants.{KEPT_ROUNDS}
use Rattle.chr_semantics.proofs.Counts.{after-add, count-add}

-- a run that has ended needs no search

abbrev RestsFrom : Program → State → Type 0
RestsFrom p s = is_running s.status ≡ false → needed_task p s ≡ None

stacked_rests : (p : Program) (s : State) (es : List Element) → RestsFrom p (with_stack s es)
stacked_rests p s [] e = refl
stacked_rests p s (x ∷ es) e = absurd (true≢false e)

module _ (p : Program) (s : State) (rest : List Element) (g : Goal) (top : s.stack ≡ goal g ∷ rest) where
  stopped_rests : (w : Status) → RestsFrom p (with_status s w)
  stopped_rests w e = ap (needed_task_top p (with_status s w)) top

  told_rests : (o : Option Subst) → RestsFrom p (bind_step s rest o)
  told_rests None = stopped_rests failed
  told_rests (Some r) = stacked_rests p (record s { subst = r }) (woken_elements s ++ rest)

  evaluated_rests : (x : Tree) (v : Result ℤ Fault) → RestsFrom p (evaluate_step s rest x v)
  evaluated_rests x (Err f) = stopped_rests (faulted f)
  evaluated_rests x (Ok z) = told_rests (mgu s.subst x (int z))

  decided_rests : (c : Comparison) (v w : Result ℤ Fault) → RestsFrom p (compare_step s rest c v w)
  decided_rests c (Err f) w = stopped_rests (faulted f)
  decided_rests c (Ok x) (Err f) = stopped_rests (faulted f)
  decided_rests c (Ok x) (Ok y) = either (comparison_holds c x y) _ _ (stacked_rests p s (woken_elements s ++ rest)) (stopped_rests failed)
    where
      either : (b : Bool) (t u : State) → RestsFrom p t → RestsFrom p u → RestsFrom p (cond b t u)
      either true t u k l = k
      either false t u k l = l

solved_rests : (p : Program) (s : State) (rest : List Element) (g : Goal) → s.stack ≡ goal g ∷ rest → RestsFrom p (solve s rest g)
solved_rests p s rest (constraint a) top = λ e. absurd (true≢false e)
solved_rests p s rest (tell t u) top = told_rests p s rest (tell t u) top (mgu s.subst t u)
solved_rests p s rest (evaluate x t) top = evaluated_rests p s rest (evaluate x t) top x (value (apply s.subst t))
solved_rests p s rest (compare c t u) top = decided_rests p s rest (compare c t u) top c (value (apply s.subst t)) (value (apply s.subst u))
solved_rests p s rest fail top = stopped_rests p s rest fail top failed

found_rests : (p : Program) (s : State) (rest : List Element) (i j : ℕ) (a : Atom) (w : Found) → RestsFrom p (search_step s rest i j a w)
found_rests p s rest i j a no_occurrence = stacked_rests p s rest
found_rests p s rest i j a no_firing = λ e. absurd (true≢false e)
found_rests p s rest i j a (firing n r place t) =
    stacked_rests p (record s { store = filter (λ (row : Row). not (has_number (drop r.kept (ids_of t)) row.0)) s.store; history = s.history ++ (n, ids_of t) ∷ []; next_var = s.next_var + (r.vars - r.head_vars) })
    (body_of r t s.next_var ++ cond (nat_lt place r.kept) (active i j a ∷ rest) rest)

top_rests : (p : Program) (s : State) (es : List Element) → s.stack ≡ es → RestsFrom p (step_top p s es)
top_rests p s [] top = λ e. ap (needed_task_top p s) top
top_rests p s (goal g ∷ rest) top = solved_rests p s rest g top
top_rests p s (known i a ∷ rest) top = λ e. absurd (true≢false e)
top_rests p s (active i j a ∷ rest) top = found_rests p s rest i j a (search_at p s i j a)

step_rests : (p : Program) (s : State) (w : Status) → RestsFrom p s → RestsFrom p (step_at p s w)
step_rests p s running h = top_rests p s s.stack refl
step_rests p s done h = h
step_rests p s failed h = h
step_rests p s (faulted f) h = h

after_rests : (p : Program) (n : ℕ) (s : State) → RestsFrom p s → RestsFrom p (after p s n)
after_rests p zero s h = h
after_rests p (suc n) s h = after_rests p n (step p s) (step_rests p s s.status h)

start_rests : (p : Program) (r : Query) → RestsFrom p (start r)
start_rests p r = from_goals r.goals
  where
    from_goals : (gs : List Goal) → is_running (status_at (map (λ g. goal g) gs)) ≡ false → needed_task_top p (start r) (map (λ g. goal g) gs) ≡ None
    from_goals [] e = refl
    from_goals (g ∷ gs) e = refl

-- two numbers of Steps at which a run is the same

record IsSame (p : Program) (q : State) (k n : ℕ) : Type 0 where
  pub state : after p q k ≡ after p q n
  pub marks : touched p q k ≡ touched p q n
  pub any : touched_any p q k ≡ touched_any p q n

same_number : (p : Program) (q : State) (k : ℕ) → IsSame p q k k
same_number p q k = record { state = refl; marks = refl; any = refl }

ended_stays : (p : Program) (s : State) (w : Status) → is_running w ≡ false → step_at p s w ≡ s
ended_stays p s running e = absurd (true≢false e)
ended_stays p s done e = refl
ended_stays p s failed e = refl
ended_stays p s (faulted f) e = refl

ended_touches : (p : Program) (s : State) (w : Status) (x : Mark) → is_running w ≡ false → touches_at p s w x ≡ false
ended_touches p s running x e = absurd (true≢false e)
ended_touches p s done x e = refl
ended_touches p s failed x e = refl
ended_touches p s (faulted f) x e = refl

module _ (p : Program) (q : State) where
  after_more : (k : ℕ) → after p q (k + 1) ≡ step p (after p q k)
  after_more k = after-add p q k 1

  counted_more : (test : State → Bool) (k : ℕ) → test (after p q k) ≡ false → count_steps p test q (k + 1) ≡ count_steps p test q k
  counted_more test k none = count-add p test q k 1 ∙ ap (λ (b : Bool). count_steps p test q k + (cond b 1 0 + 0)) none ∙ omega arith

  none_of : (s : State) (xs : List Mark) → ((x : Mark) → touches p s x ≡ false) → list_any (touches p s) xs ≡ false
  none_of s [] h = refl
  none_of s (x ∷ xs) h = rw (h x) (none_of s xs h)

  idle_same : (k n : ℕ) → IsSame p q k n → is_running (after p q k).status ≡ false → IsSame p q (k + 1) n
  idle_same k n e ended =
      let s = after p q k in
      let none = λ (x : Mark). ended_touches p s s.status x ended in
      record {
        state = after_more k ∙ ended_stays p s s.status ended ∙ e.state;
        marks = fun_ext (λ x. counted_more (λ t. touches p t x) k (none x)) ∙ e.marks;
        any = fun_ext (λ xs. counted_more (λ t. list_any (touches p t) xs) k (none_of s xs none)) ∙ e.any;
      }

  more_same : (k n : ℕ) → IsSame p q k n → IsSame p q (k + 1) (n + 1)
  more_same k n e = record {
    state = after_more k ∙ ap (step p) e.state ∙ sym (after_more n);
    marks = fun_ext (λ x. count-add p (λ t. touches p t x) q k 1 ∙ (λ i. e.marks i x + (cond (touches p (e.state i) x) 1 0 + 0)) ∙ sym (count-add p (λ t. touches p t x) q n 1));
    any = fun_ext (λ xs. count-add p (λ t. list_any (touches p t) xs) q k 1 ∙ (λ i. e.any i xs + (cond (list_any (touches p (e.state i)) xs) 1 0 + 0)) ∙ sym (count-add p (λ t. list_any (touches p t) xs) q n 1));
  }

  AreSame : List ℕ → List ℕ → Type 0
  AreSame [] [] = Unit {0}
  AreSame [] (n ∷ ns) = ⊥
  AreSame (k ∷ ks) [] = ⊥
  AreSame (k ∷ ks) (n ∷ ns) = IsSame p q k n × AreSame ks ns

  same_append : (ks ns : List ℕ) (k n : ℕ) → AreSame ks ns → IsSame p q k n → AreSame (ks ++ k ∷ []) (ns ++ n ∷ [])
  unfolding AreSame
  same_append [] [] k n h e = (e, tt)
  same_append [] (m ∷ ns) k n h e = absurd h
  same_append (m ∷ ks) [] k n h e = absurd h
  same_append (l ∷ ks) (m ∷ ns) k n h e = (h.0, same_append ks ns k n h.1 e)

  same_length : (ks ns : List ℕ) → AreSame ks ns → length ks ≡ length ns
  unfolding AreSame
  same_length [] [] h = refl
  same_length [] (m ∷ ns) h = absurd h
  same_length (m ∷ ks) [] h = absurd h
  same_length (l ∷ ks) (m ∷ ns) h = ap (λ (i : ℕ). suc i) (same_length ks ns h.1)

  -- an answer serves at both or at neither
  same_serves : (k l m n : ℕ) (t : Task) → IsSame p q k l → IsSame p q m n → serves p q k m t ≡ serves p q l n t
  same_serves k l m n t e f = λ i.
      cond (t.0 == (e.state i).next_id)
      (let marks = footprint p (f.state i) t.0 t.1 in
      same_goal (option_map (resolved_atom (e.state i).subst) (guest (e.state i))) (atom_of (rows (f.state i)) t.0) && e.any i marks + 1 == f.any i marks)
      (list_all (λ x. e.marks i x == f.marks i x) (footprint p (f.state i) t.0 t.1))

  task_with : Bool → Task → Option Task → Bool
  task_with b t None = false
  task_with b t (Some u) = same_task t u && b

  task_serves_with : (k m : ℕ) (t : Task) (o : Option Task) → task_serves p q k m t o ≡ task_with (serves p q k m t) t o
  unfolding task_with
  task_serves_with k m t None = refl
  task_serves_with k m t (Some u) = refl

  same_task_serves : (k l m n x : ℕ) (t : Task) → IsSame p q k l → IsSame p q m n → task_serves p q k m t (slice_get (tasks p (after p q k)) x) ≡ task_serves p q l n t (slice_get (tasks p (after p q l)) x)
  same_task_serves k l m n x t e f =
      let s = same_serves k l m n t e f in
      task_serves_with k m t (slice_get (tasks p (after p q k)) x) ∙ (λ i. task_with (s i) t (slice_get (tasks p (e.state i)) x)) ∙ sym (task_serves_with l n t (slice_get (tasks p (after p q l)) x))

  same_answer : (ks ns : List ℕ) (m n r x : ℕ) (t : Task) → AreSame ks ns → IsSame p q m n → answer_serves p q m t x (slice_get ks r) ≡ answer_serves p q n t x (slice_get ns r)
  unfolding AreSame
  same_answer [] [] m n r x t h f = refl
  same_answer [] (l ∷ ns) m n r x t h f = absurd h
  same_answer (k ∷ ks) [] m n r x t h f = absurd h
  same_answer (k ∷ ks) (l ∷ ns) m n zero x t h f = same_task_serves k l m n x t h.0 f
  same_answer (k ∷ ks) (l ∷ ns) m n (suc r) x t h f = same_answer ks ns m n r x t h.1 f

  -- how far a schedule has come, with and without the idle Steps
  record Follows (g h : Progress) : Type 0 where
    pub steps_same : IsSame p q g.steps h.steps
    pub rounds_same : AreSame g.rounds h.rounds
    pub kept_same : g.kept ≡ h.kept
    pub late_same : g.late ≡ h.late
    pub double_same : g.double ≡ h.double
    pub used_same : g.used ≡ h.used
    pub own_same : g.own ≡ h.own

  same_served : (g h : Progress) (t : Task) → Follows g h → is_served p q g t ≡ is_served p q h t
  same_served g h t w =
      ap (λ (f : ℕ × ℕ → Bool). list_any f g.kept) (fun_ext (λ a. same_answer g.rounds h.rounds g.steps h.steps a.0 a.1 t w.rounds_same w.steps_same))
      ∙ ap (list_any (λ (a : ℕ × ℕ). answer_serves p q h.steps t a.1 (slice_get h.rounds a.0))) w.kept_same

  same_took : (g h : Progress) (r x : ℕ) → Follows g h → took g r x ≡ took h r x
  same_took g h r x w = let l = same_length g.rounds h.rounds w.rounds_same in λ i. cond (nat_lt (r + KEPT_ROUNDS) (l i)) (late r) (cond (list_any (same_task (r, x)) (w.kept_same i)) (double r) (kept r))

  after_took : (g h : Progress) (x : ℕ) (a : Took) → Follows g h → Follows (with_took g x a) (with_took h x a)
  after_took g h x (kept r) w = record { steps_same = w.steps_same; rounds_same = w.rounds_same; kept_same = ap (λ (l : List (ℕ × ℕ)). l ++ (r, x) ∷ []) w.kept_same; late_same = w.late_same; double_same = w.double_same; used_same = w.used_same; own_same = w.own_same }
  after_took g h x (late r) w = record { steps_same = w.steps_same; rounds_same = w.rounds_same; kept_same = w.kept_same; late_same = ap (λ (n : ℕ). n + 1) w.late_same; double_same = w.double_same; used_same = w.used_same; own_same = w.own_same }
  after_took g h x (double r) w = record { steps_same = w.steps_same; rounds_same = w.rounds_same; kept_same = w.kept_same; late_same = w.late_same; double_same = ap (λ (n : ℕ). n + 1) w.double_same; used_same = w.used_same; own_same = w.own_same }
  after_took g h x stranger w = w

  moved : Progress → Bool → Progress
  moved g true = record g { steps = g.steps + 1; used = g.used + 1 }
  moved g false = record g { steps = g.steps + 1; own = g.own + 1 }

  moved_is : (g : Progress) (t : Task) (b : Bool) → is_served p q g t ≡ b → with_step p q g (Some t) ≡ moved g b
  unfolding moved
  moved_is g t true e = rw (with_step, e) refl
  moved_is g t false e = rw (with_step, e) refl

  after_moved : (g h : Progress) (b : Bool) → Follows g h → Follows (moved g b) (moved h b)
  unfolding moved
  after_moved g h true w = record { steps_same = more_same g.steps h.steps w.steps_same; rounds_same = w.rounds_same; kept_same = w.kept_same; late_same = w.late_same; double_same = w.double_same; used_same = ap (λ (n : ℕ). n + 1) w.used_same; own_same = w.own_same }
  after_moved g h false w = record { steps_same = more_same g.steps h.steps w.steps_same; rounds_same = w.rounds_same; kept_same = w.kept_same; late_same = w.late_same; double_same = w.double_same; used_same = w.used_same; own_same = ap (λ (n : ℕ). n + 1) w.own_same }

  after_step : (g h : Progress) (o : Option Task) → Follows g h → Follows (with_step p q g o) (with_step p q h o)
  after_step g h None w = record { steps_same = more_same g.steps h.steps w.steps_same; rounds_same = w.rounds_same; kept_same = w.kept_same; late_same = w.late_same; double_same = w.double_same; used_same = w.used_same; own_same = w.own_same }
  after_step g h (Some t) w =
      let b = is_served p q g t in
      let first = subst (λ (x : Progress). Follows x (moved h b)) (sym (moved_is g t b refl)) (after_moved g h b w) in
      subst (Follows (with_step p q g (Some t))) (sym (moved_is h t b (sym (same_served g h t w)))) first

  after_event : (g h : Progress) (e : Event) → Follows g h → Follows (next p q g e) (next p q h e)
  after_event g h publish w = record { steps_same = w.steps_same; rounds_same = same_append g.rounds h.rounds g.steps h.steps w.rounds_same w.steps_same; kept_same = w.kept_same; late_same = w.late_same; double_same = w.double_same; used_same = w.used_same; own_same = w.own_same }
  after_event g h (arrive r x) w = subst (λ (a : Took). Follows (with_took g x (took g r x)) (with_took h x a)) (same_took g h r x w) (after_took g h x (took g r x) w)
  after_event g h move w = subst (λ (o : Option Task). Follows (next p q g move) (with_step p q h o)) (ap (needed_task p) w.steps_same.state) (after_step g h (needed_task p (after p q g.steps)) w)

  -- an idle Step
  after_idle : (rests : (n : ℕ) → RestsFrom p (after p q n)) (g h : Progress) (e : Event) → is_idle p q g e ≡ true → Follows g h → Follows (next p q g e) h
  after_idle rests g h publish idle w = absurd (true≢false (sym idle))
  after_idle rests g h (arrive r x) idle w = absurd (true≢false (sym idle))
  after_idle rests g h move idle w =
      let ended = not-true (is_running (after p q g.steps).status) idle in
      subst (λ (o : Option Task). Follows (with_step p q g o) h) (sym (rests g.steps ended))
      (record { steps_same = idle_same g.steps h.steps w.steps_same ended; rounds_same = w.rounds_same; kept_same = w.kept_same; late_same = w.late_same; double_same = w.double_same; used_same = w.used_same; own_same = w.own_same })

  after_events : (rests : (n : ℕ) → RestsFrom p (after p q n)) (es : List Event) (g h : Progress) → Follows g h → Follows (fold (next p q) g es) (fold (next p q) h (without_idle p q g es))
  after_events rests [] g h w = w
  after_events rests (e ∷ es) g h w = by_test (is_idle p q g e) refl (after_events rests es (next p q g e) h) (after_events rests es (next p q g e) (next p q h e))
    where
      by_test : (b : Bool) → is_idle p q g e ≡ b → (Follows (next p q g e) h → Follows (fold (next p q) (next p q g e) es) (fold (next p q) h (without_idle p q (next p q g e) es)))
          → (Follows (next p q g e) (next p q h e) → Follows (fold (next p q) (next p q g e) es) (fold (next p q) (next p q h e) (without_idle p q (next p q g e) es)))
          → Follows (fold (next p q) (next p q g e) es) (fold (next p q) h (cond b (without_idle p q (next p q g e) es) (e ∷ without_idle p q (next p q g e) es)))
      by_test true is without with_it = without (after_idle rests g h e is w)
      by_test false is without with_it = with_it (after_event g h e w)

  nothing_same : Follows no_progress no_progress
  unfolding AreSame
  nothing_same = record { steps_same = same_number p q 0; rounds_same = tt; kept_same = refl; late_same = refl; double_same = refl; used_same = refl; own_same = refl }

  same_counts : (g h : Progress) → Follows g h → counts_of g ≡ counts_of h
  same_counts g h w = λ i. record { kept = length (w.kept_same i); late = w.late_same i; double = w.double_same i; used = w.used_same i; own = w.own_same i }

follows : (p : Program) (r : Query) (es : List Event) → Follows p (start r) (progress p (start r) es) (progress p (start r) (performed p (start r) es))
follows p r es = after_events p (start r) (λ n. after_rests p n (start r) (start_rests p r)) es no_progress no_progress (nothing_same p (start r))

pub idle_law : IdleLaw
idle_law = record {
  state = λ p r es. sym (follows p r es).steps_same.state;
  counts_same = λ p r es. sym (same_counts p (start r) (progress p (start r) es) (progress p (start r) (performed p (start r) es)) (follows p r es));
}
