-- Whether there are tasks beside one.
use Rattle.std.proofs.Common.{◌≡◌, ◌∙◌, ◌+◌, ◌-◌, ◌<◌, ◌≤◌, ◌++◌, ℕ, Bool, true, false, cond, not, ◌&&◌, List, [], ◌∷◌, Option, Some, None, ap, arith, get_or, length, map, nat_lt, refl, subst, suc, sym, take, zero}
use Rattle.std.specs.Prelude.{◌==◌, ◌||◌, MatchBool, is_some, nat_le}
use Rattle.std.specs.List.{list_any}
use Rattle.std.proofs.lemmas.Bool.{and_from, eq-eqb, le-leb, ne_eqb}
use Rattle.std.proofs.lemmas.List.{length_push}
use Rattle.std.proofs.lemmas.List.Folds.{list_any-append}
use Rattle.std.proofs.lemmas.Option.{same_Some, slice_get_within, some_pair_parts}
use Rattle.chr_semantics.specs.Program.{Occurrence, Program, occurrence, occurrences}
use Rattle.chr_semantics.specs.State.{Element, State, active, goal, known}
use Rattle.chr_semantics.specs.Tasks.{Task, below_top, element_search, guest_in, guest_tasks, lives, needed_task, needed_task_top, numbers_from, same_task, tasks, tasks_from}
use Rattle.chr_semantics.specs.declared.limits.TheConstants.{MAX_TASKS}
use Rattle.chr_trace.specs.State.{elem_view, stack_view}
use Rattle.chr_trace.specs.declared.state.Elem.{Elem}
use Rattle.chr_machine.specs.Gathering.{active_of, gathered, is_other, tasks_by, waiting_tasks}
use Rattle.chr_machine.specs.Model.{Model, state_in}
use Rattle.chr_machine.specs.NeedView.{need, search_of}
use Rattle.chr_machine.proofs.Answered.{task_needed}
use Rattle.chr_machine.proofs.Gathered.{tasks_next, waiting_first, waiting_passed}
use Rattle.chr_machine.proofs.Tops.{stack_from, tasks_are}
use Rattle.chr_laws.proofs.Spots.{same_itself}

-- none is lost where more are gathered
gathered_more : (n : ℕ) (ts us : List Task) → length ts ≤ length (gathered n ts us)
gathered_more n ts [] = omega arith
gathered_more n ts (u ∷ us) = by (nat_lt (length ts) n && not (list_any (same_task u) ts)) (λ ts. gathered_more n ts us)
  where
    by : (b : Bool) → ((ts : List Task) → length ts ≤ length (gathered n ts us)) → length ts ≤ length (gathered n (cond b (ts ++ u ∷ []) ts) us)
    by true rest = omega (arith, rest (ts ++ u ∷ []), length_push ts u)
    by false rest = rest ts

-- on top of one task a second is gathered where there is another
two_on_one : (t : Task) (us : List Task) → nat_le 2 (length (gathered MAX_TASKS (t ∷ []) us)) ≡ list_any (is_other t) us
two_on_one t [] = refl
two_on_one t (u ∷ us) = by (same_task u t) (two_on_one t us)
  where
    by : (b : Bool) → nat_le 2 (length (gathered MAX_TASKS (t ∷ []) us)) ≡ list_any (is_other t) us → nat_le 2 (length (gathered MAX_TASKS (cond (true && not (b || false)) (t ∷ u ∷ []) (t ∷ [])) us)) ≡ (not b || list_any (is_other t) us)
    by true rest = rest
    by false rest = le-leb 2 (length (gathered MAX_TASKS (t ∷ u ∷ []) us)) (gathered_more MAX_TASKS (t ∷ u ∷ []) us)

-- where the first is t, there are two or more where there is another
pub two_tasks : (t : Task) (us : List Task) → nat_le 2 (length (gathered MAX_TASKS [] (t ∷ us))) ≡ list_any (is_other t) (t ∷ us)
two_tasks t us = two_on_one t us ∙ sym (ap (λ b. not b || list_any (is_other t) us) (same_itself t))

-- of three parts, one has another
module _ (t : Task) (xs ys zs : List Task) where
  in_parts : list_any (is_other t) (xs ++ ys ++ zs) ≡ ((list_any (is_other t) xs || list_any (is_other t) ys) || list_any (is_other t) zs)
  in_parts = list_any-append (is_other t) (xs ++ ys) zs ∙ ap (λ b. b || list_any (is_other t) zs) (list_any-append (is_other t) xs ys)

  pub in_first : list_any (is_other t) xs ≡ true → true ≡ list_any (is_other t) (xs ++ ys ++ zs)
  in_first some = sym (in_parts ∙ ap (λ b. (b || list_any (is_other t) ys) || list_any (is_other t) zs) some)

  -- where the first part has none
  module _ (none : list_any (is_other t) xs ≡ false) where
    pub in_second : list_any (is_other t) ys ≡ true → true ≡ list_any (is_other t) (xs ++ ys ++ zs)
    in_second some = sym (in_parts ∙ (ap (λ b. (b || list_any (is_other t) ys) || list_any (is_other t) zs) none ∙ ap (λ b. b || list_any (is_other t) zs) some))

    pub in_third : list_any (is_other t) ys ≡ false → list_any (is_other t) zs ≡ list_any (is_other t) (xs ++ ys ++ zs)
    in_third none_below = sym (in_parts ∙ (ap (λ b. (b || list_any (is_other t) ys) || list_any (is_other t) zs) none ∙ ap (λ b. b || list_any (is_other t) zs) none_below))

-- a number of an occurrence that is there is at most the last
occurrence_within : (p : Program) (f j : ℕ) (o : Occurrence) → occurrence p f j ≡ Some o → j ≤ length (occurrences p f)
occurrence_within p f zero o is = cc
occurrence_within p f (suc k) o is = let lt = slice_get_within (occurrences p f) k o is in omega (arith, lt)

-- a constraint whose occurrences do not reach so far has no task from there on
pub none_from : (p : Program) (t : Task) (f i j : ℕ) → length (occurrences p f) < j → list_any (is_other t) (tasks_from p f i j) ≡ false
none_from p t f i j lt =
    let none : length (occurrences p f) + 1 - j ≡ 0 = omega (arith, lt) in
    ap (λ n. list_any (is_other t) (map (λ k. (i, k)) (numbers_from j n))) none

-- one whose first task is another has another
pub first_is_other : (p : Program) (t : Task) (f i j : ℕ) → j ≤ length (occurrences p f) → same_task (i, j) t ≡ false → list_any (is_other t) (tasks_from p f i j) ≡ true
first_is_other p t f i j le differs = ap (list_any (is_other t)) (tasks_next p f i j le) ∙ ap (λ b. not b || list_any (is_other t) (tasks_from p f i (j + 1))) differs

-- and one whose first task is t has another where its occurrences reach further
pub next_is_other : (p : Program) (t : Task) (f i j : ℕ) (b : Bool) → j ≤ length (occurrences p f) → i ≡ t.0 → j ≡ t.1 → MatchBool b (j + 1 ≤ length (occurrences p f)) (length (occurrences p f) < j + 1) → b ≡ list_any (is_other t) (tasks_from p f i j)
next_is_other p t f i j b le id number reaches = sym (ap (list_any (is_other t)) (tasks_next p f i j le) ∙ (ap (λ c. not c || list_any (is_other t) (tasks_from p f i (j + 1))) (and_from _ _ (eq-eqb i t.0 id) (eq-eqb j t.1 number)) ∙ by b reaches))
  where
    by : (b : Bool) → MatchBool b (j + 1 ≤ length (occurrences p f)) (length (occurrences p f) < j + 1) → list_any (is_other t) (tasks_from p f i (j + 1)) ≡ b
    by true more = first_is_other p t f i (j + 1) more (ap (λ c. c && (j + 1 == t.1)) (eq-eqb i t.0 id) ∙ ne_eqb (j + 1) t.1 (λ e. absurd (omega (arith, e, number))))
    by false none = none_from p t f i (j + 1) none

-- where a search is needed, its task is the first of the constraint that is active on top
needed_first : (p : Program) (s : State) (es : List Element) (w : ℕ × ℕ × ℕ) (below : List Element) (t : Task) → active_of s es ≡ Some (w, below) → needed_task_top p s es ≡ Some t → tasks_from p w.0 w.1 w.2 ≡ t ∷ tasks_from p w.0 w.1 (w.2 + 1)
needed_first p s [] w below t at e = cc
needed_first p s (goal g ∷ es) w below t at e = cc
needed_first p s (known i a ∷ es) w below t at e = cc
needed_first p s (active i j a ∷ es) w below t at e = by (lives s i) (occurrence p a.sym j) refl at e
  where
    by : (b : Bool) (o : Option Occurrence) → occurrence p a.sym j ≡ o → cond {A = Option ((ℕ × ℕ × ℕ) × List Element)} b (Some ((a.sym, i, j), es)) None ≡ Some (w, below) → cond {A = Option Task} (b && is_some o) (Some (i, j)) None ≡ Some t → tasks_from p w.0 w.1 w.2 ≡ t ∷ tasks_from p w.0 w.1 (w.2 + 1)
    by false o is at e = cc
    by true None is at e = cc
    by true (Some o) is at e =
        let active_is : (a.sym, i, j) ≡ w = (some_pair_parts (a.sym, i, j) w es below at).0 in
        let task_is : (i, j) ≡ t = same_Some {A = Task} (i, j) t e in
        subst (λ (w : ℕ × ℕ × ℕ). tasks_from p w.0 w.1 w.2 ≡ t ∷ tasks_from p w.0 w.1 (w.2 + 1)) active_is
        (tasks_next p a.sym i j (occurrence_within p a.sym j o is) ∙ ap (λ (u : Task). u ∷ tasks_from p a.sym i (j + 1)) task_is)

-- where a search is needed, there are two tasks or more where there is another than its own
pub two_needed : (m : Model) (w : ℕ × ℕ × ℕ) (below : List Element) (t : Task) → need m ≡ search_of t → Some (w, below) ≡ active_of (state_in m) m.stack
    → list_any (is_other t) (tasks_from m.rules w.0 w.1 w.2 ++ below_top m.rules (state_in m) below ++ guest_tasks m.rules (state_in m) (guest_in below)) ≡ nat_le 2 (length (tasks m.rules (state_in m)))
two_needed m w below t needs at =
    let p = m.rules in
    let s = state_in m in
    let first = needed_first p s m.stack w below t (sym at) (task_needed (needed_task p s) m.status t needs) in
    let us = below_top p s below in
    let vs = guest_tasks p s (guest_in below) in
    sym (ap (λ (ts : List Task). nat_le 2 (length ts)) (tasks_are p s m.stack ∙ ap (tasks_by p s) (sym at))
    ∙ (ap (λ (ts : List Task). nat_le 2 (length (gathered MAX_TASKS [] (ts ++ us ++ vs)))) first
    ∙ (two_tasks t (tasks_from p w.0 w.1 (w.2 + 1) ++ us ++ vs) ∙ ap (λ (ts : List Task). list_any (is_other t) (ts ++ us ++ vs)) (sym first))))

-- no constraint is active on top: there is no task
pub none_active : (m : Model) → None ≡ active_of (state_in m) m.stack → false ≡ nat_le 2 (length (tasks m.rules (state_in m)))
none_active m at = sym (ap (λ (ts : List Task). nat_le 2 (length ts)) (tasks_are m.rules (state_in m) m.stack ∙ ap (tasks_by m.rules (state_in m)) (sym at)))

-- the last of the first n elements is on top of those before it; m elements are still wanted
module _ {A : Type 0} (es : List (Elem A)) (n : ℕ) (e : Elem A) (some : 0 < n) (within : n ≤ length es) (at : e ≡ get_or es (n - 1) e) (p : Program) (s : State) (t : Task) (m : ℕ) where
  -- where it waits, it has another, or one below has
  pub other_here : (w : ℕ × ℕ × ℕ) → 0 < m → element_search s (elem_view e) ≡ Some w
      → list_any (is_other t) (waiting_tasks p s m (stack_view (take n es))) ≡ (list_any (is_other t) (tasks_from p w.0 w.1 w.2) || list_any (is_other t) (waiting_tasks p s (m - 1) (stack_view (take (n - 1) es))))
  other_here w more is =
      let more_is : m ≡ suc (m - 1) = omega (arith, more) in
      let below = stack_view (take (n - 1) es) in
      ap (λ xs. list_any (is_other t) (waiting_tasks p s m xs)) (stack_from es n e some within at)
      ∙ (ap (λ i. list_any (is_other t) (waiting_tasks p s i (elem_view e ∷ below))) more_is
      ∙ (ap (list_any (is_other t)) (waiting_first p s (m - 1) (elem_view e) below w is)
      ∙ list_any-append (is_other t) (tasks_from p w.0 w.1 w.2) (waiting_tasks p s (m - 1) below)))

  -- where it does not, one below has
  pub other_below : element_search s (elem_view e) ≡ None → list_any (is_other t) (waiting_tasks p s m (stack_view (take n es))) ≡ list_any (is_other t) (waiting_tasks p s m (stack_view (take (n - 1) es)))
  other_below is = ap (λ xs. list_any (is_other t) (waiting_tasks p s m xs)) (stack_from es n e some within at) ∙ ap (list_any (is_other t)) (waiting_passed p s m (elem_view e) (stack_view (take (n - 1) es)) is)
