-- A transition takes at most one element off the stack.
use Rattle.std.proofs.Common.{◌≡◌, ◌≤◌, ◌∙◌, ◌+◌, ◌++◌, ◌∷◌, [], Bool, Err, List, Ok, None, Option, Result, Some, ap, arith, cond, false, length, refl, true, ℕ, ℤ}
use Rattle.std.proofs.lemmas.List.{length-append}
use Rattle.chr_semantics.specs.Guard.{comparison_holds}
use Rattle.chr_semantics.specs.Mgu.{mgu}
use Rattle.chr_semantics.specs.Program.{Comparison, Goal, Program, compare, constraint, evaluate, fail, tell}
use Rattle.chr_semantics.specs.Search.{Found, firing, no_firing, no_occurrence}
use Rattle.chr_semantics.specs.State.{Element, State, Status, active, done, failed, faulted, goal, known, running}
use Rattle.chr_semantics.specs.Step.{bind_step, body_of, compare_step, evaluate_step, search_at, search_step, solve, step, step_at, step_top, woken_elements}
use Rattle.chr_semantics.specs.Subst.{Subst, apply}
use Rattle.chr_semantics.specs.Tree.{Tree, int}
use Rattle.chr_semantics.specs.Value.{Fault, value}

-- it is no lower than h
abbrev Reaches : ℕ → State → Type 0
Reaches h t = h ≤ length t.stack

above : {X : Type 0} (xs ys : List X) → length ys ≤ length (xs ++ ys)
above xs ys = rw (length-append xs ys) (omega arith)

either : {h : ℕ} (b : Bool) (t u : State) → Reaches h t → Reaches h u → Reaches h (cond b t u)
either true t u h k = h
either false t u h k = k

-- of a state with this stack: with the top, and without it
module _ (s : State) (e : Element) (rest : List Element) (is : s.stack ≡ e ∷ rest) where
  stays : length rest ≤ length s.stack
  stays = rw is (omega arith)

  told : (m : Option Subst) → Reaches (length rest) (bind_step s rest m)
  told None = stays
  told (Some r) = above (woken_elements s) rest

  evaluated : (x : Tree) (v : Result ℤ Fault) → Reaches (length rest) (evaluate_step s rest x v)
  evaluated x (Err f) = stays
  evaluated x (Ok z) = told (mgu s.subst x (int z))

  compared : (c : Comparison) (v w : Result ℤ Fault) → Reaches (length rest) (compare_step s rest c v w)
  compared c (Err f) w = stays
  compared c (Ok x) (Err f) = stays
  compared c (Ok x) (Ok y) = either (comparison_holds c x y) _ _ (above (woken_elements s) rest) stays

  solved : (g : Goal) → Reaches (length rest) (solve s rest g)
  solved (constraint a) = omega arith
  solved (tell t u) = told (mgu s.subst t u)
  solved (evaluate x t) = evaluated x (value (apply s.subst t))
  solved (compare c t u) = compared c (value (apply s.subst t)) (value (apply s.subst u))
  solved fail = stays

  put_back : (b : Bool) (x : Element) (body : List Element) → length rest ≤ length (body ++ cond b (x ∷ rest) rest)
  put_back true x body = rw (length-append body (x ∷ rest)) (omega arith)
  put_back false x body = above body rest

  searched : (i j : ℕ) (a : _) (w : Found) → Reaches (length rest) (search_step s rest i j a w)
  searched i j a no_occurrence = omega arith
  searched i j a no_firing = omega arith
  searched i j a (firing n r place t) = put_back _ (active i j a) (body_of r t s.next_var)

  on_top : (p : Program) → Reaches (length rest) (step_top p s (e ∷ rest))
  on_top p = by e
    where
      by : (e : Element) → Reaches (length rest) (step_top p s (e ∷ rest))
      by (goal g) = solved g
      by (known i a) = omega arith
      by (active i j a) = searched i j a (search_at p s i j a)

of_stack : (p : Program) (s : State) (es : List Element) → s.stack ≡ es → length s.stack ≤ length (step_top p s es).stack + 1
of_stack p s [] is = omega arith
of_stack p s (e ∷ rest) is =
    let reaches : length rest ≤ length (step_top p s (e ∷ rest)).stack = on_top s e rest is p in
    let whole : length s.stack ≡ length rest + 1 = ap (λ (es : List Element). length es) is ∙ omega arith in
    omega (arith, reaches, whole)

by_status : (p : Program) (s : State) (w : Status) → length s.stack ≤ length (step_at p s w).stack + 1
by_status p s running = of_stack p s s.stack refl
by_status p s done = omega arith
by_status p s failed = omega arith
by_status p s (faulted f) = omega arith

pub falls : (p : Program) (s : State) → length s.stack ≤ length (step p s).stack + 1
falls p s = by_status p s s.status
