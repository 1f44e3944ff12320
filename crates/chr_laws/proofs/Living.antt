-- The tasks of a state are of constraints that live, or of the guest.
use Rattle.std.proofs.Common.{Bool, List, None, Option, Some, [], cond, false, refl, true, zero, suc, ℕ, ◌++◌, ◌==◌, ◌||◌, ◌∷◌, ◌≡◌, map}
use Rattle.std.proofs.lemmas.Bool.{and_from, and_parts, eq-eqb, or_left, or_right}
use Rattle.std.specs.List.{cons_option, list_all, list_any, filter_map, flat_map}
use Rattle.std.specs.Prelude.{slice_get, take}
use Rattle.chr_semantics.specs.Program.{Program, constraint, tell, evaluate, compare, fail}
use Rattle.chr_semantics.specs.State.{Element, State, active, goal, known}
use Rattle.chr_semantics.specs.Tasks.{Task, below_top, element_search, guest_in, guest_tasks, lives, same_task, tasks, tasks_from, tasks_top, without_repeats}
use Rattle.chr_semantics.specs.declared.limits.TheConstants.{MAX_TASKS, MAX_WAITING_ELEMENTS}
use Rattle.chr_laws.specs.Sums.{LivingLaw}

all_take : {X : Type 0} (test : X → Bool) (n : ℕ) (xs : List X) → list_all test xs ≡ true → list_all test (take n xs) ≡ true
all_take test zero xs h = refl
all_take test (suc n) [] h = refl
all_take test (suc n) (x ∷ xs) h = let r = and_parts (test x) (list_all test xs) h in and_from (test x) _ r.0 (all_take test n xs r.1)

all_append : {X : Type 0} (test : X → Bool) (xs ys : List X) → list_all test xs ≡ true → list_all test ys ≡ true → list_all test (xs ++ ys) ≡ true
all_append test [] ys h k = k
all_append test (x ∷ xs) ys h k = let r = and_parts (test x) (list_all test xs) h in and_from (test x) _ r.0 (all_append test xs ys r.1 k)

all_get : {X : Type 0} (test : X → Bool) (xs : List X) (k : ℕ) (x : X) → list_all test xs ≡ true → slice_get xs k ≡ Some x → test x ≡ true
all_get test [] k x h e = cc
all_get test (y ∷ ys) zero x h e = let r = and_parts (test y) (list_all test ys) h in cc
all_get test (y ∷ ys) (suc k) x h e = let r = and_parts (test y) (list_all test ys) h in all_get test ys k x r.1 e

-- of a constraint that lives, or of the guest
abbrev is_of : State → Task → Bool
is_of s t = lives s t.0 || t.0 == s.next_id

all_once : (test : Task → Bool) (seen ts : List Task) → list_all test ts ≡ true → list_all test (without_repeats seen ts) ≡ true
all_once test seen [] h = refl
all_once test seen (t ∷ ts) h =
    let r = and_parts (test t) (list_all test ts) h in
    at (list_any (same_task t) seen) (all_once test seen ts r.1) (and_from (test t) _ r.0 (all_once test (t ∷ seen) ts r.1))
  where
    at : (b : Bool) → list_all test (without_repeats seen ts) ≡ true → list_all test (t ∷ without_repeats (t ∷ seen) ts) ≡ true
        → list_all test (elim b [ true ↦ without_repeats seen ts | false ↦ t ∷ without_repeats (t ∷ seen) ts ]) ≡ true
    at true x y = x
    at false x y = y

all_numbered : (s : State) (i : ℕ) (ks : List ℕ) → (lives s i || i == s.next_id) ≡ true → list_all (is_of s) (map (λ k. (i, k)) ks) ≡ true
all_numbered s i [] h = refl
all_numbered s i (k ∷ ks) h = and_from (is_of s (i, k)) _ h (all_numbered s i ks h)

all_from : (p : Program) (s : State) (f i j : ℕ) → (lives s i || i == s.next_id) ≡ true → list_all (is_of s) (tasks_from p f i j) ≡ true
all_from p s f i j h = all_numbered s i _ h

-- what is searched for below the top lives
abbrev searches : State → List (ℕ × ℕ × ℕ) → Bool
searches s ws = list_all (λ (w : ℕ × ℕ × ℕ). lives s w.1) ws

all_searches : (s : State) (es : List Element) → searches s (filter_map (element_search s) es) ≡ true
all_searches s [] = refl
all_searches s (goal g ∷ es) = all_searches s es
all_searches s (known i a ∷ es) = at (lives s i) refl (all_searches s es)
  where
    at : (b : Bool) → lives s i ≡ b → searches s (filter_map (element_search s) es) ≡ true → searches s (cons_option (cond {A = Option (ℕ × ℕ × ℕ)} b (Some (a.sym, i, 1)) None) (filter_map (element_search s) es)) ≡ true
    at true is h = and_from (lives s i) _ is h
    at false is h = h
all_searches s (active i j a ∷ es) = at (lives s i) refl (all_searches s es)
  where
    at : (b : Bool) → lives s i ≡ b → searches s (filter_map (element_search s) es) ≡ true → searches s (cons_option (cond {A = Option (ℕ × ℕ × ℕ)} b (Some (a.sym, i, j)) None) (filter_map (element_search s) es)) ≡ true
    at true is h = and_from (lives s i) _ is h
    at false is h = h

all_below : (p : Program) (s : State) (ws : List (ℕ × ℕ × ℕ)) → searches s ws ≡ true → list_all (is_of s) (flat_map (λ (w : ℕ × ℕ × ℕ). tasks_from p w.0 w.1 w.2) ws) ≡ true
all_below p s [] h = refl
all_below p s (w ∷ ws) h =
    let r = and_parts (lives s w.1) (searches s ws) h in
    all_append (is_of s) (tasks_from p w.0 w.1 w.2) _ (all_from p s w.0 w.1 w.2 (or_left (lives s w.1) _ r.0)) (all_below p s ws r.1)

all_guest : (p : Program) (s : State) (es : List Element) → list_all (is_of s) (guest_tasks p s (guest_in es)) ≡ true
all_guest p s [] = refl
all_guest p s (goal (constraint a) ∷ es) = all_from p s a.sym s.next_id 1 (or_right (lives s s.next_id) _ (eq-eqb s.next_id s.next_id refl))
all_guest p s (goal (tell t u) ∷ es) = all_guest p s es
all_guest p s (goal (evaluate t u) ∷ es) = all_guest p s es
all_guest p s (goal (compare c t u) ∷ es) = all_guest p s es
all_guest p s (goal fail ∷ es) = all_guest p s es
all_guest p s (known i a ∷ es) = all_guest p s es
all_guest p s (active i j a ∷ es) = all_guest p s es

all_tasks : (p : Program) (s : State) (es : List Element) → list_all (is_of s) (tasks_top p s es) ≡ true
all_tasks p s [] = refl
all_tasks p s (goal g ∷ es) = refl
all_tasks p s (known i a ∷ es) = refl
all_tasks p s (active i j a ∷ es) = at (lives s i) refl
  where
    found : searches s (take MAX_WAITING_ELEMENTS (filter_map (element_search s) es)) ≡ true
    found = all_take (λ (w : ℕ × ℕ × ℕ). lives s w.1) MAX_WAITING_ELEMENTS (filter_map (element_search s) es) (all_searches s es)

    at : (b : Bool) → lives s i ≡ b → list_all (is_of s) (cond b (take MAX_TASKS (without_repeats [] (tasks_from p a.sym i j ++ below_top p s es ++ guest_tasks p s (guest_in es)))) []) ≡ true
    at true is =
        all_take (is_of s) MAX_TASKS _ (all_once (is_of s) [] _ (
        all_append (is_of s) (tasks_from p a.sym i j ++ below_top p s es) _
        (all_append (is_of s) (tasks_from p a.sym i j) _ (all_from p s a.sym i j (or_left (lives s i) _ is)) (all_below p s _ found))
        (all_guest p s es)
        ))
    at false is = refl

pub living_law : LivingLaw
living_law p s x t e = all_get (is_of s) (tasks p s) x t (all_tasks p s s.stack) e
