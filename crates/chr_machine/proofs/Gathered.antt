-- Tasks that are gathered one after another.
use Rattle.std.proofs.Common.{◌≡◌, ◌∙◌, ◌+◌, ◌-◌, ◌<◌, ◌≤◌, ◌++◌, ℕ, zero, suc, Bool, true, false, cond, not, nat_lt, ◌&&◌, List, [], ◌∷◌, Some, None, ap, append-nil, append_assoc, arith, get_or, length, map, refl, sym, take}
use Rattle.std.specs.Prelude.{◌||◌}
use Rattle.std.specs.List.{cons_option, filter_map, flat_map, list_any}
use Rattle.std.proofs.lemmas.Bool.{le-ltb, ltb-false, ltb-true}
use Rattle.std.proofs.lemmas.List.{length_push, take_all}
use Rattle.std.proofs.lemmas.List.Folds.{list_any-append, list_any_at}
use Rattle.std.proofs.lemmas.List.Sums.{fold-append}
use Rattle.chr_semantics.specs.Program.{Program, occurrences}
use Rattle.chr_semantics.specs.State.{Element, State}
use Rattle.chr_semantics.specs.Tasks.{Task, element_search, numbers_from, same_task, tasks_from, without_repeats}
use Rattle.chr_find.specs.SnapshotView.{task_view, tasks_view}
use Rattle.chr_find.specs.declared.snapshot.Task as declared
use Rattle.chr_machine.specs.Gathering.{gathered, waiting_tasks, with_task}

-- where n stand there, no more are taken
pub gathered_full : (n : ℕ) (ts us : List Task) → n ≤ length ts → gathered n ts us ≡ ts
gathered_full n ts [] le = refl
gathered_full n ts (u ∷ us) le = ap (λ (b : Bool). gathered n (cond (b && not (list_any (same_task u) ts)) (ts ++ u ∷ []) ts) us) (le-ltb (length ts) n le) ∙ gathered_full n ts us le

-- the first n of a list that begins with n others are these
full_take : (n : ℕ) (ts us : List Task) → n ≤ length ts → length ts ≤ n → take n (ts ++ us) ≡ ts
full_take n ts us lo hi = let same : length ts ≡ n = omega (arith, lo, hi) in ap (λ k. take k (ts ++ us)) (sym same) ∙ first ts us
  where
    first : (xs ys : List Task) → take (length xs) (xs ++ ys) ≡ xs
    first [] ys = refl
    first (x ∷ xs) ys = ap (λ zs. x ∷ zs) (first xs ys)

-- whether a task is among others does not depend on the end at which the last one was put
seen_alike : (t x : Task) (seen ts : List Task) → list_any (same_task t) seen ≡ list_any (same_task t) ts → list_any (same_task t) (x ∷ seen) ≡ list_any (same_task t) (ts ++ x ∷ [])
seen_alike t x seen ts same =
    ap (λ (c : Bool). same_task t x || c) same ∙ (turned (same_task t x) (list_any (same_task t) ts) ∙ sym (list_any-append (same_task t) ts (x ∷ [])))
  where
    turned : (b c : Bool) → (b || c) ≡ (c || (b || false))
    turned true true = refl
    turned true false = refl
    turned false true = refl
    turned false false = refl

-- tasks that are gathered on top of others: these, and then the first that are not among those that were seen, up to n
gathered_on : (n : ℕ) (us seen ts : List Task) → ((t : Task) → list_any (same_task t) seen ≡ list_any (same_task t) ts) → length ts ≤ n → gathered n ts us ≡ take n (ts ++ without_repeats seen us)
gathered_on n [] seen ts same le = sym (ap (take n) (append-nil ts) ∙ take_all n ts le)
gathered_on n (u ∷ us) seen ts same le = by (nat_lt (length ts) n) (list_any (same_task u) ts) (list_any (same_task u) seen) refl (same u) (λ seen ts same le. gathered_on n us seen ts same le)
  where
    by : (b c d : Bool) → nat_lt (length ts) n ≡ b → d ≡ c → ((seen ts : List Task) → ((t : Task) → list_any (same_task t) seen ≡ list_any (same_task t) ts) → length ts ≤ n → gathered n ts us ≡ take n (ts ++ without_repeats seen us))
        → gathered n (cond (b && not c) (ts ++ u ∷ []) ts) us ≡ take n (ts ++ elim d [ true ↦ without_repeats seen us | false ↦ u ∷ without_repeats (u ∷ seen) us ])
    by true true true less e rest = rest seen ts same le
    by false true true less e rest = rest seen ts same le
    by true true false less e rest = cc
    by false true false less e rest = cc
    by true false true less e rest = cc
    by false false true less e rest = cc
    by false false false less e rest = let full : n ≤ length ts = ltb-false (length ts) n less in gathered_full n ts us full ∙ sym (full_take n ts (u ∷ without_repeats (u ∷ seen) us) full le)
    by true false false less e rest =
        let few : length ts < n = ltb-true (length ts) n less in
        rest (u ∷ seen) (ts ++ u ∷ []) (λ t. seen_alike t u seen ts (same t)) (omega (arith, length_push ts u, few))
        ∙ ap (take n) (append_assoc ts (u ∷ []) (without_repeats (u ∷ seen) us))

-- tasks that are gathered from none on are the first n of them without repeats
pub gathered_tasks : (n : ℕ) (us : List Task) → gathered n [] us ≡ take n (without_repeats [] us)
gathered_tasks n us = gathered_on n us [] [] (λ t. refl) (omega arith)

-- parts are gathered one after another
pub gathered_parts : (n : ℕ) (ts us vs : List Task) → gathered n ts (us ++ vs) ≡ gathered n (gathered n ts us) vs
gathered_parts n ts us vs = fold-append (with_task n) ts us vs

-- a number of an occurrence that is reached gives the next task
pub tasks_next : (p : Program) (f i j : ℕ) → j ≤ length (occurrences p f) → tasks_from p f i j ≡ (i, j) ∷ tasks_from p f i (j + 1)
tasks_next p f i j le =
    let more : length (occurrences p f) + 1 - j ≡ suc (length (occurrences p f) + 1 - (j + 1)) = omega (arith, le) in
    ap (λ n. map (λ k. (i, k)) (numbers_from j n)) more

-- an element that waits gives its tasks, and one element fewer is wanted
pub waiting_first : (p : Program) (s : State) (n : ℕ) (e : Element) (es : List Element) (w : ℕ × ℕ × ℕ) → element_search s e ≡ Some w → waiting_tasks p s (suc n) (e ∷ es) ≡ tasks_from p w.0 w.1 w.2 ++ waiting_tasks p s n es
waiting_first p s n e es w is = ap (λ o. flat_map (λ (w : ℕ × ℕ × ℕ). tasks_from p w.0 w.1 w.2) (take (suc n) (cons_option o (filter_map (element_search s) es)))) is

-- an element that does not wait is passed over
pub waiting_passed : (p : Program) (s : State) (n : ℕ) (e : Element) (es : List Element) → element_search s e ≡ None → waiting_tasks p s n (e ∷ es) ≡ waiting_tasks p s n es
waiting_passed p s n e es is = ap (λ o. flat_map (λ (w : ℕ × ℕ × ℕ). tasks_from p w.0 w.1 w.2) (take n (cons_option o (filter_map (element_search s) es)))) is

-- no element waits in an empty stack
pub waiting_none : (p : Program) (s : State) (n : ℕ) → waiting_tasks p s n [] ≡ []
waiting_none p s zero = refl
waiting_none p s (suc n) = refl

-- a task that stands among tasks is one of them
pub among_at : (t : Task) (ts : List declared.Task) (k : ℕ) (d : declared.Task) → k < length ts → same_task t (task_view (get_or ts k d)) ≡ true → list_any (same_task t) (tasks_view ts) ≡ true
among_at t ts k d lt e = list_any-map (same_task t) ts ∙ list_any_at (λ x. same_task t (task_view x)) ts k d lt e
  where
    list_any-map : (p : Task → Bool) (xs : List declared.Task) → list_any p (tasks_view xs) ≡ list_any (λ x. p (task_view x)) xs
    list_any-map p [] = refl
    list_any-map p (x ∷ xs) = ap (λ (b : Bool). p (task_view x) || b) (list_any-map p xs)
