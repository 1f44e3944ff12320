-- A transition that touches no symbol of some leaves the resolved rows of these as they were.
use Rattle.std.proofs.Common.{Bool, Err, List, None, Ok, Option, Result, Some, [], ap, cond, drop, false, length, map, nat_lt, not, refl, sym, true, true≢false, ℕ, ℤ, ◌&&◌, ◌++◌, ◌==◌, ◌||◌, ◌∙◌, ◌∷◌, ◌≡◌}
use Rattle.std.proofs.lemmas.Bool.{eq-eqb, not-false, or_parts}
use Rattle.std.proofs.lemmas.Bool.Decides.{Decides-eqb}
use Rattle.std.specs.List.{list_any}
use Rattle.std.specs.Prelude.{filter}
use Rattle.chr_semantics.specs.Guard.{comparison_holds}
use Rattle.chr_semantics.specs.Match.{Row}
use Rattle.chr_semantics.specs.Mgu.{mgu}
use Rattle.chr_semantics.specs.Program.{Atom, Comparison, Goal, Head, Program, compare, constraint, evaluate, fail, tell}
use Rattle.chr_semantics.specs.Search.{Found, firing, has_number, ids_of, no_firing, no_occurrence}
use Rattle.chr_semantics.specs.State.{Element, State, Status, active, done, failed, faulted, goal, known, rows, running}
use Rattle.chr_semantics.specs.Step.{compare_step, evaluate_step, search_at, search_step, solve, step, step_at, step_top, bind_step}
use Rattle.chr_semantics.specs.Subst.{IsSolved, Solves, Subst, apply, instances, value_at}
use Rattle.chr_semantics.specs.Touch.{Mark, binds, found_touches, goal_touches, has_open, symbol, touches, touches_at, touches_top}
use Rattle.chr_semantics.specs.Tree.{Tree, int, is_ground_trees}
use Rattle.chr_semantics.specs.Value.{Fault, value}
use Rattle.chr_semantics.proofs.Ground.{extended_stays, mgu_same}
use Rattle.chr_semantics.proofs.Lookups.{of_kept, resolved_row}
use Rattle.chr_semantics.proofs.Occurrences.{has_symbol}
use Rattle.chr_semantics.proofs.UnifierEqual.{mgu_makes_equal}

-- no symbol that is kept is touched
abbrev pub Spares : (ℕ → Bool) → (Mark → Bool) → Type 0
Spares keep touch = (f : ℕ) → keep f ≡ true → touch (symbol f) ≡ false

-- the resolved rows of the kept symbols
abbrev pub kept_rows : (ℕ → Bool) → State → List Row
kept_rows keep s = filter (of_kept keep) (rows s)

-- built-ins
abbrev is_open : Subst → Row → Bool
is_open s r = not (is_ground_trees (instances (value_at s) r.1.args))

ground_row : (s : Subst) (x : Row) (b : Bool) → b ≡ true → (b && is_open s x) ≡ false → is_ground_trees (instances (value_at s) x.1.args) ≡ true
ground_row s x true is h = not-false (is_ground_trees (instances (value_at s) x.1.args)) h
ground_row s x false is h = absurd (true≢false (sym is))

same_atom_of : (s r : Subst) (x : Row) → instances (value_at r) x.1.args ≡ instances (value_at s) x.1.args → resolved_row r x ≡ resolved_row s x
same_atom_of s r x e = ap (λ ts. (x.0, record { sym = x.1.sym; args = ts })) e

bound_at : (b : Bool) (x y : Row) (xs ys : List Row) → (b ≡ true → x ≡ y) → xs ≡ ys → cond b (x ∷ xs) xs ≡ cond b (y ∷ ys) ys
bound_at true x y xs ys e h = cc (e refl)
bound_at false x y xs ys e h = h

kept_bound : (keep : ℕ → Bool) (s r : Subst) (xs : List Row) → Solves (value_at r) s → ((f : ℕ) → keep f ≡ true → list_any (λ x. x.1.sym == f && is_open s x) xs ≡ false)
    → filter (of_kept keep) (map (resolved_row r) xs) ≡ filter (of_kept keep) (map (resolved_row s) xs)
kept_bound keep s r [] h free = refl
kept_bound keep s r (x ∷ xs) h free =
    bound_at (keep x.1.sym) (resolved_row r x) (resolved_row s x) _ _
    (λ is. same_atom_of s r x (extended_stays s r x.1.args h (ground_row s x (x.1.sym == x.1.sym) (eq-eqb x.1.sym x.1.sym refl) (or_parts (x.1.sym == x.1.sym && is_open s x) _ (free x.1.sym is)).0)))
    (kept_bound keep s r xs h (λ f is. (or_parts (x.1.sym == f && is_open s x) _ (free f is)).1))

kept_told_at : (b : Bool) (keep : ℕ → Bool) (s r : Subst) (xs : List Row) → Solves (value_at r) s → (b ≡ false → r ≡ s) → ((f : ℕ) → keep f ≡ true → (b && list_any (λ x. x.1.sym == f && is_open s x) xs) ≡ false)
    → filter (of_kept keep) (map (resolved_row r) xs) ≡ filter (of_kept keep) (map (resolved_row s) xs)
kept_told_at true keep s r xs h same free = kept_bound keep s r xs h free
kept_told_at false keep s r xs h same free = ap (λ (u : Subst). filter (of_kept keep) (map (resolved_row u) xs)) (same refl)

kept_told : (keep : ℕ → Bool) (s : State) (rest : List Element) (t u : Tree) (m : Option Subst) → IsSolved s.subst → mgu s.subst t u ≡ m → ((f : ℕ) → keep f ≡ true → (binds s (bind_step s rest m) && has_open s f) ≡ false) → kept_rows keep (bind_step s rest m) ≡ kept_rows keep s
kept_told keep s rest t u None h is free = refl
kept_told keep s rest t u (Some r) h is free =
    kept_told_at (nat_lt (length s.subst) (length r)) keep s.subst r s.store (mgu_makes_equal s.subst t u h r is).1 (mgu_same s.subst t u r is) free

kept_evaluated : (keep : ℕ → Bool) (s : State) (rest : List Element) (x : Tree) (v : Result ℤ Fault) → IsSolved s.subst → ((f : ℕ) → keep f ≡ true → (binds s (evaluate_step s rest x v) && has_open s f) ≡ false) → kept_rows keep (evaluate_step s rest x v) ≡ kept_rows keep s
kept_evaluated keep s rest x (Err e) h free = refl
kept_evaluated keep s rest x (Ok z) h free = kept_told keep s rest x (int z) (mgu s.subst x (int z)) h refl free

kept_decided_at : (b : Bool) (keep : ℕ → Bool) (s : State) (t u : State) → rows t ≡ rows s → rows u ≡ rows s → kept_rows keep (cond b t u) ≡ kept_rows keep s
kept_decided_at true keep s t u h k = ap (filter (of_kept keep)) h
kept_decided_at false keep s t u h k = ap (filter (of_kept keep)) k

kept_decided : (keep : ℕ → Bool) (s : State) (rest : List Element) (c : Comparison) (v w : Result ℤ Fault) → kept_rows keep (compare_step s rest c v w) ≡ kept_rows keep s
kept_decided keep s rest c (Err e) w = refl
kept_decided keep s rest c (Ok x) (Err e) = refl
kept_decided keep s rest c (Ok x) (Ok y) = kept_decided_at (comparison_holds c x y) keep s _ _ refl refl

-- a new constraint
one_out : (keep : ℕ → Bool) (x : Row) (b : Bool) → keep x.1.sym ≡ b → ((f : ℕ) → keep f ≡ true → (x.1.sym == f) ≡ false) → b ≡ false
one_out keep x true is free = absurd (true≢false (sym (eq-eqb x.1.sym x.1.sym refl) ∙ free x.1.sym is))
one_out keep x false is free = refl

kept_added : (keep : ℕ → Bool) (s : Subst) (xs : List Row) (x : Row) → ((f : ℕ) → keep f ≡ true → (x.1.sym == f) ≡ false) → filter (of_kept keep) (map (resolved_row s) (xs ++ x ∷ [])) ≡ filter (of_kept keep) (map (resolved_row s) xs)
kept_added keep s [] x free = rw (one_out keep x (keep x.1.sym) refl free) refl
kept_added keep s (y ∷ xs) x free = bound_at (keep y.1.sym) (resolved_row s y) (resolved_row s y) _ _ (λ is. refl) (kept_added keep s xs x free)

-- removed constraints
removed_at : (k g : Bool) (x : Row) (xs ys : List Row) (keep : ℕ → Bool) (s : Subst) (zs : List Row) → keep x.1.sym ≡ k → (k ≡ true → g ≡ false) → filter (of_kept keep) (map (resolved_row s) zs) ≡ ys
    → filter (of_kept keep) (map (resolved_row s) (cond (not g) (x ∷ zs) zs)) ≡ cond k (resolved_row s x ∷ ys) ys
removed_at true true x xs ys keep s zs is out h = absurd (true≢false (out refl))
removed_at true false x xs ys keep s zs is out h = rw is (ap (λ (l : List Row). resolved_row s x ∷ l) h)
removed_at false true x xs ys keep s zs is out h = h
removed_at false false x xs ys keep s zs is out h = rw is h

among_not : (b g : Bool) → b ≡ true → (b && g) ≡ false → g ≡ false
among_not true g is h = h
among_not false g is h = absurd (true≢false (sym is))

kept_removed : (keep : ℕ → Bool) (s : Subst) (gone : List ℕ) (xs : List Row) → ((f : ℕ) → keep f ≡ true → list_any (λ x. x.1.sym == f && has_number gone x.0) xs ≡ false)
    → filter (of_kept keep) (map (resolved_row s) (filter (λ x. not (has_number gone x.0)) xs)) ≡ filter (of_kept keep) (map (resolved_row s) xs)
kept_removed keep s gone [] free = refl
kept_removed keep s gone (x ∷ xs) free =
    removed_at (keep x.1.sym) (has_number gone x.0) x xs _ keep s _ refl
    (λ is. among_not (x.1.sym == x.1.sym) (has_number gone x.0) (eq-eqb x.1.sym x.1.sym refl) (or_parts (x.1.sym == x.1.sym && has_number gone x.0) _ (free x.1.sym is)).0)
    (kept_removed keep s gone xs (λ f is. (or_parts (x.1.sym == f && has_number gone x.0) _ (free f is)).1))

-- a transition
kept_goal : (keep : ℕ → Bool) (s : State) (rest : List Element) (g : Goal) → IsSolved s.subst → Spares keep (goal_touches s rest g) → kept_rows keep (solve s rest g) ≡ kept_rows keep s
kept_goal keep s rest (constraint a) h free = kept_added keep s.subst s.store (s.next_id, a) free
kept_goal keep s rest (tell t u) h free = kept_told keep s rest t u (mgu s.subst t u) h refl free
kept_goal keep s rest (evaluate x t) h free = kept_evaluated keep s rest x (value (apply s.subst t)) h free
kept_goal keep s rest (compare c t u) h free = kept_decided keep s rest c _ _
kept_goal keep s rest fail h free = refl

kept_found : (keep : ℕ → Bool) (s : State) (rest : List Element) (i j : ℕ) (a : Atom) (w : Found) → Spares keep (found_touches s w) → kept_rows keep (search_step s rest i j a w) ≡ kept_rows keep s
kept_found keep s rest i j a no_occurrence free = refl
kept_found keep s rest i j a no_firing free = refl
kept_found keep s rest i j a (firing n r place t) free = kept_removed keep s.subst (drop r.kept (ids_of t)) s.store free

kept_top : (p : Program) (keep : ℕ → Bool) (s : State) (es : List Element) → IsSolved s.subst → Spares keep (touches_top p s es) → kept_rows keep (step_top p s es) ≡ kept_rows keep s
kept_top p keep s [] h free = refl
kept_top p keep s (goal g ∷ es) h free = kept_goal keep s es g h free
kept_top p keep s (known i a ∷ es) h free = refl
kept_top p keep s (active i j a ∷ es) h free = kept_found keep s es i j a (search_at p s i j a) free

kept_at : (p : Program) (keep : ℕ → Bool) (s : State) (w : Status) → IsSolved s.subst → Spares keep (touches_at p s w) → kept_rows keep (step_at p s w) ≡ kept_rows keep s
kept_at p keep s running h free = kept_top p keep s s.stack h free
kept_at p keep s done h free = refl
kept_at p keep s failed h free = refl
kept_at p keep s (faulted f) h free = refl

-- untouched symbols keep their resolved rows
pub kept_step : (p : Program) (keep : ℕ → Bool) (s : State) → IsSolved s.subst → Spares keep (touches p s) → kept_rows keep (step p s) ≡ kept_rows keep s
kept_step p keep s h free = kept_at p keep s s.status h free

spared_at : (b : Bool) (touch : Mark → Bool) (f g : ℕ) (others : Bool) → (b ≡ true → f ≡ g) → touch (symbol f) ≡ false → (others ≡ true → touch (symbol g) ≡ false) → (b || others) ≡ true → touch (symbol g) ≡ false
spared_at true touch f g others same h k e = ap (λ (x : ℕ). touch (symbol x)) (sym (same refl)) ∙ h
spared_at false touch f g others same h k e = k e

-- no mark of the heads is touched, so no symbol of theirs
pub spares_heads : (touch : Mark → Bool) (hs : List Head) → list_any touch (map (λ (h : Head). symbol h.atom.sym) hs) ≡ false → Spares (has_symbol hs) touch
spares_heads touch [] h f e = absurd (true≢false (sym e))
spares_heads touch (x ∷ hs) h f e =
    let r = or_parts (touch (symbol x.atom.sym)) (list_any touch (map (λ (y : Head). symbol y.atom.sym) hs)) h in
    spared_at (x.atom.sym == f) touch x.atom.sym f (has_symbol hs f) (Decides-eqb x.atom.sym f).0 r.0 (spares_heads touch hs r.1 f) e
