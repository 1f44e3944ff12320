-- The definitions as coded types, so that a core can keep what it says of them.
use Rattle.std.specs.Prelude.{◌≡◌, ◌+◌, ℕ, zero, suc, Bool, List, refl}
use Rattle.std.specs.Coded.{Coded, code_by, coded_ℕ, coded_bool, coded_list, coded×}
use Rattle.chr_term.specs.Code.{tree_code}
use Rattle.chr_semantics.specs.Match.{Row}
use Rattle.chr_semantics.specs.Program.{Atom, Comparison, Goal, Head, Rule, Test, at_least, at_most, compare, compares, constraint, differs, equals, evaluate, fail, greater, identical, is_ground, is_integer, less, not_unifiable, tell}
use Rattle.chr_semantics.specs.Search.{History}
use Rattle.chr_semantics.specs.State.{Element, State, Status, active, done, failed, faulted, goal, known, running}
use Rattle.chr_semantics.specs.Subst.{Subst}
use Rattle.chr_semantics.specs.Tree.{Tree, none, var}
use Rattle.chr_semantics.specs.Value.{Fault, not_number, overflow, unbound, zero_divisor}
use Rattle.chr_find.specs.AtomCode.{atom_code, atom_from, tree_of}

-- the kinds of comparisons, counted from 0
abbrev pub comparison_number : Comparison → ℕ
comparison_number less = 0
comparison_number greater = 1
comparison_number at_most = 2
comparison_number at_least = 3
comparison_number equals = 4
comparison_number differs = 5

abbrev pub comparison_of : ℕ → Comparison
comparison_of zero = less
comparison_of (suc zero) = greater
comparison_of (suc (suc zero)) = at_most
comparison_of (suc (suc (suc zero))) = at_least
comparison_of (suc (suc (suc (suc zero)))) = equals
comparison_of _ = differs

-- a goal and a test: the kind, and two terms
abbrev pub goal_parts : Goal → ℕ × (Tree × Tree)
goal_parts (constraint a) = (0, (tree_of a, var 0))
goal_parts (tell t u) = (1, (t, u))
goal_parts (evaluate t u) = (2, (t, u))
goal_parts fail = (3, (var 0, var 0))
goal_parts (compare c t u) = (4 + comparison_number c, (t, u))

abbrev pub goal_from : ℕ → Tree → Tree → Goal
goal_from zero t u = constraint (atom_from t)
goal_from (suc zero) t u = tell t u
goal_from (suc (suc zero)) t u = evaluate t u
goal_from (suc (suc (suc zero))) t u = fail
goal_from (suc (suc (suc (suc k)))) t u = compare (comparison_of k) t u

pub goal_back : (g : Goal) → (let w = goal_parts g in goal_from w.0 w.1.0 w.1.1 ≡ g)
goal_back (constraint a) = refl
goal_back (tell t u) = refl
goal_back (evaluate t u) = refl
goal_back fail = refl
goal_back (compare less t u) = refl
goal_back (compare greater t u) = refl
goal_back (compare at_most t u) = refl
goal_back (compare at_least t u) = refl
goal_back (compare equals t u) = refl
goal_back (compare differs t u) = refl

abbrev pub goal_code : Coded Goal
goal_code = code_by (ℕ × (Tree × Tree)) (coded× coded_ℕ (coded× tree_code tree_code)) goal_parts (λ w. goal_from w.0 w.1.0 w.1.1) goal_back

abbrev pub test_parts : Test → ℕ × (Tree × Tree)
test_parts (identical t u) = (0, (t, u))
test_parts (not_unifiable t u) = (1, (t, u))
test_parts (is_integer t) = (2, (t, var 0))
test_parts (is_ground t) = (3, (t, var 0))
test_parts (compares c t u) = (4 + comparison_number c, (t, u))

abbrev pub test_from : ℕ → Tree → Tree → Test
test_from zero t u = identical t u
test_from (suc zero) t u = not_unifiable t u
test_from (suc (suc zero)) t u = is_integer t
test_from (suc (suc (suc zero))) t u = is_ground t
test_from (suc (suc (suc (suc k)))) t u = compares (comparison_of k) t u

pub test_back : (g : Test) → (let w = test_parts g in test_from w.0 w.1.0 w.1.1 ≡ g)
test_back (identical t u) = refl
test_back (not_unifiable t u) = refl
test_back (is_integer t) = refl
test_back (is_ground t) = refl
test_back (compares less t u) = refl
test_back (compares greater t u) = refl
test_back (compares at_most t u) = refl
test_back (compares at_least t u) = refl
test_back (compares equals t u) = refl
test_back (compares differs t u) = refl

abbrev pub test_code : Coded Test
test_code = code_by (ℕ × (Tree × Tree)) (coded× coded_ℕ (coded× tree_code tree_code)) test_parts (λ w. test_from w.0 w.1.0 w.1.1) test_back

abbrev pub head_code : Coded Head
head_code = code_by (Atom × Bool) (coded× atom_code coded_bool) (λ h. (h.atom, h.passive)) (λ w. record { atom = w.0; passive = w.1 }) (λ _. refl)

abbrev pub rule_code : Coded Rule
rule_code = code_by (List ℕ × (ℕ × (List Head × (List Test × (List Goal × (ℕ × ℕ)))))) (coded× (coded_list coded_ℕ) (coded× coded_ℕ (coded× (coded_list head_code) (coded× (coded_list test_code) (coded× (coded_list goal_code) (coded× coded_ℕ coded_ℕ))))))
    (λ r. (r.label, (r.kept, (r.heads, (r.guard, (r.body, (r.head_vars, r.vars)))))))
    (λ w. record { label = w.0; kept = w.1.0; heads = w.1.1.0; guard = w.1.1.1.0; body = w.1.1.1.1.0; head_vars = w.1.1.1.1.1.0; vars = w.1.1.1.1.1.1 })
    (λ _. refl)

-- a stack element: the kind, two numbers, and a goal
abbrev pub element_parts : Element → ℕ × (ℕ × (ℕ × Goal))
element_parts (goal g) = (0, (0, (0, g)))
element_parts (known i a) = (1, (i, (0, constraint a)))
element_parts (active i j a) = (2, (i, (j, constraint a)))

abbrev pub atom_in : Goal → Atom
atom_in (constraint a) = a
atom_in _ = record { sym = 0; args = none }

abbrev pub element_from : ℕ → ℕ → ℕ → Goal → Element
element_from zero i j g = goal g
element_from (suc zero) i j g = known i (atom_in g)
element_from (suc (suc k)) i j g = active i j (atom_in g)

pub element_back : (e : Element) → (let w = element_parts e in element_from w.0 w.1.0 w.1.1.0 w.1.1.1 ≡ e)
element_back (goal g) = refl
element_back (known i a) = refl
element_back (active i j a) = refl

abbrev pub element_code : Coded Element
element_code = code_by (ℕ × (ℕ × (ℕ × Goal))) (coded× coded_ℕ (coded× coded_ℕ (coded× coded_ℕ goal_code))) element_parts (λ w. element_from w.0 w.1.0 w.1.1.0 w.1.1.1) element_back

-- how a run stands, counted from 0
abbrev pub status_number : Status → ℕ
status_number running = 0
status_number done = 1
status_number failed = 2
status_number (faulted unbound) = 3
status_number (faulted not_number) = 4
status_number (faulted overflow) = 5
status_number (faulted zero_divisor) = 6

abbrev pub status_of : ℕ → Status
status_of zero = running
status_of (suc zero) = done
status_of (suc (suc zero)) = failed
status_of (suc (suc (suc zero))) = faulted unbound
status_of (suc (suc (suc (suc zero)))) = faulted not_number
status_of (suc (suc (suc (suc (suc zero))))) = faulted overflow
status_of _ = faulted zero_divisor

pub status_back : (w : Status) → status_of (status_number w) ≡ w
status_back running = refl
status_back done = refl
status_back failed = refl
status_back (faulted unbound) = refl
status_back (faulted not_number) = refl
status_back (faulted overflow) = refl
status_back (faulted zero_divisor) = refl

abbrev pub status_code : Coded Status
status_code = code_by ℕ coded_ℕ status_number status_of status_back

abbrev pub state_code : Coded State
state_code = code_by (List Element × (List Row × (Subst × (History × (ℕ × (ℕ × Status))))))
    (coded× (coded_list element_code) (coded× (coded_list (coded× coded_ℕ atom_code)) (coded× (coded_list (coded× coded_ℕ tree_code)) (coded× (coded_list (coded× coded_ℕ (coded_list coded_ℕ))) (coded× coded_ℕ (coded× coded_ℕ status_code))))))
    (λ s. (s.stack, (s.store, (s.subst, (s.history, (s.next_id, (s.next_var, s.status)))))))
    (λ w. record { stack = w.0; store = w.1.0; subst = w.1.1.0; history = w.1.1.1.0; next_id = w.1.1.1.1.0; next_var = w.1.1.1.1.1.0; status = w.1.1.1.1.1.1 })
    (λ _. refl)
