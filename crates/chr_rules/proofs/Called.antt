-- Goals and tests of names.
use Rattle.std.proofs.Common.{◌≤◌, arith, length, Some, None, ◌≡◌, ◌∙◌, ◌||◌, ℕ, List, [], ◌∷◌, Bool, true, false, if◌then◌else◌, refl, ap, sym}
use Rattle.chr_semantics.specs.Syntax.{Expr, Exprs, exprs_of, plain}
use Rattle.std.specs.Prelude.{OnOk, Result, Ok, Err}
use Rattle.chr_read.specs.SyntaxView.{views}
use Rattle.chr_read.specs.declared.syntax.Expr.{Expr as Code}
use Rattle.chr_semantics.specs.Program.{Goal, constraint, fail}
use Rattle.chr_semantics.specs.Meaning.{Scope, atom_from, call_of, count, head_of, test_of, goal_of, is_fail, is_ground_test, is_integer_test, is_true}

abbrev tests : List ℕ → ℕ → Bool
tests w n = is_true w n || (is_integer_test w n || is_ground_test w n)

abbrev by_name : Scope → List ℕ → Exprs → Bool → Bool → Scope × List Goal
by_name s w es b c = if b then (s, []) else if c then (s, fail ∷ []) else ((atom_from s w es).0, constraint (atom_from s w es).1 ∷ [])

decided : (s : Scope) (w : List ℕ) (es : Exprs) (n : ℕ) (b c : Bool) → n ≡ count es → b ≡ tests w n → c ≡ is_fail w n → goal_of s w es ≡ by_name s w es b c
decided s w es n b c a h i = sym (ap (λ x. by_name s w es x c) (h ∙ ap (tests w) a) ∙ ap (by_name s w es (tests w (count es))) (i ∙ ap (is_fail w) a))

pub goal_left_out : (s : Scope) (w : List ℕ) (es : Exprs) (n : ℕ) → n ≡ count es → true ≡ (is_true w n || (is_integer_test w n || is_ground_test w n)) → goal_of s w es ≡ (s, [])
goal_left_out s w es n a h = decided s w es n true (is_fail w n) a h refl

pub goal_failing : (s : Scope) (w : List ℕ) (es : Exprs) (n : ℕ) → n ≡ count es → false ≡ (is_true w n || (is_integer_test w n || is_ground_test w n)) → true ≡ is_fail w n → goal_of s w es ≡ (s, fail ∷ [])
goal_failing s w es n a h i = decided s w es n false true a h i

pub goal_called : (s : Scope) (w : List ℕ) (es : Exprs) (n : ℕ) → n ≡ count es → false ≡ (is_true w n || (is_integer_test w n || is_ground_test w n)) → false ≡ is_fail w n
    → goal_of s w es ≡ ((atom_from s w es).0, constraint (atom_from s w es).1 ∷ [])
goal_called s w es n a h i = decided s w es n false false a h i

-- a test has one term
pub test_of_many : {A : Type 0} (s : Scope) (w : List ℕ) (es : List (Code A)) → 2 ≤ length es → test_of s w (exprs_of (views es)) ≡ (s, [])
test_of_many s w [] h = absurd (omega (arith, h))
test_of_many s w (e ∷ []) h = absurd (omega (arith, h))
test_of_many s w (e ∷ f ∷ es) h = refl

-- the head of a name
pub head_called : (s : Scope) (p : Bool) (e : Expr) (w : List ℕ) (es : Exprs) → call_of e ≡ Some (w, es) → head_of s p (plain e) ≡ ((atom_from s w es).0, record { atom = (atom_from s w es).1; passive = p } ∷ [])
head_called s p e w es h = ap (λ o. elim o [ None ↦ (s, []) | Some c ↦ (let r = atom_from s c.0 c.1 in (r.0, record { atom = r.1; passive = p } ∷ [])) ]) h

pub on_ok_answers : {T E : Type 0} (P Q : Type 0) (r : Result T E) → (P → Q) → OnOk r P → OnOk r Q
on_ok_answers P Q (Ok x) f h = f h
on_ok_answers P Q (Err e) f h = tt
