-- Which variables are bound, and their lines.
use Rattle.std.proofs.Common.{◌≡◌, ◌↔◌, ◌∙◌, ◌<◌, ◌+◌, ◌-◌, ℕ, suc, Bool, true, false, not, IsTrue, List, [], ◌∷◌, ◌++◌, Option, Some, None, cond, ap, arith, is_some, length, length-append, refl, sym}
use Rattle.std.specs.Borrow.{Bor}
use Rattle.std.specs.Option.{option_copied}
use Rattle.std.specs.Prelude.{codes}
use Rattle.chr_semantics.specs.Names.{Names, VarNames, var_name}
use Rattle.chr_semantics.specs.Print.{term_text}
use Rattle.chr_semantics.specs.Subst.{IsSolved, Subst, binds_var, value_at}
use Rattle.chr_semantics.specs.Text.{binding_text, bindings_from}
use Rattle.chr_semantics.specs.Tree.{var}
use Rattle.chr_semantics.proofs.SolvedLaw.{bound_moves, unbound_stays}
use Rattle.chr_trace.specs.ScribeView.{name_if}

-- a variable is bound exactly where it does not stand for itself
pub bound_where : (s : Subst) (x : ℕ) (stays : Bool) → IsSolved s → (IsTrue stays ↔ (value_at s x ≡ var x)) → not stays ≡ binds_var s x
bound_where s x stays solved h = by_test stays (binds_var s x) refl refl
  where
    by_test : (b d : Bool) → stays ≡ b → binds_var s x ≡ d → not stays ≡ binds_var s x
    by_test true true is bound = absurd (bound_moves s solved x bound (h.0 is))
    by_test true false is bound = ap not is ∙ sym bound
    by_test false true is bound = ap not is ∙ sym bound
    by_test false false is bound = ap not (h.1 (unbound_stays s x bound)) ∙ sym bound

module _ (names : Names) (vars : VarNames) (s : Subst) (x : ℕ) where
  -- a variable with no such name has no line
  pub no_line : (o : Option (List ℕ)) → None ≡ name_if (binds_var s x) o → binding_text names vars s x o ≡ []
  no_line None e = refl
  no_line (Some n) e = by_test (binds_var s x) e
    where
      by_test : (b : Bool) → None ≡ cond b (Some n) None → cond b ((n ++ (codes " = " ++ term_text names vars (value_at s x))) ∷ []) [] ≡ []
      by_test true e = cc
      by_test false e = refl

  -- and one that has it has one line
  pub one_line : (o : Option (List ℕ)) (name : List ℕ) → Some name ≡ name_if (binds_var s x) o → binding_text names vars s x o ≡ (name ++ (codes " = " ++ term_text names vars (value_at s x))) ∷ []
  one_line None name e = cc
  one_line (Some n) name e = by_test (binds_var s x) e
    where
      by_test : (b : Bool) → Some name ≡ cond b (Some n) None → cond b ((n ++ (codes " = " ++ term_text names vars (value_at s x))) ∷ []) [] ≡ (name ++ (codes " = " ++ term_text names vars (value_at s x))) ∷ []
      by_test true e = let same : n ≡ name = cc in ap (λ (m : List ℕ). (m ++ (codes " = " ++ term_text names vars (value_at s x))) ∷ []) same
      by_test false e = cc

  -- the first variable, and those after it
  pub bindings-more : (n : ℕ) → x < n → bindings_from names vars s x (n - x) ≡ binding_text names vars s x (var_name vars x) ++ bindings_from names vars s (x + 1) (n - (x + 1))
  bindings-more n lt = let e : n - x ≡ suc (n - (x + 1)) = omega arith in ap (bindings_from names vars s x) e

  length-binding : (o : Option (List ℕ)) (b : Bool) → b ≡ is_some (name_if (binds_var s x) o) → length (binding_text names vars s x o) ≡ cond b 1 0
  length-binding None b e = rw e
  length-binding (Some n) b e = by_test (binds_var s x) e
    where
      by_test : (d : Bool) → b ≡ is_some (cond d (Some n) None) → length (cond d ((n ++ (codes " = " ++ term_text names vars (value_at s x))) ∷ []) []) ≡ cond b 1 0
      by_test true e = rw e
      by_test false e = rw e

  -- how many lines the first variable and those after it have
  pub length-bindings-more : (n : ℕ) (b : Bool) → x < n → b ≡ is_some (name_if (binds_var s x) (var_name vars x)) → length (bindings_from names vars s x (n - x)) ≡ cond b 1 0 + length (bindings_from names vars s (x + 1) (n - (x + 1)))
  length-bindings-more n b lt e =
      ap length (bindings-more n lt)
      ∙ (length-append (binding_text names vars s x (var_name vars x)) (bindings_from names vars s (x + 1) (n - (x + 1)))
      ∙ ap (λ k. k + length (bindings_from names vars s (x + 1) (n - (x + 1)))) (length-binding (var_name vars x) b e))

-- a reference is there where what it points to is
pub is_some-copied : {X : Type 0} (o : Option (Bor X)) → is_some o ≡ is_some (option_copied o)
is_some-copied None = refl
is_some-copied (Some x) = refl
