-- The variables of some terms: the greatest one, and the first one that is bound.
use Rattle.std.proofs.Common.{◌≡◌, ◌∙◌, ◌++◌, ◌+◌, ℕ, Bool, IsTrue, ◌↔◌, true, false, cond, nat_lt, List, [], ◌∷◌, Option, Some, None, ap, arith, find, max, refl, inl, inr, sym, true≢false}
use Rattle.std.proofs.lemmas.Bool.{cases_Bool, ltb-true, ltb-false}
use Rattle.chr_semantics.specs.Mgu.{vars}
use Rattle.chr_semantics.specs.Subst.{IsSolved, Subst, apply, binds_var, value_at}
use Rattle.chr_semantics.specs.Tree.{Tree, int, node, var}
use Rattle.chr_semantics.specs.Verdict.{past}
use Rattle.chr_semantics.proofs.SolvedLaw.{bound_moves, unbound_stays}

-- one past the greater of two is the greater of what is past each
pub past_is : (x n : ℕ) → cond (nat_lt x n) n (x + 1) ≡ max (x + 1) n
past_is x n = elim (cases_Bool (nat_lt x n)) [ inl e ↦ rw e (omega (arith, ltb-true x n e)) | inr e ↦ rw e (omega (arith, ltb-false x n e)) ]

-- past two lists is past the greater of both
pub past_append : (xs ys : List ℕ) → past (xs ++ ys) ≡ max (past xs) (past ys)
past_append [] ys = omega arith
past_append (x ∷ xs) ys = let more = past_append xs ys in past_is x (past (xs ++ ys)) ∙ omega (arith, more, past_is x (past xs))

-- the first of one list, or else of the other
abbrev pub or_first : Option ℕ → Option ℕ → Option ℕ
or_first (Some x) o = Some x
or_first None o = o

pub find_append : (p : ℕ → Bool) (xs ys : List ℕ) → find p (xs ++ ys) ≡ or_first (find p xs) (find p ys)
find_append p [] ys = refl
find_append p (x ∷ xs) ys = by (p x) (find_append p xs ys)
  where
    by : (b : Bool) → find p (xs ++ ys) ≡ or_first (find p xs) (find p ys) → cond b (Some x) (find p (xs ++ ys)) ≡ or_first (cond b (Some x) (find p xs)) (find p ys)
    by true h = refl
    by false h = h

-- under solved bindings a variable is bound exactly where it does not stand for itself
pub first_bound_is : (s : Subst) → IsSolved s → (x : ℕ) (t : Tree) (b : Bool) → t ≡ var x → (IsTrue b ↔ (apply s t ≡ t)) → find (binds_var s) (vars t) ≡ cond b None (Some x)
first_bound_is s solved x (var y) b e h = by (binds_var s y) b refl h ∙ ap (λ (z : ℕ). cond b None (Some z)) (cc)
  where
    by : (c b : Bool) → binds_var s y ≡ c → (IsTrue b ↔ (value_at s y ≡ var y)) → cond c (Some y) None ≡ cond b None (Some y)
    by true true e h = absurd (bound_moves s solved y e (h.0 refl))
    by true false e h = refl
    by false true e h = refl
    by false false e h = absurd (true≢false (sym (h.1 (unbound_stays s y e))))
first_bound_is s solved x (int z) b e h = absurd (cc)
first_bound_is s solved x (node f ts) b e h = absurd (cc)
