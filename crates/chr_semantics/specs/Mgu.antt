-- The most general unifier (Frühwirth 2009, unification; Duck et al. 2004 leave solving to the built-in solver).
use Rattle.std.specs.Prelude.{◌≡◌, ℕ, zero, suc, true, false, cond, ◌==◌, ◌||◌, nat_lt, Option, Some, None, List, [], ◌∷◌, ◌++◌, length}
use Rattle.std.specs.List.{list_any}
use Rattle.std.specs.Ordering.{int_eq}
use Rattle.chr_semantics.specs.Tree.{Tree, var, int, node, Trees, none, more}
use Rattle.chr_semantics.specs.Subst.{instance, Subst, value_at, apply, binds_var, occurs, with_binding, Solves, IsSolved}

-- An equation has a variable on the left and another term on the right.
abbrev pub Equations : Type 0
Equations = List (ℕ × Tree)

-- the equations of both, where both have some
abbrev pub both : Option Equations → Option Equations → Option Equations
both None b = None
both (Some es) None = None
both (Some es) (Some fs) = Some (es ++ fs)

-- a variable against a term: of two variables the greater stands on the left, and a variable against itself is dropped
abbrev pub of_var : ℕ → Tree → Equations
of_var x (var y) = cond (x == y) [] (cond (nat_lt x y) ((y, var x) ∷ []) ((x, var y) ∷ []))
of_var x (int z) = (x, int z) ∷ []
of_var x (node g ts) = (x, node g ts) ∷ []

-- two terms taken apart into equations, from left to right; none where symbols, numbers or lengths differ
abbrev mutual
  pub apart : Tree → Tree → Option Equations
  apart (var x) b = Some (of_var x b)
  apart (int z) (var y) = Some ((y, int z) ∷ [])
  apart (int z) (int w) = cond (int_eq z w) (Some []) None
  apart (int z) (node g us) = None
  apart (node f ts) (var y) = Some ((y, node f ts) ∷ [])
  apart (node f ts) (int w) = None
  apart (node f ts) (node g us) = cond (f == g) (apart_all ts us) None

  pub apart_all : Trees → Trees → Option Equations
  apart_all none none = Some []
  apart_all none (more u us) = None
  apart_all (more t ts) none = None
  apart_all (more t ts) (more u us) = both (apart t u) (apart_all ts us)

-- the equations with the substitution applied to both sides, taken apart again
abbrev pub apart_under : Subst → Equations → Option Equations
apart_under s [] = Some []
apart_under s (e ∷ es) = both (apart (value_at s e.0) (apply s e.1)) (apart_under s es)

-- The variables on the left are eliminated one after another: each is bound, and replaced in the equations that are left; none where
-- a variable occurs in its other side. The number bounds the eliminations and is never reached.
abbrev pub elimination : ℕ → Subst → Equations → Option Subst
elimination n s [] = Some s
elimination zero s (e ∷ es) = None
elimination (suc n) s (e ∷ es) = elim (occurs e.0 e.1) [
  | true ↦ None
  | false ↦ elim (apart_under ((e.0, e.1) ∷ []) es) [ None ↦ None | Some fs ↦ elimination n (with_binding e.0 e.1 s) fs ]
]

abbrev pub elimination_from : ℕ → Subst → Option Equations → Option Subst
elimination_from n s None = None
elimination_from n s (Some es) = elimination n s es

-- the variables of a term, each as often as it occurs
abbrev mutual
  pub vars : Tree → List ℕ
  vars (var x) = x ∷ []
  vars (int z) = []
  vars (node g ts) = vars_of_all ts

  pub vars_of_all : Trees → List ℕ
  vars_of_all none = []
  vars_of_all (more t ts) = vars t ++ vars_of_all ts

-- the solved substitution that extends s and makes both terms equal, or none
unfoldable pub mgu : Subst → Tree → Tree → Option Subst
mgu s a b = elimination_from (length (vars (apply s a) ++ vars (apply s b))) s (apart (apply s a) (apply s b))

-- The law of the mgu, for a solved s: the result is solved, has the bindings of s and makes both terms equal; whatever solves s and makes
-- both terms equal solves the result too, so that t and apply(result, t) come to the same under it; it binds no variable but those that s
-- binds and those of the terms under s; and where there is no result, nothing solves s and makes both terms equal.
pub record UnifierLaw : Type 0 where
  pub equal : (s : Subst) (a b : Tree) → IsSolved s → (r : Subst) → mgu s a b ≡ Some r → IsSolved r × Solves (value_at r) s × (apply r a ≡ apply r b)
  pub general : (s : Subst) (a b : Tree) (f : ℕ → Tree) → Solves f s → instance f a ≡ instance f b → (r : Subst) → mgu s a b ≡ Some r → Solves f r
  pub same_result : (f : ℕ → Tree) (r : Subst) → Solves f r → (t : Tree) → instance f (apply r t) ≡ instance f t
  pub binds : (s : Subst) (a b : Tree) (r : Subst) → mgu s a b ≡ Some r → (y : ℕ) → binds_var r y ≡ true → (binds_var s y || list_any (λ (v : ℕ). v == y) (vars (apply s a) ++ vars (apply s b))) ≡ true
  pub only : (s : Subst) (a b : Tree) → mgu s a b ≡ None → (f : ℕ → Tree) → Solves f s → instance f a ≡ instance f b → ⊥
