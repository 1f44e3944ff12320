-- Matching, one way, of heads with resolved constraints (Frühwirth 2009, matching; Duck et al. 2004, Simplify and Propagate).
use Rattle.std.specs.Prelude.{◌≡◌, ℕ, Bool, cond, ◌==◌, List, [], ◌∷◌, map, Option, Some, None, option_and_then}
use Rattle.std.specs.List.{list_any}
use Rattle.std.specs.Ordering.{int_eq}
use Rattle.chr_semantics.specs.Tree.{Tree, var, int, node, Trees, none, more, same}
use Rattle.chr_semantics.specs.Subst.{Subst, binds_var, instances, occurs_any, value_at}
use Rattle.chr_semantics.specs.Program.{Atom, Head}

-- a constraint of the store with its identity, c#i
abbrev pub Row : Type 0
Row = ℕ × Atom

-- what a head variable is matched to, if it is
abbrev pub match_at : Subst → ℕ → Option Tree
match_at [] x = None
match_at (p ∷ m) x = cond (p.0 == x) (Some p.1) (match_at m x)

-- a head variable that occurs again needs the same term
abbrev pub fit_var : Subst → ℕ → Tree → Option Tree → Option Subst
fit_var m x t None = Some ((x, t) ∷ m)
fit_var m x t (Some u) = cond (same u t) (Some m) None

-- the match m extended over head variables alone so that the pattern becomes the term, or none
abbrev mutual
  pub fit : Tree → Tree → Subst → Option Subst
  fit (var x) t m = fit_var m x t (match_at m x)
  fit (int z) (var y) m = None
  fit (int z) (int w) m = cond (int_eq z w) (Some m) None
  fit (int z) (node g us) m = None
  fit (node f ts) (var y) m = None
  fit (node f ts) (int w) m = None
  fit (node f ts) (node g us) m = cond (f == g) (fit_all ts us m) None

  pub fit_all : Trees → Trees → Subst → Option Subst
  fit_all none none m = Some m
  fit_all none (more u us) m = None
  fit_all (more t ts) none m = None
  fit_all (more t ts) (more u us) m = option_and_then (fit_all ts us) (fit t u m)

abbrev pub fit_atom : Atom → Atom → Subst → Option Subst
fit_atom h a m = cond (h.sym == a.sym) (fit_all h.args a.args m) None

-- the heads against the rows, one row for each head
abbrev pub fit_rows : List Head → List Row → Subst → Option Subst
fit_rows [] [] m = Some m
fit_rows [] (a ∷ others) m = None
fit_rows (h ∷ hs) [] m = None
fit_rows (h ∷ hs) (a ∷ others) m = option_and_then (fit_rows hs others) (fit_atom h.atom a.1 m)

-- the substitution over head variables alone that makes the heads equal to the resolved rows, or none
abbrev pub fits : List Head → List Row → Option Subst
fits heads rows = fit_rows heads rows []

-- the constraints that heads stand for under a function of variables
abbrev pub made_atom : (ℕ → Tree) → Head → Atom
made_atom f h = record { sym = h.atom.sym; args = instances f h.atom.args }

abbrev pub AreMade : (ℕ → Tree) → List Head → List Row → Type 0
AreMade f heads rows = map (made_atom f) heads ≡ map (λ (r : Row). r.1) rows

-- the variable occurs in a head
abbrev pub has_variable : List Head → ℕ → Bool
has_variable heads x = list_any (λ (h : Head). occurs_any x h.atom.args) heads

-- The match makes the heads the rows, and it is of the variables of the heads alone; where there is none, nothing makes the heads the rows.
pub record FitsLaw : Type 0 where
  pub makes : (heads : List Head) (rows : List Row) (m : Subst) → fits heads rows ≡ Some m → AreMade (value_at m) heads rows
  pub variables : (heads : List Head) (rows : List Row) (m : Subst) → fits heads rows ≡ Some m → (x : ℕ) → binds_var m x ≡ has_variable heads x
  pub none : (heads : List Head) (rows : List Row) → fits heads rows ≡ None → (f : ℕ → Tree) → AreMade f heads rows → ⊥
