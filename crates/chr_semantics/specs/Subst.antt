-- Substitutions (Frühwirth 2009, substitution and unification).
use Rattle.std.specs.Prelude.{◌≡◌, ℕ, Bool, true, false, cond, ◌||◌, ◌==◌, List, [], ◌∷◌, map}
use Rattle.std.specs.List.{list_any}
use Rattle.chr_semantics.specs.Tree.{Tree, var, int, node, Trees, none, more}

-- the term with each variable replaced by what f gives for it
abbrev mutual
  pub instance : (ℕ → Tree) → Tree → Tree
  instance f (var x) = f x
  instance f (int z) = int z
  instance f (node g ts) = node g (instances f ts)

  pub instances : (ℕ → Tree) → Trees → Trees
  instances f none = none
  instances f (more t ts) = more (instance f t) (instances f ts)

-- A substitution is a finite list of pairs of a variable and a term.
abbrev pub Subst : Type 0
Subst = List (ℕ × Tree)

-- what a variable stands for: the term of its first pair, or itself
abbrev pub value_at : Subst → ℕ → Tree
value_at [] x = var x
value_at (p ∷ s) x = cond (p.0 == x) p.1 (value_at s x)

-- the substitution has a pair for the variable
abbrev pub binds_var : Subst → ℕ → Bool
binds_var s x = list_any (λ (p : ℕ × Tree). p.0 == x) s

-- the whole of a term with its variables replaced by what they stand for
abbrev pub apply : Subst → Tree → Tree
apply s = instance (value_at s)

-- the variable occurs in the term
abbrev mutual
  pub occurs : ℕ → Tree → Bool
  occurs x (var y) = x == y
  occurs x (int z) = false
  occurs x (node g ts) = occurs_any x ts

  pub occurs_any : ℕ → Trees → Bool
  occurs_any x none = false
  occurs_any x (more t ts) = occurs x t || occurs_any x ts

-- A function of variables solves a substitution where it gives each variable and what that stands for the same.
abbrev pub Solves : (ℕ → Tree) → Subst → Type 0
Solves f s = (x : ℕ) → instance f (value_at s x) ≡ f x

-- A substitution is solved where no variable that it binds occurs in what a variable stands for. A pair that an earlier one of its variable
-- hides counts for nothing, as in `value_at`.
abbrev pub IsSolved : Subst → Type 0
IsSolved s = (x y : ℕ) → binds_var s y ≡ true → occurs y (value_at s x) ≡ false

-- so it is exactly where applying it twice is applying it once, and no variable is bound to itself
pub record SolvedLaw : Type 0 where
  pub twice : (s : Subst) → IsSolved s → Solves (value_at s) s
  pub enough : (s : Subst) → Solves (value_at s) s → ((x : ℕ) → binds_var s x ≡ true → value_at s x ≡ var x → ⊥) → IsSolved s

-- the substitution with the variable x, which it does not bind, bound to u: x is replaced by u in the whole of it
abbrev pub with_binding : ℕ → Tree → Subst → Subst
with_binding x u s = (x, u) ∷ map (λ (p : ℕ × Tree). (p.0, apply ((x, u) ∷ []) p.1)) s
