-- What is still to be made equal, as the equations that the definition of the unifier takes apart.
use Rattle.std.specs.Prelude.{◌≡◌, ℕ, ◌+◌, Bool, true, false, List, [], ◌∷◌, Option, Some, None, length, slice_get}
use Rattle.std.specs.Borrow.{Bor}
use Rattle.chr_semantics.specs.Tree.{Tree}
use Rattle.chr_semantics.specs.Subst.{Subst, value_at, apply, occurs, instances}
use Rattle.chr_semantics.specs.Mgu.{Equations, both, apart, apart_all, elimination_from}
use Rattle.chr_term.specs.TermView.{view, trees_view}
use Rattle.chr_term.specs.declared.term.Term.{Term}
use Rattle.chr_semantics.specs.Bounds.{AreBelow, IsBelow}
use Rattle.chr_term.specs.Size.{size, size_all}
use Rattle.chr_bind.specs.Chains.{IsAttached, Pairs, name_of, solution}
use Rattle.chr_bind.specs.declared.chains.Link.{Link}
use Rattle.chr_bind.specs.declared.unification.Binding.{Binding}
use Rattle.chr_bind.specs.declared.unification.RootComparison.{RootComparison}
use Rattle.chr_bind.specs.declared.unification.RootComparison.TheVariants.{Same, Clash, Bind, Arguments}
use Rattle.chr_bind.specs.declared.unification.Difference.{Difference}
use Rattle.chr_bind.specs.declared.unification.Difference.TheVariants as difference

abbrev pub Lists : Type 0 → Type 0
Lists A = Bor (List (Term A)) × Bor (List (Term A))

-- two terms under s, taken apart
abbrev pub terms_apart : {A : Type 0} → Subst → Term A → Term A → Option Equations
terms_apart s t u = apart (apply s (view t)) (apply s (view u))

-- two lists of terms under s, taken apart
abbrev pub lists_apart : {A : Type 0} → Subst → List (Term A) → List (Term A) → Option Equations
lists_apart s ts us = apart_all (instances (value_at s) (trees_view ts)) (instances (value_at s) (trees_view us))

-- the lists of an agenda, the last ones first
abbrev pub rest_apart : {A : Type 0} → Subst → List (Lists A) → Option Equations
rest_apart s [] = Some []
rest_apart s (p ∷ ps) = both (rest_apart s ps) (lists_apart s p.0.now p.1.now)

abbrev pub lists_size : {A : Type 0} → Subst → List (Term A) → ℕ
lists_size s ts = size_all (instances (value_at s) (trees_view ts)) + 1

abbrev pub agenda_size : {A : Type 0} → Subst → List (Lists A) → ℕ
agenda_size s [] = 0
agenda_size s (p ∷ ps) = lists_size s p.0.now + agenda_size s ps

abbrev pub IsBelowAgenda : {A : Type 0} → ℕ → List (Lists A) → Type 0
IsBelowAgenda n [] = Unit {0}
IsBelowAgenda n (p ∷ ps) = AreBelow n (trees_view p.0.now) × AreBelow n (trees_view p.1.now) × IsBelowAgenda n ps

-- the variable of a binding is free, with its link, and its term is another
pub record IsBinding {A : Type 0} (links : List Link) (b : Binding A) : Type 0 where
  pub end : name_of (slice_get links b.end) ≡ Some b.name
  pub below : IsBelow (length links) (view b.term.now)

-- the one equation of a binding
abbrev pub equation : {A : Type 0} → Subst → Binding A → Equations
equation s b = (b.name, apply s (view b.term.now)) ∷ []

-- what two terms under the bindings are taken apart to
abbrev pub IsRootComparison : {A : Type 0} → List Link → Subst → Tree → Tree → RootComparison A → Type 0
IsRootComparison links s t u Same = apart (apply s t) (apply s u) ≡ Some []
IsRootComparison links s t u Clash = apart (apply s t) (apply s u) ≡ None
IsRootComparison links s t u (Bind b) = (apart (apply s t) (apply s u) ≡ Some (equation s b)) × IsBinding links b
IsRootComparison links s t u (Arguments ts us) =
    (apart (apply s t) (apply s u) ≡ lists_apart s ts.now us.now) × (size (apply s t) ≡ lists_size s ts.now + 1)
    × AreBelow (length links) (trees_view ts.now) × AreBelow (length links) (trees_view us.now)

-- the equations up to the first binding, with those of the agenda after it
abbrev pub Differs : {A : Type 0} → List Link → Subst → Option Equations → List (Lists A) → Difference A → Type 0
Differs links s es rest difference.None = es ≡ rest_apart s rest
Differs links s es rest difference.Clash = es ≡ None
Differs links s es rest (difference.Bind b) = (es ≡ both (Some (equation s b)) (rest_apart s rest)) × IsBinding links b

-- where nothing differs, nothing is left to compare
abbrev pub IsAllDone : {A : Type 0} → List (Lists A) → Difference A → Type 0
IsAllDone rest difference.None = rest ≡ []
IsAllDone rest difference.Clash = Unit {0}
IsAllDone rest (difference.Bind b) = Unit {0}

-- Adding bindings for equations under s, which were `old` before and are `new` now, came to the solution r, or to nothing; so it does with
-- any greater bound on the eliminations.
abbrev pub Eliminates : Subst → Option Equations → ℕ → ℕ → Subst → Bool → Type 0
Eliminates s es old new r true = (n : ℕ) × (new ≡ old + n) × ((m : ℕ) → elimination_from (m + n) s es ≡ Some r)
Eliminates s es old new r false = (k : ℕ) × ((m : ℕ) → elimination_from (m + k) s es ≡ None)

-- a variable was bound that is not in its term, or nothing was done
abbrev pub IsBound : {A : Type 0} → List Link → List Link → Pairs → Binding A → Bool → Type 0
IsBound links new pairs b true = IsAttached links new pairs (b.name, view b.term.now) × (occurs b.name (apply (solution pairs) (view b.term.now)) ≡ false)
IsBound links new pairs b false = occurs b.name (apply (solution pairs) (view b.term.now)) ≡ true
