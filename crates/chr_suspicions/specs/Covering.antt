-- Heads that match others, which are taken as constraints.
use Rattle.std.specs.Prelude.{◌≡◌, ℕ, All, Bool, false, List, MatchBool, None, Option, Some, Vec}
use Rattle.chr_semantics.specs.Bounds.{AreBelow}
use Rattle.chr_semantics.specs.Match.{fit_atom}
use Rattle.chr_semantics.specs.Program.{Atom, Head}
use Rattle.chr_semantics.specs.Subst.{Subst}
use Rattle.chr_semantics.specs.Suspicion.{covers}
use Rattle.chr_term.specs.TermView.{trees_view}
use Rattle.chr_term.specs.declared.term.Sym.{Sym}
use Rattle.chr_term.specs.declared.term.Term.{Term}
use Rattle.chr_bind.specs.Matching.{AgreesWith}
use Rattle.chr_bind.specs.declared.matching.Match.{Match}

-- the variables of the heads are below n
abbrev pub AreHeadsBelow : {A : Type 0} → ℕ → List (Sym × Vec (Term A) A) → Type 0
AreHeadsBelow n hs = All (λ h. AreBelow n (trees_view h.1.items)) hs

-- where the old match is one of the definitions, the new one is its extension by which the head is the other one, or there is none
abbrev pub FitsHead : {A : Type 0} → Bool → Atom → Atom → Match A → Match A → Type 0
FitsHead result g h old new = (m : Subst) → AgreesWith old m → MatchBool result ((n : Subst) × (fit_atom g h m ≡ Some n) × AgreesWith new n) (fit_atom g h m ≡ None)

-- heads match some of the others under the match, where there is one
abbrev pub covers_under : Option Subst → List Head → List Head → Bool
covers_under None gs hs = false
covers_under (Some m) gs hs = covers gs hs m
