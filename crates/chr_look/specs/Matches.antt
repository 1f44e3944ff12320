-- Heads matched with constraints.
use Rattle.std.specs.Prelude.{◌≡◌, ℕ, Bool, List, None, Some, MatchBool, All, Vec}
use Rattle.chr_semantics.specs.Bounds.{AreBelow}
use Rattle.chr_semantics.specs.Match.{Row, fit_rows}
use Rattle.chr_semantics.specs.Program.{Head}
use Rattle.chr_semantics.specs.Subst.{Subst}
use Rattle.chr_term.specs.TermView.{trees_view}
use Rattle.chr_term.specs.declared.term.Sym.{Sym}
use Rattle.chr_term.specs.declared.term.Term.{Term}
use Rattle.chr_bind.specs.Matching.{AgreesWith}
use Rattle.chr_bind.specs.declared.matching.Match.{Match}

-- where the old match is one of the definitions, the new one is its extension by which the heads are the rows, or there is none
abbrev pub FitsRows : {A : Type 0} → Bool → List Head → List Row → Match A → Match A → Type 0
FitsRows result hs rs old new = (m : Subst) → AgreesWith old m → MatchBool result ((n : Subst) × (fit_rows hs rs m ≡ Some n) × AgreesWith new n) (fit_rows hs rs m ≡ None)

-- the variables of the heads are below n
abbrev pub AreHeadsBelow : {A : Type 0} → ℕ → List (Sym × Vec (Term A) A) → Type 0
AreHeadsBelow n hs = All (λ h. AreBelow n (trees_view h.1.items)) hs

-- the variables of the rows are below n
abbrev pub AreRowsBelow : ℕ → List Row → Type 0
AreRowsBelow n rs = All (λ (r : Row). AreBelow n r.1.args) rs
