-- Heads matched with constraints, one after another.
use Rattle.std.proofs.Common.{◌≡◌, ◌∙◌, ◌+◌, ◌==◌, ◌∷◌, [], Bool, false, true, List, MatchBool, None, Option, Some, arith, length, not, refl, subst, sym, true≢false, ℕ}
use Rattle.std.specs.Prelude.{Vec}
use Rattle.chr_semantics.specs.Match.{Row, fit_rows}
use Rattle.chr_semantics.specs.Subst.{Subst}
use Rattle.chr_term.specs.TermView.{trees_view}
use Rattle.chr_term.specs.declared.term.Sym.{Sym}
use Rattle.chr_term.specs.declared.term.Term.{Term}
use Rattle.chr_bind.specs.Matching.{AgreesWith, FitsOrSpoils}
use Rattle.chr_bind.specs.declared.matching.Match.{Match}
use Rattle.chr_rules.specs.RuleView.{heads_from}
use Rattle.chr_look.specs.Matches.{FitsRows}

-- two empty lists
pub fits_empty : {A : Type 0} (flags : List Bool) (j : ℕ) (heads : List (Sym × Vec (Term A) A)) (rows : List Row) (h : Match A) → length heads ≡ 0 → length rows ≡ 0 → FitsRows true (heads_from flags j heads) rows h h
fits_empty flags j [] [] h eh er m agrees = (m, refl, agrees)
fits_empty flags j [] (r ∷ rs) h eh er m agrees = absurd (omega (arith, er))
fits_empty flags j (x ∷ hs) rows h eh er m agrees = absurd (omega (arith, eh))

pub is_equal : (b c : Bool) → b ≡ not c → b ≡ false → c ≡ true
is_equal b true e f = refl
is_equal b false e f = absurd (true≢false (sym e ∙ f))

module _ {A : Type 0} (flags : List Bool) (j : ℕ) (heads : List (Sym × Vec (Term A) A)) (rows : List Row) where
  module _ (h : Sym × Vec (Term A) A) (hs : List (Sym × Vec (Term A) A)) (r : Row) (rs : List Row) (eh : heads ≡ h ∷ hs) (er : rows ≡ r ∷ rs) where
    -- they fit, and the others go on
    pub fits_next : (result : Bool) (old mid new : Match A) → (h.0.0 == r.1.sym) ≡ true → FitsOrSpoils true (trees_view h.1.items) r.1.args old mid
        → FitsRows result (heads_from flags (j + 1) hs) rs mid new → FitsRows result (heads_from flags j heads) rows old new
    fits_next result old mid new e fits on m agrees =
        let n = fits m agrees in
        let same : fit_rows (heads_from flags j heads) rows m ≡ fit_rows (heads_from flags (j + 1) hs) rs n.0 = rw (eh, er, e, n.1) refl in
        subst (λ (o : Option Subst). MatchBool result ((k : Subst) × (o ≡ Some k) × AgreesWith new k) (o ≡ None)) (sym same) (on n.0 n.2)
