-- Whether a row fits the head at a place, where it is known which.
use Rattle.std.proofs.Common.{◌≡◌, ◌<◌, ℕ, Bool, List, get_or, length, subst, sym}
use Rattle.std.specs.Prelude.{Some, Vec, slice_get}
use Rattle.chr_bind.specs.declared.matching.Match.{Match}
use Rattle.chr_rules.specs.RuleView.{heads_view}
use Rattle.chr_semantics.specs.Match.{Row}
use Rattle.chr_semantics.specs.Program.{Atom, Head}
use Rattle.chr_term.specs.TermView.{atom_view}
use Rattle.chr_term.specs.declared.term.Sym.{Sym}
use Rattle.chr_term.specs.declared.term.Term.{Term}
use Rattle.chr_find.specs.Enough.{FitsHead, TakesAs}
use Rattle.chr_find.proofs.RuleHeads.{head_is}

module _ {A : Type 0} (hs : List (Sym × Vec (Term A) A)) (flags : List Bool) (i : ℕ) (h : Sym × Vec (Term A) A) (x : Head) (lt : i < length hs) (is : h ≡ get_or hs i h) (at : slice_get (heads_view hs flags) i ≡ Some x) (b d : Bool) (known : b ≡ d) (old new : Match A) where
  pub head_fits : (a : Atom) → FitsHead b (atom_view h.0 h.1.items) a old new → FitsHead d x.atom a old new
  head_fits a fits = subst (λ (y : Atom). FitsHead d y a old new) (sym (head_is hs flags i h x lt is at)) (subst (λ (k : Bool). FitsHead k (atom_view h.0 h.1.items) a old new) known fits)

  pub head_takes : (used : List ℕ) (row : Row) → TakesAs b used (atom_view h.0 h.1.items) row old new → TakesAs d used x.atom row old new
  head_takes used row takes =
      subst (λ (y : Atom). TakesAs d used y row old new) (sym (head_is hs flags i h x lt is at)) (subst (λ (k : Bool). TakesAs k used (atom_view h.0 h.1.items) row old new) known takes)
