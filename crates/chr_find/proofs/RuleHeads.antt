-- The heads of a rule, as the code has them.
use Rattle.std.proofs.Common.{◌≡◌, ◌<◌, ◌+◌, ℕ, zero, suc, Bool, List, [], ◌∷◌, ◌∙◌, ap, sym, refl, arith, length, get_or}
use Rattle.std.specs.Prelude.{Some, Vec, slice_get}
use Rattle.chr_rules.specs.RuleView.{flag_at, heads_from, heads_view}
use Rattle.chr_semantics.specs.Program.{Head}
use Rattle.chr_term.specs.TermView.{atom_view}
use Rattle.chr_term.specs.declared.term.Sym.{Sym}
use Rattle.chr_term.specs.declared.term.Term.{Term}

module _ {A : Type 0} where
  length-heads : (flags : List Bool) (k : ℕ) (hs : List (Sym × Vec (Term A) A)) → length (heads_from flags k hs) ≡ length hs
  length-heads flags k [] = refl
  length-heads flags k (h ∷ hs) = ap suc (length-heads flags (k + 1) hs)

  head_from : (flags : List Bool) (k : ℕ) (hs : List (Sym × Vec (Term A) A)) (i : ℕ) (h : Sym × Vec (Term A) A) → i < length hs → h ≡ get_or hs i h
      → (x : Head) × (slice_get (heads_from flags k hs) i ≡ Some x) × (x.atom ≡ atom_view h.0 h.1.items)
  head_from flags k [] i h lt e = absurd (omega (arith, lt))
  head_from flags k (g ∷ hs) zero h lt e = (record { atom = atom_view g.0 g.1.items; passive = flag_at flags k }, refl, ap (λ (p : Sym × Vec (Term A) A). atom_view p.0 p.1.items) (sym e))
  head_from flags k (g ∷ hs) (suc i) h lt e = head_from flags (k + 1) hs i h (omega (arith, lt)) e

  pub heads_length : (hs : List (Sym × Vec (Term A) A)) (flags : List Bool) → length (heads_view hs flags) ≡ length hs
  heads_length hs flags = length-heads flags 0 hs

  -- the head at a place
  pub head_at : (hs : List (Sym × Vec (Term A) A)) (flags : List Bool) (i : ℕ) (h : Sym × Vec (Term A) A) → i < length hs → h ≡ get_or hs i h → (x : Head) × (slice_get (heads_view hs flags) i ≡ Some x) × (x.atom ≡ atom_view h.0 h.1.items)
  head_at hs flags i h lt e = head_from flags 0 hs i h lt e

  -- and it is the only one there
  pub head_is : (hs : List (Sym × Vec (Term A) A)) (flags : List Bool) (i : ℕ) (h : Sym × Vec (Term A) A) (x : Head) → i < length hs → h ≡ get_or hs i h → slice_get (heads_view hs flags) i ≡ Some x → x.atom ≡ atom_view h.0 h.1.items
  head_is hs flags i h x lt e at =
      let y : (y : Head) × (slice_get (heads_view hs flags) i ≡ Some y) × (y.atom ≡ atom_view h.0 h.1.items) = head_at hs flags i h lt e in
      let same : y.0 ≡ x = cc (y.1, at) in
      ap (λ (z : Head). z.atom) (sym same) ∙ y.2
