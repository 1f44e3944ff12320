-- One element more at the end.
use Rattle.std.proofs.Common.{◌≡◌, ◌<◌, ◌∙◌, ◌+◌, ℕ, zero, suc, List, [], ◌∷◌, ◌++◌, Bool, Vec, length, refl, ap, arith}
use Rattle.chr_semantics.specs.Tree.{Tree}
use Rattle.chr_semantics.specs.Meaning.{node_of}
use Rattle.chr_semantics.specs.Names.{pair_symbol}
use Rattle.chr_term.specs.declared.term.Sym.{Sym}
use Rattle.chr_term.specs.declared.term.Term.{Term}
use Rattle.chr_rules.specs.Turns.{list_of}
use Rattle.chr_term.specs.TermView.{atom_view}
use Rattle.chr_rules.specs.RuleView.{flag_at, heads_from}

flag_before : (flags : List Bool) (p : Bool) (k : ℕ) → k < length flags → flag_at (flags ++ p ∷ []) k ≡ flag_at flags k
flag_before [] p k h = absurd (omega (arith, h))
flag_before (f ∷ flags) p zero h = refl
flag_before (f ∷ flags) p (suc k) h = flag_before flags p k (omega (arith, h))

flag_last : (flags : List Bool) (p : Bool) → flag_at (flags ++ p ∷ []) (length flags) ≡ p
flag_last [] p = refl
flag_last (f ∷ flags) p = flag_last flags p

-- a head more, with its flag
pub heads_pushed : {A : Type 0} (flags : List Bool) (p : Bool) (k : ℕ) (hs : List (Sym × Vec (Term A) A)) (h : Sym × Vec (Term A) A) → k + length hs ≡ length flags
    → heads_from (flags ++ p ∷ []) k (hs ++ h ∷ []) ≡ heads_from flags k hs ++ record { atom = atom_view h.0 h.1.items; passive = p } ∷ []
heads_pushed flags p k [] h e =
    let at : k ≡ length flags = omega (arith, e) in
    ap (λ b. record { atom = atom_view h.0 h.1.items; passive = b } ∷ []) (ap (flag_at (flags ++ p ∷ [])) at ∙ flag_last flags p)
heads_pushed flags p k (g ∷ hs) h e =
    let below : k < length flags = omega (arith, e) in
    let rest = heads_pushed flags p (k + 1) hs h (omega (arith, e)) in
    rw (flag_before flags p k below, rest) refl

pub list_of_pushed : (ts : List Tree) (t end : Tree) → list_of (ts ++ t ∷ []) end ≡ list_of ts (node_of pair_symbol t end)
list_of_pushed [] t end = refl
list_of_pushed (u ∷ ts) t end = ap (λ x. node_of pair_symbol u x) (list_of_pushed ts t end)
