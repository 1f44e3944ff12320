-- The symbols of the heads of a rule.
use Rattle.std.proofs.Common.{◌≡◌, ◌∙◌, ◌+◌, ◌<◌, ◌≤◌, ℕ, Bool, List, [], ◌∷◌, Option, Some, None, Vec, ap, map, refl, sym, drop, get_or, length, zero, suc, arith}
use Rattle.std.specs.Prelude.{option_map, slice_get}
use Rattle.chr_semantics.specs.Program.{Head, Occurrence, Program, Rule, occurrence}
use Rattle.chr_semantics.specs.Touch.{Mark, footprint_of, rule, symbol}
use Rattle.chr_semantics.proofs.OccurrenceRule.{occurrence_rule}
use Rattle.chr_rules.specs.Index.{pair_of}
use Rattle.chr_rules.specs.RuleView.{heads_from}
use Rattle.chr_laws.specs.Sums.{sum_of}
use Rattle.chr_term.specs.declared.term.Sym.{Sym}
use Rattle.chr_term.specs.declared.term.Term.{Term}
use Rattle.chr_core.specs.Marks.{marks_of}

module _ {A : Type 0} where
  abbrev pub head_marks : List (Sym × Vec (Term A) A) → List Mark
  head_marks hs = map (λ (h : Sym × Vec (Term A) A). symbol h.0.0) hs

  pub head_marks_are : (flags : List Bool) (k : ℕ) (hs : List (Sym × Vec (Term A) A)) → map (λ (h : Head). symbol h.atom.sym) (heads_from flags k hs) ≡ head_marks hs
  head_marks_are flags k [] = refl
  head_marks_are flags k (h ∷ hs) = ap (λ (xs : List Mark). symbol h.0.0 ∷ xs) (head_marks_are flags (k + 1) hs)

  pub marks_end : (f : Mark → ℕ) (hs : List (Sym × Vec (Term A) A)) (i : ℕ) → length hs ≤ i → sum_of f (head_marks (drop i hs)) ≡ 0
  marks_end f [] zero e = refl
  marks_end f [] (suc i) e = refl
  marks_end f (x ∷ xs) zero e = absurd (omega (arith, e))
  marks_end f (x ∷ xs) (suc i) e = marks_end f xs i (omega (arith, e))

-- the footprint of an occurrence, by the number of its rule
occurs_at : (p : Program) (f j n k : ℕ) (r : Rule) (x : Option Occurrence) → occurrence p f j ≡ x → Some (n, k) ≡ option_map pair_of x → slice_get p n ≡ Some r → footprint_of x ≡ marks_of n r
occurs_at p f j n k r None is e at = cc
occurs_at p f j n k r (Some o) is e at =
    let pair : (n, k) ≡ pair_of o = cc in
    let number : n ≡ o.number = ap (λ (w : ℕ × ℕ). w.0) pair in
    let its : o.rule ≡ r = (let stands = occurrence_rule p f j o is in cc (stands, at, number)) in
    ap (λ (m : ℕ). rule m ∷ map (λ (h : Head). symbol h.atom.sym) o.rule.heads) (sym number) ∙ ap (marks_of n) its

pub occurs_is : (p : Program) (f j n k : ℕ) (r : Rule) → Some (n, k) ≡ option_map pair_of (occurrence p f j) → slice_get p n ≡ Some r → footprint_of (occurrence p f j) ≡ marks_of n r
occurs_is p f j n k r e at = occurs_at p f j n k r (occurrence p f j) refl e at
