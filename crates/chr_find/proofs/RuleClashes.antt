-- Clashes with a rule, by its heads as the code has them.
use Rattle.std.proofs.Common.{◌≡◌, ◌∙◌, ◌==◌, ◌&&◌, ◌||◌, ◌+◌, ℕ, Bool, true, false, not, List, [], ◌∷◌, ap, refl, sym}
use Rattle.std.specs.List.{list_all}
use Rattle.std.specs.Prelude.{Vec}
use Rattle.std.proofs.lemmas.Bool.{and_from, and_parts}
use Rattle.chr_rules.specs.RuleView.{heads_from}
use Rattle.chr_semantics.proofs.Tests.{eqb_sym}
use Rattle.chr_semantics.specs.Keys.{clashes_with}
use Rattle.chr_semantics.specs.Match.{Row}
use Rattle.chr_semantics.specs.Tree.{Trees}
use Rattle.chr_term.specs.TermView.{atom_view}
use Rattle.chr_term.specs.declared.term.Sym.{Sym}
use Rattle.chr_term.specs.declared.term.Term.{Term}

module _ {A : Type 0} where
  -- the row clashes with a head
  abbrev pub clashes_here : Row → Sym × Vec (Term A) A → Bool
  clashes_here c h = clashes_with c (record { atom = atom_view h.0 h.1.items; passive = false })

  -- the head is of another symbol
  abbrev pub is_other : Sym → Sym × Vec (Term A) A → Bool
  is_other f h = not (h.0.0 == f.0)

  -- whether a head is passive says nothing
  pub clashes_all : (c : Row) (flags : List Bool) (k : ℕ) (hs : List (Sym × Vec (Term A) A)) → list_all (clashes_with c) (heads_from flags k hs) ≡ list_all (clashes_here c) hs
  clashes_all c flags k [] = refl
  clashes_all c flags k (h ∷ hs) = ap (λ (b : Bool). clashes_here c h && b) (clashes_all c flags (k + 1) hs)

  other_clashes : (i : ℕ) (ts : Trees) (f : Sym) (h : Sym × Vec (Term A) A) → is_other f h ≡ true → clashes_here (i, record { sym = f.0; args = ts }) h ≡ true
  other_clashes i ts f h e = by_test (h.0.0 == f.0) (f.0 == h.0.0) (eqb_sym h.0.0 f.0) e _
    where
      by_test : (b d : Bool) → b ≡ d → not b ≡ true → (x : Bool) → (not d || x) ≡ true
      by_test false false same e x = refl
      by_test true d same e x = cc
      by_test false true same e x = cc

  -- where all are of other symbols, each row clashes
  pub others_clash : (i : ℕ) (ts : Trees) (f : Sym) (hs : List (Sym × Vec (Term A) A)) → list_all (is_other f) hs ≡ true → list_all (clashes_here (i, record { sym = f.0; args = ts })) hs ≡ true
  others_clash i ts f [] e = refl
  others_clash i ts f (h ∷ hs) e =
      let w = and_parts (is_other f h) (list_all (is_other f) hs) e in
      and_from (clashes_here (i, record { sym = f.0; args = ts }) h) (list_all (clashes_here (i, record { sym = f.0; args = ts })) hs) (other_clashes i ts f h w.0) (others_clash i ts f hs w.1)

  -- what the code finds of one head
  pub head_clashes : (c : Row) (h : Sym × Vec (Term A) A) (ts : List (Term A)) (b : Bool) → ts ≡ h.1.items → b ≡ clashes_with c (record { atom = atom_view h.0 ts; passive = false }) → clashes_here c h ≡ b
  head_clashes c h ts b e is = sym (is ∙ ap (λ (us : List (Term A)). clashes_with c (record { atom = atom_view h.0 us; passive = false })) e)
