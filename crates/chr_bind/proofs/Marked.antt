-- The variables of a match that are marked.
use Rattle.std.proofs.Common.{◌≡◌, ℕ, ◌<◌, Bool, true, false, cond, ◌==◌, Option, Some, None, List, ◌∷◌, length, set, ap, refl, ◌∙◌, sym, inl, inr, arith}
use Rattle.std.specs.Int.{w64}
use Rattle.std.specs.Prelude.{is_some}
use Rattle.std.proofs.lemmas.Nat.Bits.{bit_at-zero, bit_at_set_other, bit_at_set_same}
use Rattle.std.proofs.lemmas.Bool.Decides.{Decides-eqb, eqb_tells}
use Rattle.std.specs.Borrow.{Bor}
use Rattle.chr_semantics.specs.Tree.{Tree}
use Rattle.chr_semantics.specs.Subst.{Subst}
use Rattle.chr_semantics.specs.Match.{match_at}
use Rattle.chr_term.specs.TermView.{view}
use Rattle.chr_term.specs.declared.term.Term.{Term}
use Rattle.chr_bind.specs.MatchedTerms.{AreFilled, is_marked, term_tree, tree_at, with_mark}
use Rattle.chr_bind.specs.Matching.{AreMarksOf, Covers, Keeps, matched_tree}
use Rattle.chr_bind.specs.declared.matching.Marks.{Marks}
use Rattle.chr_bind.specs.declared.matching.Match.{Match}
use Rattle.chr_bind.proofs.Changed.{slice_get-set_other, slice_get-set_same}

-- no variable is marked
none_marked : (x : ℕ) → is_marked 0 x ≡ false
none_marked x = ap (λ (n : ℕ). n == 1) (bit_at-zero x)

marked_put : (marks x y : ℕ) → x < 64 → is_marked (with_mark marks x) y ≡ cond (y == x) true (is_marked marks y)
marked_put marks x y within = elim (eqb_tells y x) [
  | inl p ↦ ap (is_marked (with_mark marks x)) p.1 ∙ (ap (λ (n : ℕ). n == 1) (bit_at_set_same w64 marks x within) ∙ sym (ap (λ (b : Bool). cond b true (is_marked marks y)) p.0))
  | inr p ↦ ap (λ (n : ℕ). n == 1) (bit_at_set_other w64 marks x within y p.1) ∙ sym (ap (λ (b : Bool). cond b true (is_marked marks y)) p.0)
]

some_tree : (b : Bool) (o : Option Tree) (u : Tree) → cond b o None ≡ Some u → o ≡ Some u
some_tree true o u e = e
some_tree false o u e = cc

is_there : (o : Option Tree) → is_some o ≡ true → (u : Tree) × (o ≡ Some u)
is_there None e = cc
is_there (Some u) e = (u, refl)

pub some_if : (b : Bool) (o : Option Tree) → is_some (cond b o None) ≡ true → is_some o ≡ true
some_if true o e = e
some_if false o e = cc

-- one variable more, in a mark and a tree
filled_step : (b m n : Bool) (t : Tree) (o p : Option Tree) → n ≡ cond b true m → p ≡ cond b (Some t) o → (m ≡ true → is_some o ≡ true) → n ≡ true → is_some p ≡ true
filled_step true m n t o p en ep h e = ap is_some ep
filled_step false m n t o p en ep h e = ap is_some ep ∙ h (sym en ∙ e)

agrees_step : (b m n : Bool) (t : Tree) (o p q : Option Tree) → n ≡ cond b true m → p ≡ cond b (Some t) o → cond m o None ≡ q → cond n p None ≡ cond b (Some t) q
agrees_step true m n t o p q en ep h = rw (en, ep) refl
agrees_step false m n t o p q en ep h = rw (en, ep) h

module _ {A : Type 0} where
  pub none_filled : (matched : List (Option (Bor (Term A)))) → AreFilled 0 matched
  none_filled matched x e = absurd (let no : false ≡ true = sym (none_marked x) ∙ e in cc)

  pub none_matched : (x : ℕ) (matched : List (Option (Bor (Term A)))) → cond (is_marked 0 x) (tree_at matched x) None ≡ None
  none_matched x matched = ap (λ (b : Bool). cond b (tree_at matched x) None) (none_marked x)

  -- one is filled
  pub term_put : (matched : List (Option (Bor (Term A)))) (x y : ℕ) (t : Bor (Term A)) → x < length matched → tree_at (set matched x (Some t)) y ≡ cond (y == x) (Some (view t.now)) (tree_at matched y)
  term_put matched x y t within = elim (eqb_tells y x) [
    | inl p ↦ ap (tree_at (set matched x (Some t))) p.1 ∙ (ap term_tree (slice_get-set_same matched x (Some t) within) ∙ sym (ap (λ (b : Bool). cond b (Some (view t.now)) (tree_at matched y)) p.0))
    | inr p ↦ ap term_tree (slice_get-set_other matched x y (Some t) p.1) ∙ sym (ap (λ (b : Bool). cond b (Some (view t.now)) (tree_at matched y)) p.0)
  ]

  -- and marked
  module _ (marks : ℕ) (matched new : List (Option (Bor (Term A)))) (x : ℕ) (t : Tree) (within : x < 64) (put : (y : ℕ) → tree_at new y ≡ cond (y == x) (Some t) (tree_at matched y)) where
    pub put_filled : AreFilled marks matched → AreFilled (with_mark marks x) new
    put_filled h y e = filled_step (y == x) (is_marked marks y) (is_marked (with_mark marks x) y) t (tree_at matched y) (tree_at new y) (marked_put marks x y within) (put y) (h y) e

    at_place : (y : ℕ) (q : Option Tree) → cond (is_marked marks y) (tree_at matched y) None ≡ q → cond (is_marked (with_mark marks x) y) (tree_at new y) None ≡ cond (y == x) (Some t) q
    at_place y q h = agrees_step (y == x) (is_marked marks y) (is_marked (with_mark marks x) y) t (tree_at matched y) (tree_at new y) q (marked_put marks x y within) (put y) h

    pub put_agrees : (m : Subst) → ((y : ℕ) → cond (is_marked marks y) (tree_at matched y) None ≡ match_at m y) → (y : ℕ) → cond (is_marked (with_mark marks x) y) (tree_at new y) None ≡ match_at ((x, t) ∷ m) y
    put_agrees m h y = at_place y (match_at m y) (h y) ∙ ap (λ (b : Bool). cond b (Some t) (match_at m y)) turned
      where
        turned : (y == x) ≡ (x == y)
        turned = elim (eqb_tells y x) [
          | inl p ↦ p.0 ∙ sym (grind (arith, Decides-eqb x y, p.1))
          | inr p ↦ p.0 ∙ sym (grind (arith, Decides-eqb x y, p.1))
        ]

    pub put_keeps : cond (is_marked marks x) (tree_at matched x) None ≡ None → (y : ℕ) (u : Tree) → cond (is_marked marks y) (tree_at matched y) None ≡ Some u → cond (is_marked (with_mark marks x) y) (tree_at new y) None ≡ Some u
    put_keeps free y u e = elim (eqb_tells y x) [
      | inl p ↦ absurd (let no : ◌≡◌ {A = Option Tree} None (Some u) = sym free ∙ (ap (λ (z : ℕ). cond (is_marked marks z) (tree_at matched z) None) (sym p.1) ∙ e) in cc)
      | inr p ↦ at_place y (Some u) e ∙ ap (λ (b : Bool). cond b (Some t) (Some u)) p.0
    ]

  -- what is marked is matched
  marked_tree : (h : Match A) (x : ℕ) → is_marked h.marks.marks x ≡ true → (u : Tree) × (matched_tree h x ≡ Some u)
  marked_tree h x e =
      let there : (u : Tree) × (tree_at h.matched.terms x ≡ Some u) = is_there (tree_at h.matched.terms x) (h.filled x e) in
      (there.0, ap (λ (b : Bool). cond b (tree_at h.matched.terms x) None) e ∙ there.1)

  -- and stays so where nothing is lost
  pub marks_covered : (h now : Match A) (marks : Marks) → AreMarksOf marks h → Keeps h now → Covers now marks
  marks_covered h now marks is keeps x e =
      let there : (u : Tree) × (matched_tree h x ≡ Some u) = marked_tree h x (ap (λ (k : Marks). is_marked k.marks x) (sym is) ∙ e) in
      ap is_some (keeps x there.0 there.1)

  -- with the marks of an earlier match it is that one again
  pub went_back : (h : Match A) (marks : Marks) (others : ℕ) (matched : List (Option (Bor (Term A)))) → AreMarksOf marks h → ((x : ℕ) (u : Tree) → matched_tree h x ≡ Some u → cond (is_marked others x) (tree_at matched x) None ≡ Some u)
      → (x : ℕ) → cond (is_marked marks.marks x) (tree_at matched x) None ≡ matched_tree h x
  went_back h marks others matched is keeps x = by_mark (is_marked marks.marks x) refl
    where
      of_both : is_marked marks.marks x ≡ is_marked h.marks.marks x
      of_both = ap (λ (k : Marks). is_marked k.marks x) is

      by_mark : (b : Bool) → is_marked marks.marks x ≡ b → cond b (tree_at matched x) None ≡ matched_tree h x
      by_mark true e =
          let there : (u : Tree) × (matched_tree h x ≡ Some u) = marked_tree h x (sym of_both ∙ e) in
          some_tree (is_marked others x) (tree_at matched x) there.0 (keeps x there.0 there.1) ∙ sym there.1
      by_mark false e = sym (ap (λ (b : Bool). cond b (tree_at h.matched.terms x) None) (sym of_both ∙ e))
