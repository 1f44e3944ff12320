-- One term more of a list whose terms may be replaced.
use Rattle.std.proofs.Common.{◌≡◌, ◌∙◌, ◌+◌, ◌<◌, ◌++◌, ◌∷◌, [], ℕ, zero, suc, List, Option, Some, None, Vec, ap, arith, get_or, length, map, refl, subst, sym, take}
use Rattle.std.proofs.lemmas.List.{map-append}
use Rattle.chr_semantics.specs.Tree.{Tree}
use Rattle.chr_term.specs.TermView.{view}
use Rattle.chr_term.specs.declared.term.Term.{Term}
use Rattle.chr_term.specs.Replaced.{list_by, tree_at, tree_by}

module _ {A : Type 0} where
  -- the term stays
  pub next_kept : (ts : List (Term A)) (i : ℕ) → i < length ts → map view (take (i + 1) ts) ≡ map view (take i ts) ++ tree_at ts i None
  next_kept [] i h = absurd (omega arith)
  next_kept (t ∷ ts) zero h = refl
  next_kept (t ∷ ts) (suc i) h =
      let n : suc i + 1 ≡ suc (i + 1) = omega arith in
      ap (λ k. map view (take k (t ∷ ts))) n ∙ ap (λ us. view t ∷ us) (next_kept ts i (omega arith))

  -- what stands at the place where nothing replaces the term, and where something does
  pub at_kept : (ts : List (Term A)) (i : ℕ) (t : Term A) → i < length ts → t ≡ get_or ts i t → tree_at ts i None ≡ view t ∷ []
  at_kept [] i t h e = absurd (omega arith)
  at_kept (x ∷ ts) zero t h e = ap (λ u. view u ∷ []) (sym e)
  at_kept (x ∷ ts) (suc i) t h e = at_kept ts i t (omega arith) e

  pub at_replaced : (ts : List (Term A)) (i : ℕ) (u : Term A) → i < length ts → tree_at ts i (Some u) ≡ view u ∷ []
  at_replaced [] i u h = absurd (omega arith)
  at_replaced (x ∷ ts) zero u h = refl
  at_replaced (x ∷ ts) (suc i) u h = at_replaced ts i u (omega arith)

  -- it goes behind what stands there
  pub pushed : (ts : List (Term A)) (i : ℕ) (made : Option (Vec (Term A) A)) (items new : List (Term A)) (x : Term A) (u : Option (Term A))
      → list_by (take i ts) made ≡ map view items → new ≡ items ++ x ∷ [] → tree_at ts i u ≡ view x ∷ [] → map view new ≡ list_by (take i ts) made ++ tree_at ts i u
  pushed ts i made items new x u old e at = ap (map view) e ∙ map-append view items (x ∷ []) ∙ (λ k. sym old k ++ sym at k)

  -- so does what its place asks for
  pub one_more : (f : Term A → Tree) (ts : List (Term A)) (i : ℕ) (t : Term A) (u : Option (Term A)) → i < length ts → t ≡ get_or ts i t → tree_by (view t) u ≡ f t → map f (take i ts) ++ tree_at ts i u ≡ map f (take (i + 1) ts)
  one_more f [] i t u h e is = absurd (omega arith)
  one_more f (x ∷ ts) zero t u h e is = ap (λ y. tree_by (view y) u ∷ []) (sym e) ∙ ap (λ y. y ∷ []) is ∙ ap (λ y. f y ∷ []) e
  one_more f (x ∷ ts) (suc i) t u h e is =
      let n : suc i + 1 ≡ suc (i + 1) = omega arith in
      ap (λ us. f x ∷ us) (one_more f ts i t u (omega arith) e is) ∙ ap (λ k. map f (take k (x ∷ ts))) (sym n)
