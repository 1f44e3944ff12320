-- Two lists of terms are compared from an index on.
use Rattle.std.proofs.Common.{◌≡◌, ℕ, suc, ◌+◌, ◌<◌, ◌↔◌, List, length, get_or, drop, sym, ap, add-one, drop-cons, ◌∙◌}
use Rattle.chr_semantics.specs.Tree.{Tree, Trees, more}
use Rattle.chr_term.specs.TermView.{view, trees_view}
use Rattle.chr_term.specs.declared.term.Term.{Term}

-- what is left at an index is the term there, and what is left after it
pub trees_view-drop : {A : Type 0} (xs : List (Term A)) (i : ℕ) (x : Term A) → i < length xs → x ≡ get_or xs i x → trees_view (drop i xs) ≡ more (view x) (trees_view (drop (i + 1) xs))
trees_view-drop xs i x lt at = ap trees_view (drop-cons xs i x lt) ∙ ap (λ t. more (view t) (trees_view (drop (suc i) xs))) (sym at) ∙ ap (λ k. more (view x) (trees_view (drop k xs))) (sym (add-one i))

-- lists decide what their rests decide, where their first trees are the same
pub rests_decide : (P : Type 0) (t u : Tree) (ts us : Trees) → (P ↔ (more t ts ≡ more u us)) → t ≡ u → (P ↔ (ts ≡ us))
rests_decide P t u ts us h e = ((λ p. let same : more t ts ≡ more u us = h.0 p in cc), (λ same. h.1 cc))

pub heads_agree : (P : Type 0) (t u : Tree) (ts us : Trees) → (P ↔ (more t ts ≡ more u us)) → P → t ≡ u
heads_agree P t u ts us h p = let same : more t ts ≡ more u us = h.0 p in cc

module _ {A B : Type 0} (P : Type 0) (xs : List (Term A)) (ys : List (Term B)) (i : ℕ) (x : Term A) (y : Term B) where
  -- where the terms at the index are the same, the rests decide
  pub same_from_next : (P ↔ (trees_view (drop i xs) ≡ trees_view (drop i ys))) → i < length xs → i < length ys → x ≡ get_or xs i x → y ≡ get_or ys i y → view x ≡ view y → (P ↔ (trees_view (drop (i + 1) xs) ≡ trees_view (drop (i + 1) ys)))
  same_from_next h ltx lty atx aty = rests_decide P (view x) (view y) _ _ (rw (trees_view-drop xs i x ltx atx, trees_view-drop ys i y lty aty) at h)

  -- where the lists are the same, so are the terms at the index
  pub same_at : (P ↔ (trees_view (drop i xs) ≡ trees_view (drop i ys))) → i < length xs → i < length ys → x ≡ get_or xs i x → y ≡ get_or ys i y → P → view x ≡ view y
  same_at h ltx lty atx aty = heads_agree P (view x) (view y) _ _ (rw (trees_view-drop xs i x ltx atx, trees_view-drop ys i y lty aty) at h)
