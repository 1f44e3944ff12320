-- Lists of terms with their variables replaced, read by an index.
use Rattle.std.proofs.Common.{◌≡◌, ℕ, zero, suc, ◌+◌, ◌<◌, ◌≤◌, ◌↔◌, List, [], ◌∷◌, length, get_or, drop, take, map, Option, Vec, ap, subst, sym, arith, refl, ◌∙◌}
use Rattle.std.proofs.lemmas.List.{take_all}
use Rattle.chr_semantics.specs.Tree.{Tree, more, trees_of}
use Rattle.chr_semantics.specs.Subst.{instance, instances}
use Rattle.chr_term.specs.TermView.{view, trees_view}
use Rattle.chr_term.specs.declared.term.Term.{Term}
use Rattle.chr_term.proofs.Dropped.{heads_agree, rests_decide, trees_view-drop}
use Rattle.chr_term.proofs.Lengths.{trees_length, trees_length-view}
use Rattle.chr_term.proofs.Sizes.{size-item}
use Rattle.chr_semantics.specs.Bounds.{AreBelow, IsBelow}
use Rattle.chr_term.specs.Size.{size, size_all}
use Rattle.chr_term.specs.Replaced.{list_by, trees_by}

-- terms with their variables replaced, one by one
pub instances-view : {A : Type 0} (f : ℕ → Tree) (xs : List (Term A)) → instances f (trees_view xs) ≡ trees_of (map (λ t. instance f (view t)) xs)
instances-view f [] = refl
instances-view f (x ∷ xs) = ap (more (instance f (view x))) (instances-view f xs)

pub size_item : {A : Type 0} (f : ℕ → Tree) (xs : List (Term A)) (i : ℕ) (x : Term A) → i < length xs → x ≡ get_or xs i x → size (instance f (view x)) ≤ size_all (instances f (trees_view xs))
size_item f xs i x h e = rw (instances-view f xs) (size-item (λ t. instance f (view t)) xs i x h e)

length-instance : {A : Type 0} (f : ℕ → Tree) (xs : List (Term A)) → trees_length (instances f (trees_view xs)) ≡ length xs
unfolding trees_length
length-instance f [] = refl
length-instance f (x ∷ xs) = ap suc (length-instance f xs)

-- lists that come to the same have one length
pub length-same : {A B : Type 0} (f : ℕ → Tree) (xs : List (Term A)) (ys : List (Term B)) → instances f (trees_view xs) ≡ trees_view ys → length xs ≡ length ys
length-same f xs ys e = omega (arith, length-instance f xs, trees_length-view ys, ap trees_length e)

module _ {A B : Type 0} (f : ℕ → Tree) (P : Type 0) (xs : List (Term A)) (ys : List (Term B)) (i : ℕ) (x : Term A) (y : Term B) where
  -- where the terms at the index come to the same, the rests decide
  pub same_from_next : (P ↔ (instances f (trees_view (drop i xs)) ≡ trees_view (drop i ys))) → i < length xs → i < length ys → x ≡ get_or xs i x → y ≡ get_or ys i y → instance f (view x) ≡ view y
      → (P ↔ (instances f (trees_view (drop (i + 1) xs)) ≡ trees_view (drop (i + 1) ys)))
  same_from_next h ltx lty atx aty = rests_decide P (instance f (view x)) (view y) _ _ (rw (trees_view-drop xs i x ltx atx, trees_view-drop ys i y lty aty) at h)

  -- where the lists come to the same, so do the terms at the index
  pub same_at : (P ↔ (instances f (trees_view (drop i xs)) ≡ trees_view (drop i ys))) → i < length xs → i < length ys → x ≡ get_or xs i x → y ≡ get_or ys i y → P → instance f (view x) ≡ view y
  same_at h ltx lty atx aty = heads_agree P (instance f (view x)) (view y) _ _ (rw (trees_view-drop xs i x ltx atx, trees_view-drop ys i y lty aty) at h)

-- a list that was built as the image of all terms
pub built_whole : {A B : Type 0} (f : ℕ → Tree) (items : List (Term A)) (xs : List (Term B)) (n : ℕ) → map view items ≡ map (λ t. instance f (view t)) (take n xs) → length xs ≤ n → trees_view items ≡ instances f (trees_view xs)
built_whole f items xs n h le = ap trees_of h ∙ ap (λ l. trees_of (map (λ t. instance f (view t)) l)) (take_all n xs le) ∙ sym (instances-view f xs)

pub below_item : {A : Type 0} (n : ℕ) (xs : List (Term A)) (i : ℕ) (x : Term A) → i < length xs → x ≡ get_or xs i x → AreBelow n (trees_view xs) → IsBelow n (view x)
below_item n [] i x h e b = absurd (omega arith)
below_item n (y ∷ xs) zero x h e b = subst (λ t. IsBelow n (view t)) (sym e) b.0
below_item n (y ∷ xs) (suc i) x h e b = below_item n xs i x (omega arith) e b.1

-- a list where each term stands as itself, or as what replaces it
pub replaced_whole : {A : Type 0} (f : ℕ → Tree) (made : Option (Vec (Term A) A)) (xs : List (Term A)) (n : ℕ) → list_by (take n xs) made ≡ map (λ t. instance f (view t)) (take n xs) → length xs ≤ n → trees_by xs made ≡ instances f (trees_view xs)
replaced_whole f made xs n h le =
    ap (λ l. trees_by l made) (sym (take_all n xs le)) ∙ ap trees_of h ∙ ap (λ l. trees_of (map (λ t. instance f (view t)) l)) (take_all n xs le) ∙ sym (instances-view f xs)
