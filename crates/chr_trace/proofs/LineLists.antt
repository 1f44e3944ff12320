-- The lines of the parts of a text, one line more at a time.
use Rattle.std.proofs.Common.{◌≡◌, ◌∙◌, ℕ, ◌+◌, ◌-◌, ◌<◌, ◌≤◌, ◌++◌, List, [], ◌∷◌, length, get_or, drop, drop-cons, add-one, ap, arith, map, append-nil}
use Rattle.std.proofs.lemmas.List.{map-append}
use Rattle.chr_semantics.specs.State.{Element}
use Rattle.chr_semantics.specs.Text.{lines_text}
use Rattle.chr_trace.specs.State.{elem_view, stack_view}
use Rattle.chr_trace.specs.declared.state.Elem.{Elem}
use Rattle.chr_trace.proofs.Bodies.{line_moved, lines_text-append}
use Rattle.chr_trace.proofs.Stacks.{stack_onto-below}

-- the element below the k-th is the next line of the stack
pub stack_lines-more : {A : Type 0} (f : Element → List ℕ) (es : List (Elem A)) (k : ℕ) (e : Elem A) → 0 < k → k ≤ length es → e ≡ get_or es (k - 1) e →
    lines_text (map f (stack_view (drop (k - 1) es))) ≡ lines_text (map f (stack_view (drop k es))) ++ (f (elem_view e) ++ 10 ∷ [])
stack_lines-more {A} f es k e some within at =
    let back : (k - 1) + 1 ≡ k = omega arith in
    let lt : k - 1 < length es = omega arith in
    let first : drop (k - 1) es ≡ e ∷ drop k es = rw (drop-cons es (k - 1) e, ← at, ← add-one, back) in
    ap (λ xs. lines_text (map f (stack_view xs))) first
    ∙ (ap (λ xs. lines_text (map f xs)) (stack_onto-below (drop k es) (elem_view e ∷ []))
    ∙ (ap lines_text (map-append f (stack_view (drop k es)) (elem_view e ∷ [])) ∙ (lines_text-append (map f (stack_view (drop k es))) (f (elem_view e) ∷ []) ∙ ap (λ xs. lines_text (map f (stack_view (drop k es))) ++ xs) (append-nil _))))

-- the k-th of a list is the next to have its line
pub lines-more : {X : Type 0} (show : List X → List (List ℕ)) (f : X → List ℕ) → ((z : X) (zs : List X) → show (z ∷ zs) ≡ f z ∷ show zs) → (xs : List X) (k : ℕ) (z : X) (x y : List ℕ) → k < length xs → z ≡ get_or xs k z → y ≡ x ++ (f z ++ 10 ∷ [])
    → x ++ lines_text (show (drop k xs)) ≡ y ++ lines_text (show (drop (k + 1) xs))
lines-more show f split xs k z x y lt at e =
    let first : drop k xs ≡ z ∷ drop (k + 1) xs = rw (add-one, drop-cons xs k z, ← at) in
    ap (λ zs. x ++ lines_text (show zs)) first ∙ (ap (λ ls. x ++ lines_text ls) (split z (drop (k + 1) xs)) ∙ line_moved x y (f z) (show (drop (k + 1) xs)) e)
