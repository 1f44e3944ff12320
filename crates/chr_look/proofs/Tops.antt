-- The part of a stack that stands above the lower elements.
use Rattle.std.proofs.Common.{◌≡◌, ◌∙◌, ◌≤◌, ◌+◌, ◌-◌, Bool, None, Option, Some, cond, false, option_map, suc, true, zero, ℕ, List, [], ◌∷◌, ◌++◌, ap, append_assoc, arith, drop, length, length-append, map, refl, sym, take}
use Rattle.std.specs.Prelude.{slice_get}
use Rattle.std.proofs.lemmas.Option.{slice_get-map}
use Rattle.std.proofs.lemmas.List.{length-map, length-take-le, take-append-drop}
use Rattle.std.proofs.Math.Seq.{take-append_seam}
use Rattle.chr_semantics.specs.Match.{Row}
use Rattle.chr_semantics.specs.Search.{ids_of}
use Rattle.chr_semantics.specs.State.{Element, known}
use Rattle.chr_store.specs.HistoryView.{fired_view, firings_view}
use Rattle.chr_store.specs.declared.fired.Fired.{Fired}
use Rattle.chr_trace.specs.State.{elem_view, stack_onto, stack_view}
use Rattle.chr_trace.specs.declared.state.Elem.{Elem}
use Rattle.chr_look.specs.EffectView.{waiting_ids}
use Rattle.chr_look.proofs.Watches.{stack_long}

module _ {A : Type 0} where
  onto_below : (es : List (Elem A)) (below : List Element) → stack_onto es below ≡ stack_view es ++ below
  onto_below [] below = refl
  onto_below (e ∷ es) below =
      onto_below es (elem_view e ∷ below) ∙ sym (append_assoc (stack_view es) (elem_view e ∷ []) below) ∙ ap (λ (xs : List Element). xs ++ below) (sym (onto_below es (elem_view e ∷ [])))

  onto_append : (xs ys : List (Elem A)) (below : List Element) → stack_onto (xs ++ ys) below ≡ stack_onto ys (stack_onto xs below)
  onto_append [] ys below = refl
  onto_append (x ∷ xs) ys below = onto_append xs ys (elem_view x ∷ below)

  in_two : (k : ℕ) (es : List (Elem A)) → stack_view es ≡ stack_view (drop k es) ++ stack_view (take k es)
  in_two k es = ap stack_view (sym (take-append-drop k es)) ∙ onto_append (take k es) (drop k es) [] ∙ onto_below (drop k es) (stack_view (take k es))

  -- what stands above the lowest k elements
  pub top_part : (es : List (Elem A)) (ts rest : List Element) (k : ℕ) → stack_view es ≡ ts ++ rest → length rest ≡ k → stack_view (drop k es) ≡ ts
  top_part es ts rest k is low =
      let whole : (stack_view (drop k es) ++ stack_view (take k es)) ≡ ts ++ rest = sym (in_two k es) ∙ is in
      let all : length es ≡ length ts + length rest = sym (stack_long es) ∙ ap (λ (xs : List Element). length xs) is ∙ length-append ts rest in
      let lower : length (stack_view (take k es)) ≡ k = stack_long (take k es) ∙ length-take-le k es (omega (arith, all, low)) in
      let both : length (stack_view (drop k es)) + length (stack_view (take k es)) ≡ length ts + length rest = sym (length-append (stack_view (drop k es)) (stack_view (take k es))) ∙ ap (λ (xs : List Element). length xs) whole ∙ length-append ts rest in
      let same : length (stack_view (drop k es)) ≡ length ts = omega (arith, both, lower, low) in
      sym (take-append_seam (stack_view (drop k es)) (stack_view (take k es))) ∙ ap (take (length (stack_view (drop k es)))) whole ∙ ap (λ (n : ℕ). take n (ts ++ rest)) same ∙ take-append_seam ts rest

-- the constraints that wait
pub ids_waiting : (rs : List Row) → waiting_ids (map (λ (r : Row). known r.0 r.1) rs) ≡ ids_of rs
ids_waiting [] = refl
ids_waiting (r ∷ rs) = ap (λ (is : List ℕ). r.0 ∷ is) (ids_waiting rs)

-- ---- the last entry of a history

last_there : {X : Type 0} (xs : List X) (x : X) → slice_get (xs ++ x ∷ []) (length xs) ≡ Some x
last_there [] x = refl
last_there (y ∷ xs) x = last_there xs x

one_pair : (x y : ℕ × List ℕ) → ◌≡◌ {A = Option (ℕ × List ℕ)} (Some x) (Some y) → x ≡ y
one_pair x y e = cc

last_viewed : (es : List Fired) (xs : List (ℕ × List ℕ)) (x : ℕ × List ℕ) → firings_view es ≡ xs ++ x ∷ [] → option_map fired_view (slice_get es (length es - 1)) ≡ Some x
last_viewed es xs x is =
    let long : length es ≡ length xs + 1 = sym (length-map es fired_view) ∙ ap (λ (l : List (ℕ × List ℕ)). length l) is ∙ length-append xs (x ∷ []) in
    let at : length es - 1 ≡ length xs = omega (arith, long) in
    sym (slice_get-map fired_view es (length es - 1)) ∙ ap (λ (l : List (ℕ × List ℕ)). slice_get l (length es - 1)) is ∙ ap (slice_get (xs ++ x ∷ [])) at ∙ last_there xs x

pub last_fired : (es : List Fired) (e : Fired) (xs : List (ℕ × List ℕ)) (x : ℕ × List ℕ) → Some e ≡ slice_get es (length es - 1) → firings_view es ≡ xs ++ x ∷ [] → fired_view e ≡ x
last_fired es e xs x at is = one_pair (fired_view e) x (ap (option_map fired_view) at ∙ last_viewed es xs x is)

pub none_fired : (es : List Fired) (xs : List (ℕ × List ℕ)) (x : ℕ × List ℕ) → None ≡ slice_get es (length es - 1) → firings_view es ≡ xs ++ x ∷ [] → ⊥
none_fired es xs x at is = none_some x (ap (option_map fired_view) at ∙ last_viewed es xs x is)
  where
    none_some : (y : ℕ × List ℕ) → ◌≡◌ {A = Option (ℕ × List ℕ)} None (Some y) → ⊥
    none_some y e = cc

-- what is left of a stack, where the top stays or not
pub left_below : (stays : Bool) (es : List Element) (top : Element) (rest : List Element) (height : ℕ) → es ≡ top ∷ rest → length es ≡ height → length (cond stays (top ∷ rest) rest) ≡ cond stays height (height - 1)
left_below true es top rest height is long = sym (ap (λ (l : List Element). length l) is) ∙ long
left_below false es top rest height is long = let e : length (top ∷ rest) ≡ height = sym (ap (λ (l : List Element). length l) is) ∙ long in omega (arith, e)
