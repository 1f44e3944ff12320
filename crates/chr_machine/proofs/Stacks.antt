-- The stack, when its top goes or is changed.
use Rattle.std.proofs.Common.{◌≡◌, ◌∙◌, ◌+◌, ◌-◌, ◌<◌, ◌++◌, false, true, ℕ, zero, suc, List, [], ◌∷◌, Option, None, Some, ap, append-nil, arith, drop, get_or, length, refl, set, sym}
use Rattle.std.specs.Prelude.{IsSome}
use Rattle.std.specs.Option.{option_to_list}
use Rattle.chr_semantics.specs.State.{Element}
use Rattle.chr_trace.specs.State.{elem_view, stack_onto, stack_view}
use Rattle.chr_trace.specs.declared.state.Elem.{Elem}
use Rattle.chr_trace.proofs.Stacks.{stack_put}
use Rattle.chr_machine.specs.Stack.{moved_to}

nothing : {A : Type 0} (es : List (Elem A)) → (0 < length es → ⊥) → es ≡ []
nothing [] h = refl
nothing (e ∷ es) h = absurd (h (omega arith))

-- what is left where the last element was taken
pub popped : {A : Type 0} (old new : List (Elem A)) (o : Option (Elem A)) → old ≡ new ++ option_to_list o → (0 < length old → IsSome o) → stack_view new ≡ drop 1 (stack_view old)
popped old new None is some =
    let none : old ≡ [] = nothing old (λ h. let no : false ≡ true = some h in cc) in
    ap stack_view (sym (append-nil new) ∙ (sym is ∙ none)) ∙ sym (ap (λ es. drop 1 (stack_view es)) none)
popped old new (Some x) is some = sym (ap (λ es. drop 1 (stack_view es)) is ∙ ap (drop 1) (stack_put new x))

-- the last element is the top
set_top : {A : Type 0} (es : List (Elem A)) (below : List Element) (i : ℕ) (x d : Elem A) → i + 1 ≡ length es → (rest : List Element) × (stack_onto es below ≡ elem_view (get_or es i d) ∷ rest) × (stack_onto (set es i x) below ≡ elem_view x ∷ rest)
set_top [] below i x d h = absurd (omega (arith, h))
set_top (e ∷ []) below zero x d h = (below, refl, refl)
set_top (e ∷ []) below (suc i) x d h = absurd (omega (arith, h))
set_top (e ∷ f ∷ es) below zero x d h = absurd (omega (arith, h))
set_top (e ∷ f ∷ es) below (suc i) x d h = set_top (f ∷ es) (elem_view e ∷ below) i x d (omega (arith, h))

-- the top is changed in its place
pub moved : {A : Type 0} (es : List (Elem A)) (n j : ℕ) (x y d : Elem A) → n ≡ length es → 0 < n → get_or es (n - 1) d ≡ y → ((rest : List Element) → elem_view x ∷ rest ≡ moved_to j (elem_view y ∷ rest)) → stack_view (set es (n - 1) x) ≡ moved_to j (stack_view es)
moved es n j x y d all some is moves =
    let last : (n - 1) + 1 ≡ length es = omega (arith, all, some) in
    let top = set_top es [] (n - 1) x d last in
    top.2 ∙ (moves top.0 ∙ sym (ap (moved_to j) (top.1 ∙ ap (λ e. elem_view e ∷ top.0) is)))
