-- The seven symbols are made one after another.
use Rattle.std.proofs.Common.{◌≡◌, ℕ, ◌+◌, ◌≤◌, Bool, true, false, cond, List, [], ◌∷◌, ◌++◌, length, ap, ◌∙◌, arith, is_some, codes}
use Rattle.std.proofs.lemmas.List.{length-append}
use Rattle.chr_semantics.specs.Names.{Names, first_names, symbol_of, with_symbol}

longer_by : (names more : Names) (b : Bool) → length (cond b names (names ++ more)) ≤ length names + length more
longer_by names more true = omega arith
longer_by names more false = omega (arith, length-append names more)

-- one more symbol at most
pub grown : (new old : Names) (name : List ℕ) (arity : ℕ) → new ≡ with_symbol old name arity → length new ≤ length old + 1
grown new old name arity e = omega (arith, ap length e, longer_by old ((name, arity) ∷ []) (is_some (symbol_of old name arity)))

pub seven : (n₀ n₁ n₂ n₃ n₄ n₅ n₆ n₇ : Names) → n₀ ≡ [] → n₁ ≡ with_symbol n₀ (codes "[]") 0 → n₂ ≡ with_symbol n₁ (codes "[|]") 2 → n₃ ≡ with_symbol n₂ (codes "+") 2 → n₄ ≡ with_symbol n₃ (codes "-") 2
    → n₅ ≡ with_symbol n₄ (codes "*") 2 → n₆ ≡ with_symbol n₅ (codes "//") 2 → n₇ ≡ with_symbol n₆ (codes "mod") 2 → n₇ ≡ first_names
seven n₀ n₁ n₂ n₃ n₄ n₅ n₆ n₇ e₀ e₁ e₂ e₃ e₄ e₅ e₆ e₇ =
    let f₁ : n₁ ≡ (codes "[]", 0) ∷ [] = e₁ ∙ ap (λ n. with_symbol n (codes "[]") 0) e₀ in
    let f₂ : n₂ ≡ (codes "[]", 0) ∷ (codes "[|]", 2) ∷ [] = e₂ ∙ ap (λ n. with_symbol n (codes "[|]") 2) f₁ in
    let f₃ : n₃ ≡ (codes "[]", 0) ∷ (codes "[|]", 2) ∷ (codes "+", 2) ∷ [] = e₃ ∙ ap (λ n. with_symbol n (codes "+") 2) f₂ in
    let f₄ : n₄ ≡ (codes "[]", 0) ∷ (codes "[|]", 2) ∷ (codes "+", 2) ∷ (codes "-", 2) ∷ [] = e₄ ∙ ap (λ n. with_symbol n (codes "-") 2) f₃ in
    let f₅ : n₅ ≡ (codes "[]", 0) ∷ (codes "[|]", 2) ∷ (codes "+", 2) ∷ (codes "-", 2) ∷ (codes "*", 2) ∷ [] = e₅ ∙ ap (λ n. with_symbol n (codes "*") 2) f₄ in
    let f₆ : n₆ ≡ (codes "[]", 0) ∷ (codes "[|]", 2) ∷ (codes "+", 2) ∷ (codes "-", 2) ∷ (codes "*", 2) ∷ (codes "//", 2) ∷ [] = e₆ ∙ ap (λ n. with_symbol n (codes "//") 2) f₅ in
    e₇ ∙ ap (λ n. with_symbol n (codes "mod") 2) f₆
