-- The tests of a guard, one after another.
use Rattle.std.proofs.Common.{◌≡◌, ℕ, suc, ◌+◌, ◌<◌, ◌≤◌, Bool, true, false, ◌&&◌, List, ◌∷◌, length, get_or, drop, map, ap, sym, ◌∙◌, add-one, drop-cons}
use Rattle.std.proofs.lemmas.List.{drop_all}
use Rattle.chr_semantics.specs.Guard.{all_entailed, entailed}
use Rattle.chr_semantics.specs.Subst.{Subst}
use Rattle.chr_bind.specs.Guards.{test_view}
use Rattle.chr_bind.specs.declared.guard.Test.{Test}

module _ {A : Type 0} (m : Subst) (tests : List (Test A)) (i : ℕ) where
  next : (x : Test A) → i < length tests → x ≡ get_or tests i x → all_entailed m (map test_view (drop i tests)) ≡ (entailed m (test_view x) && all_entailed m (map test_view (drop (i + 1) tests)))
  next x lt at = ap (λ l. all_entailed m (map test_view l)) (drop-cons tests i x lt ∙ ap (λ y. y ∷ drop (suc i) tests) (sym at) ∙ ap (λ k. x ∷ drop k tests) (sym (add-one i)))

  -- a test that is not entailed decides
  pub not_entailed_at : (x : Test A) (so : Bool) → i < length tests → x ≡ get_or tests i x → so ≡ entailed m (test_view x) → so ≡ false → false ≡ all_entailed m (map test_view (drop i tests))
  not_entailed_at x so lt at is no' = sym (next x lt at ∙ ap (λ b. b && all_entailed m (map test_view (drop (i + 1) tests))) (sym is ∙ no'))

  -- after one that is, the others decide
  pub entailed_at : (x : Test A) (so : Bool) → i < length tests → x ≡ get_or tests i x → so ≡ entailed m (test_view x) → so ≡ true → all_entailed m (map test_view (drop i tests)) ≡ all_entailed m (map test_view (drop (i + 1) tests))
  entailed_at x so lt at is yes' = next x lt at ∙ ap (λ b. b && all_entailed m (map test_view (drop (i + 1) tests))) (sym is ∙ yes')

  pub entailed_end : length tests ≤ i → true ≡ all_entailed m (map test_view (drop i tests))
  entailed_end h = ap (λ l. all_entailed m (map test_view l)) (sym (drop_all i tests h))
