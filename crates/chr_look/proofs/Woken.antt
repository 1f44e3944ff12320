-- The transitions that make a constraint active again.
use Rattle.std.proofs.Common.{◌≡◌, ◌∙◌, ◌+◌, ◌++◌, ◌==◌, ◌∷◌, [], Bool, List, None, Option, Some, add-one, ap, cond, false, refl, suc, sym, true, ℕ}
use Rattle.chr_semantics.specs.Life.{wakes, wakes_on_top, woken}
use Rattle.chr_semantics.specs.Program.{Program}
use Rattle.chr_semantics.specs.State.{State}
use Rattle.chr_semantics.specs.Step.{after, is_running}

-- by the constraint that the next transition makes active again
module _ (s : State) (i : ℕ) where
  pub wakes_some : (k : ℕ) → Some k ≡ cond (is_running s.status) (wakes_on_top s.stack) None → (k == i) ≡ wakes s i
  wakes_some k e = by (is_running s.status) (wakes_on_top s.stack) refl refl e
    where
      by : (b : Bool) (o : Option ℕ) → is_running s.status ≡ b → wakes_on_top s.stack ≡ o → Some k ≡ cond b o None → (k == i) ≡ wakes s i
      by true (Some j) runs top e = let same : k ≡ j = cc in rw (runs, top, same) refl
      by true None runs top e = cc
      by false o runs top e = cc

  pub wakes_none : None ≡ cond (is_running s.status) (wakes_on_top s.stack) None → false ≡ wakes s i
  wakes_none e = by (is_running s.status) (wakes_on_top s.stack) refl refl e
    where
      by : (b : Bool) (o : Option ℕ) → is_running s.status ≡ b → wakes_on_top s.stack ≡ o → None ≡ cond b o None → false ≡ wakes s i
      by true (Some j) runs top e = cc
      by true None runs top e = rw (runs, top) refl
      by false o runs top e = rw runs refl

-- a transition later
pub woken_later : (p : Program) (s t : State) (i j k : ℕ) (b : Bool) (old new : List ℕ) → t ≡ after p s j → k ≡ j + 1 → b ≡ wakes t i → new ≡ old ++ cond b (k ∷ []) [] → old ≡ woken p s j i → new ≡ woken p s k i
woken_later p s t i j k b old new state one is more before =
    more ∙ (λ h. before h ++ cond ((is ∙ ap (λ x. wakes x i) state) h) ((one ∙ add-one j) h ∷ []) []) ∙ sym (ap (λ n. woken p s n i) (one ∙ add-one j))

-- where it runs, by the element on top
pub woken_when : (s : State) (found : Option ℕ) → is_running s.status ≡ true → found ≡ wakes_on_top s.stack → found ≡ cond (is_running s.status) (wakes_on_top s.stack) None
woken_when s found runs h = rw runs h
