-- Counts of steps, and of the steps that touch.
use Rattle.std.proofs.Common.{Bool, List, [], ap, arith, cond, false, refl, suc, true, zero, ℕ, ◌+◌, ◌==◌, ◌∙◌, ◌∷◌, ◌≡◌}
use Rattle.std.proofs.lemmas.Bool.{and_parts}
use Rattle.std.proofs.lemmas.Bool.Decides.{Decides-eqb}
use Rattle.std.specs.List.{list_all, list_any}
use Rattle.chr_semantics.specs.Program.{Program}
use Rattle.chr_semantics.specs.State.{State}
use Rattle.chr_semantics.specs.Step.{after, count_steps, step}
use Rattle.chr_semantics.specs.Touch.{Mark, touched, touched_any, touches}

-- a sum of counts that is 0
pub count_none : (b : Bool) (m : ℕ) → cond b 1 0 + m ≡ 0 → (b ≡ false) × (m ≡ 0)
count_none true m h = absurd (omega (arith, h))
count_none false m h = (refl, omega (arith, h))

-- steps in two parts
pub after-add : (p : Program) (s : State) (k m : ℕ) → after p s (k + m) ≡ after p (after p s k) m
after-add p s zero m = let e : 0 + m ≡ m = omega arith in ap (after p s) e
after-add p s (suc k) m = let e : suc k + m ≡ suc (k + m) = omega arith in ap (after p s) e ∙ after-add p (step p s) k m

count-add_at : (p : Program) (test : State → Bool) (b x y z : ℕ) → x ≡ y + z → b + x ≡ b + y + z
count-add_at p test b x y z e = omega (arith, e)

-- counts in two parts
pub count-add : (p : Program) (test : State → Bool) (s : State) (k m : ℕ) → count_steps p test s (k + m) ≡ count_steps p test s k + count_steps p test (after p s k) m
count-add p test s zero m = let e : 0 + m ≡ m = omega arith in ap (count_steps p test s) e ∙ omega arith
count-add p test s (suc k) m =
    let e : suc k + m ≡ suc (k + m) = omega arith in
    ap (count_steps p test s) e ∙ count-add_at p test (cond (test s) 1 0) _ _ _ (count-add p test (step p s) k m)

-- no mark of a list is touched
abbrev pub NoneTouched : Program → State → ℕ → List Mark → Type 0
NoneTouched p s m [] = Unit {0}
NoneTouched p s m (x ∷ xs) = (touched p s m x ≡ 0) × NoneTouched p s m xs

-- equal counts say that nothing between touches
pub NoneTouched-from_counts : (p : Program) (q : State) (k m : ℕ) (marks : List Mark) → list_all (λ x. touched p q k x == touched p q (k + m) x) marks ≡ true → NoneTouched p (after p q k) m marks
NoneTouched-from_counts p q k m [] h = tt
NoneTouched-from_counts p q k m (x ∷ xs) h =
    let r = and_parts (touched p q k x == touched p q (k + m) x) _ h in
    let e : touched p q k x ≡ touched p q (k + m) x = (Decides-eqb (touched p q k x) (touched p q (k + m) x)).0 r.0 in
    let f : touched p q (k + m) x ≡ touched p q k x + touched p (after p q k) m x = count-add p (λ t. touches p t x) q k m in
    (omega (arith, e, f), NoneTouched-from_counts p q k m xs r.1)

pub any_first : (p : Program) (s : State) (m : ℕ) (marks : List Mark) → NoneTouched p s (suc m) marks → (list_any (touches p s) marks ≡ false) × NoneTouched p (step p s) m marks
any_first p s m [] h = (refl, tt)
any_first p s m (x ∷ xs) h =
    let w = count_none (touches p s x) (touched p (step p s) m x) h.0 in
    let l = any_first p s m xs h.1 in
    (rw w.0 l.0, (w.1, l.1))

-- where no step touches a mark of a list, no step touches any
pub touched_any_none : (p : Program) (m : ℕ) (s : State) (marks : List Mark) → NoneTouched p s m marks → touched_any p s m marks ≡ 0
touched_any_none p zero s marks h = refl
touched_any_none p (suc m) s marks h =
    let w = any_first p s m marks h in
    let e : touched_any p (step p s) m marks ≡ 0 = touched_any_none p m (step p s) marks w.1 in
    rw w.0 (omega (arith, e))
