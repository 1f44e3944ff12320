-- The limits of rounds and Steps.
use Rattle.std.proofs.Common.{◌≡◌, ℕ, zero, suc, ◌+◌, ◌<◌, ◌≤◌, Bool, true, false, cond, length, Option, Some, None, ap, refl, ◌∙◌, sym, arith, nat_lt}
use Rattle.std.specs.Prelude.{replicate}
use Rattle.std.proofs.lemmas.Bool.{le-ltb, lt-ltb}
use Rattle.std.proofs.lemmas.List.{length_push}
use Rattle.chr_semantics.specs.Program.{Program}
use Rattle.chr_semantics.specs.State.{State}
use Rattle.chr_semantics.specs.Step.{after}
use Rattle.chr_semantics.specs.Schedule.{Event, LimitsLaw, Progress, Refusal, first_refusal, is_served, move, next, no_progress, publish, refusal, too_many_rounds, too_many_steps, with_step}
use Rattle.chr_semantics.specs.Tasks.{Task, needed_task}
use Rattle.chr_semantics.specs.declared.limits.TheConstants.{MAX_ROUNDS, MAX_TRANSITIONS}

-- a Step more, whatever it needs
one_more : (p : Program) (q : State) (g : Progress) (t : Option Task) → (with_step p q g t).steps ≡ g.steps + 1
one_more p q g None = refl
one_more p q g (Some t) = by_test (is_served p q g t) refl
  where
    by_test : (b : Bool) → is_served p q g t ≡ b → (with_step p q g (Some t)).steps ≡ g.steps + 1
    by_test true is = rw (with_step, is) refl
    by_test false is = rw (with_step, is) refl

module _ (p : Program) (q : State) where
  no_round : (g : Progress) (k : ℕ) → MAX_ROUNDS ≤ length g.rounds → refusal p q g k publish ≡ Some (too_many_rounds k)
  no_round g k l = rw (le-ltb (length g.rounds) MAX_ROUNDS l) refl

  a_round : (g : Progress) (k : ℕ) → length g.rounds < MAX_ROUNDS → refusal p q g k publish ≡ None
  a_round g k l = rw (lt-ltb (length g.rounds) MAX_ROUNDS l) refl

  no_step : (g : Progress) (k : ℕ) → MAX_TRANSITIONS ≤ g.steps → refusal p q g k move ≡ Some (too_many_steps k)
  no_step g k l = rw (le-ltb g.steps MAX_TRANSITIONS l) refl

  a_step : (g : Progress) (k : ℕ) → g.steps < MAX_TRANSITIONS → refusal p q g k move ≡ None
  a_step g k l = rw (lt-ltb g.steps MAX_TRANSITIONS l) refl

  -- k events alike stand at the count k, and n more come
  Refuses : ℕ → (ℕ → Refusal) → ℕ → ℕ → Progress → Event → Type 0
  Refuses most because k n g e = first_refusal p q g k (replicate n e) ≡ cond (nat_lt most (k + n)) (Some (because most)) None

  goes_on : (most : ℕ) (because : ℕ → Refusal) (k n : ℕ) (g : Progress) (e : Event) → k < most → refusal p q g k e ≡ None → Refuses most because (k + 1) n (next p q g e) e → Refuses most because k (suc n) g e
  unfolding Refuses
  goes_on most because k n g e l none h = rw (first_refusal, none) (h ∙ ap (λ (m : ℕ). cond (nat_lt most m) (Some (because most)) None) (omega arith))

  ends : (most : ℕ) (because : ℕ → Refusal) (k n : ℕ) (g : Progress) (e : Event) → k ≡ most → refusal p q g k e ≡ Some (because k) → Refuses most because k (suc n) g e
  unfolding Refuses
  ends most because k n g e same there = rw (first_refusal, there) (ap (λ (m : ℕ). Some (because m)) same ∙ sym (ap (λ (b : Bool). cond b (Some (because most)) None) (lt-ltb most (k + suc n) (omega (arith, same)))))

  empty : (most : ℕ) (because : ℕ → Refusal) (k : ℕ) (g : Progress) (e : Event) → k ≤ most → Refuses most because k 0 g e
  unfolding Refuses
  empty most because k g e l = sym (ap (λ (b : Bool). cond b (Some (because most)) None) (le-ltb most (k + 0) (omega (arith, l))))

  rounds_at : (n k : ℕ) (g : Progress) (b : Bool) → nat_lt k MAX_ROUNDS ≡ b → k ≤ MAX_ROUNDS → length g.rounds ≡ k → (k < MAX_ROUNDS → Refuses MAX_ROUNDS too_many_rounds (k + 1) n (next p q g publish) publish) → Refuses MAX_ROUNDS too_many_rounds k (suc n) g publish
  rounds_at n k g true is l e go = let room : k < MAX_ROUNDS = grind (arith, is) in goes_on MAX_ROUNDS too_many_rounds k n g publish room (a_round g k (omega (arith, e, room))) (go room)
  rounds_at n k g false is l e go = let none : k ≡ MAX_ROUNDS = grind (arith, is, l) in ends MAX_ROUNDS too_many_rounds k n g publish none (no_round g k (omega (arith, e, none)))

  rounds_from : (n k : ℕ) (g : Progress) → k ≤ MAX_ROUNDS → length g.rounds ≡ k → Refuses MAX_ROUNDS too_many_rounds k n g publish
  rounds_from zero k g l e = empty MAX_ROUNDS too_many_rounds k g publish l
  rounds_from (suc n) k g l e = rounds_at n k g (nat_lt k MAX_ROUNDS) refl l e (λ room. rounds_from n (k + 1) (next p q g publish) (omega (arith, room)) (length_push g.rounds g.steps ∙ ap (λ (m : ℕ). m + 1) e))

  moves_at : (n k : ℕ) (g : Progress) (b : Bool) → nat_lt k MAX_TRANSITIONS ≡ b → k ≤ MAX_TRANSITIONS → g.steps ≡ k → (k < MAX_TRANSITIONS → Refuses MAX_TRANSITIONS too_many_steps (k + 1) n (next p q g move) move) → Refuses MAX_TRANSITIONS too_many_steps k (suc n) g move
  moves_at n k g true is l e go = let room : k < MAX_TRANSITIONS = grind (arith, is) in goes_on MAX_TRANSITIONS too_many_steps k n g move room (a_step g k (omega (arith, e, room))) (go room)
  moves_at n k g false is l e go = let none : k ≡ MAX_TRANSITIONS = grind (arith, is, l) in ends MAX_TRANSITIONS too_many_steps k n g move none (no_step g k (omega (arith, e, none)))

  moves_from : (n k : ℕ) (g : Progress) → k ≤ MAX_TRANSITIONS → g.steps ≡ k → Refuses MAX_TRANSITIONS too_many_steps k n g move
  moves_from zero k g l e = empty MAX_TRANSITIONS too_many_steps k g move l
  moves_from (suc n) k g l e = moves_at n k g (nat_lt k MAX_TRANSITIONS) refl l e (λ room. moves_from n (k + 1) (next p q g move) (omega (arith, room)) (one_more p q g (needed_task p (after p q g.steps)) ∙ ap (λ (m : ℕ). m + 1) e))

  all_rounds : (n : ℕ) → first_refusal p q no_progress 0 (replicate n publish) ≡ cond (nat_lt MAX_ROUNDS n) (Some (too_many_rounds MAX_ROUNDS)) None
  unfolding Refuses
  all_rounds n = rounds_from n 0 no_progress (omega arith) refl ∙ ap (λ (m : ℕ). cond (nat_lt MAX_ROUNDS m) (Some (too_many_rounds MAX_ROUNDS)) None) (omega arith)

  all_moves : (n : ℕ) → first_refusal p q no_progress 0 (replicate n move) ≡ cond (nat_lt MAX_TRANSITIONS n) (Some (too_many_steps MAX_TRANSITIONS)) None
  unfolding Refuses
  all_moves n = moves_from n 0 no_progress (omega arith) refl ∙ ap (λ (m : ℕ). cond (nat_lt MAX_TRANSITIONS m) (Some (too_many_steps MAX_TRANSITIONS)) None) (omega arith)

pub limits_law : LimitsLaw
limits_law = record { no_round = no_round; a_round = a_round; no_step = no_step; a_step = a_step; rounds = all_rounds; moves = all_moves }
