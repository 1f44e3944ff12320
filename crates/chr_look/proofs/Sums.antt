-- Counts of 64 bits, a transition at a time.
use Rattle.std.proofs.Common.{◌≡◌, ◌∙◌, ◌+◌, ◌&&◌, ◌==◌, Bool, List, None, Option, Some, add-one, ap, arith, cond, false, length, nat_lt, not, option_map, refl, suc, sym, true, ℕ}
use Rattle.chr_semantics.specs.Program.{Program}
use Rattle.chr_semantics.specs.State.{State}
use Rattle.chr_semantics.specs.Step.{after, is_running, step}
use Rattle.chr_semantics.specs.Trail.{partial_lists}
use Rattle.chr_semantics.specs.Tries.{capped, tried_tuples}
use Rattle.chr_find.specs.TriedView.{AreTried}
use Rattle.chr_find.specs.declared.tried.Tried.{Tried}
use Rattle.chr_look.specs.CostView.{noted_cost, noted_solve}
use Rattle.chr_look.specs.NextView.{fires_next, place_of}
use Rattle.chr_look.specs.Profiling.{costs_of, solve_costs_of}
use Rattle.chr_semantics.specs.Profile.{Kind, counted, counted_next, finds, finds_in, fires_woken, goal_of, is_firing, is_kind, is_place, is_woken_at, kind_next, of_kind, partial_in, put_by, reactivate, default, same_kind, same_rule, searched_on_top, searches, searches_in, solve, solves_for, solves_in, sum_to, times_to, tries_in, wakes_in, woken_fire_in}

-- one more
one_counted : (b : Bool) (x c new : ℕ) → c ≡ capped x → new ≡ cond b (capped (c + 1)) c → new ≡ capped (x + cond b 1 0)
one_counted true x c new is more = omega (arith, is, more)
one_counted false x c new is more = omega (arith, is, more)

-- so many more
added : (b : Bool) (x c n new : ℕ) → c ≡ capped x → new ≡ cond b (capped (c + n)) c → new ≡ capped (x + cond b n 0)
added true x c n new is more = omega (arith, is, more)
added false x c n new is more = omega (arith, is, more)

-- at a head of a rule
costs_by : (b fires : Bool) (x y z w : ℕ) (tried : Tried) (c new : ℕ × ℕ × ℕ × ℕ) → c ≡ (capped x, capped y, capped z, capped w) → new ≡ cond b (noted_cost fires tried c) c
    → new ≡ (capped (x + cond b 1 0), capped (y + cond (b && fires) 1 0), capped (z + cond b tried.lists 0), capped (w + cond b tried.partial 0))
costs_by b fires x y z w tried c new is more = by b fires more
  where
    more_of : (m n k : ℕ) → m ≡ capped n → capped (m + k) ≡ capped (n + k)
    more_of m n k e = omega (arith, e)

    same_of : (m n : ℕ) → m ≡ capped n → m ≡ capped (n + 0)
    same_of m n e = omega (arith, e)

    e0 : c.0 ≡ capped x
    e0 = ap (λ (d : ℕ × ℕ × ℕ × ℕ). d.0) is

    e1 : c.1 ≡ capped y
    e1 = ap (λ (d : ℕ × ℕ × ℕ × ℕ). d.1) is

    e2 : c.2 ≡ capped z
    e2 = ap (λ (d : ℕ × ℕ × ℕ × ℕ). d.2) is

    e3 : c.3 ≡ capped w
    e3 = ap (λ (d : ℕ × ℕ × ℕ × ℕ). d.3) is

    by : (b fires : Bool) → new ≡ cond b (noted_cost fires tried c) c → new ≡ (capped (x + cond b 1 0), capped (y + cond (b && fires) 1 0), capped (z + cond b tried.lists 0), capped (w + cond b tried.partial 0))
    by true true more = more ∙ (λ h. (more_of c.0 x 1 e0 h, more_of c.1 y 1 e1 h, more_of c.2 z tried.lists e2 h, more_of c.3 w tried.partial e3 h))
    by true false more = more ∙ (λ h. (more_of c.0 x 1 e0 h, same_of c.1 y e1 h, more_of c.2 z tried.lists e2 h, more_of c.3 w tried.partial e3 h))
    by false fires more = more ∙ (λ h. (same_of c.0 x e0 h, same_of c.1 y e1 h, same_of c.2 z e2 h, same_of c.3 w e3 h))

-- of a rule's goals
solves_by : (b : Bool) (x y n : ℕ) (c new : ℕ × ℕ) → c ≡ (capped x, capped y) → new ≡ cond b (noted_solve n c) c → new ≡ (capped (x + cond b 1 0), capped (y + cond b n 0))
solves_by b x y n c new is more = by b more
  where
    e0 : c.0 ≡ capped x
    e0 = ap (λ (d : ℕ × ℕ). d.0) is

    e1 : c.1 ≡ capped y
    e1 = ap (λ (d : ℕ × ℕ). d.1) is

    first : capped (c.0 + 1) ≡ capped (x + 1)
    first = omega (arith, e0)

    second : capped (c.1 + n) ≡ capped (y + n)
    second = omega (arith, e1)

    first_same : c.0 ≡ capped (x + 0)
    first_same = omega (arith, e0)

    second_same : c.1 ≡ capped (y + 0)
    second_same = omega (arith, e1)

    by : (b : Bool) → new ≡ cond b (noted_solve n c) c → new ≡ (capped (x + cond b 1 0), capped (y + cond b n 0))
    by true more = more ∙ (λ h. (first h, second h))
    by false more = more ∙ (λ h. (first_same h, second_same h))

placed : (runs : Bool) (r k : ℕ) (o : Option (ℕ × ℕ)) → is_place r k (cond runs o None) ≡ (runs && is_place r k o)
placed true r k o = refl
placed false r k o = refl

-- the transition after the first n
module _ (p : Program) (s : State) (n : ℕ) where
  one_more : (f : ℕ → ℕ) → sum_to f n + f n ≡ sum_to f (n + 1)
  one_more f = sym (ap (sum_to f) (add-one n))

  pub kinds_more : (kind : Option Kind) (k : Kind) (c new : ℕ) → kind ≡ kind_next p (after p s n) → c ≡ capped (of_kind p s n k) → new ≡ cond (is_kind k kind) (capped (c + 1)) c → new ≡ capped (of_kind p s (n + 1) k)
  kinds_more kind k c new is before more =
      one_counted (is_kind k kind) (of_kind p s n k) c new before more ∙ (λ h. capped (of_kind p s n k + cond (is_kind k (is h)) 1 0)) ∙ ap capped (one_more (λ m. cond (is_kind k (kind_next p (after p s m))) 1 0))

  pub heads_more : (r k : ℕ) (place : Option (ℕ × ℕ)) (fires : Bool) (tried : Tried) (c new : ℕ × ℕ × ℕ × ℕ) → place ≡ place_of p (after p s n) → fires ≡ fires_next p (after p s n) → AreTried (λ f. counted_next f p (after p s n)) tried
      → c ≡ costs_of p s n r k → new ≡ cond (is_place r k place) (noted_cost fires tried c) c → new ≡ costs_of p s (n + 1) r k
  heads_more r k place fires tried c new place_is fires_is tried_is before more =
      costs_by (is_place r k place) fires (searches_in p s n r k) (finds_in p s n r k) (tries_in p s n r k) (partial_in p s n r k) tried c new before more
      ∙ (λ h. (
        capped (searches_in p s n r k + cond (there h) 1 0),
        capped (finds_in p s n r k + cond (there h && fires_is h) 1 0),
        capped (tries_in p s n r k + cond (there h) (tried_is.0 h) 0),
        capped (partial_in p s n r k + cond (there h) (tried_is.1 h) 0),
      ))
      ∙ (λ h. (
        capped (one_more (λ m. cond (searches p r k (after p s m)) 1 0) h),
        capped (one_more (λ m. cond (finds p r k (after p s m)) 1 0) h),
        capped (one_more (λ m. counted tried_tuples p r k (after p s m)) h),
        capped (one_more (λ m. counted partial_lists p r k (after p s m)) h),
      ))
    where
      there : is_place r k place ≡ searches p r k (after p s n)
      there = ap (is_place r k) place_is ∙ placed (is_running (after p s n).status) r k (searched_on_top p (after p s n).stack)

  pub solves_more : (kind : Option Kind) (rule o : Option ℕ) (put : ℕ) (c new : ℕ × ℕ) → kind ≡ kind_next p (after p s n) → rule ≡ goal_of p s n → put ≡ put_by p (after p s n)
      → c ≡ solve_costs_of p s n o → new ≡ cond (is_kind solve kind && same_rule o rule) (noted_solve put c) c → new ≡ solve_costs_of p s (n + 1) o
  solves_more kind rule o put c new kind_is rule_is put_is before more =
      solves_by (is_kind solve kind && same_rule o rule) (solves_in p s n o) (wakes_in p s n o) put c new before more
      ∙ (λ h. (capped (solves_in p s n o + cond (there h) 1 0), capped (wakes_in p s n o + cond (there h) (put_is h) 0)))
      ∙ (λ h. (capped (one_more (λ m. cond (solves_for p s o m) 1 0) h), capped (one_more (λ m. cond (solves_for p s o m) (put_by p (after p s m)) 0) h)))
    where
      there : (is_kind solve kind && same_rule o rule) ≡ solves_for p s o n
      there h = is_kind solve (kind_is h) && same_rule o (rule_is h)

  pub woken_more : (kind : Option Kind) (height h : ℕ) (b new : Bool) → kind ≡ kind_next p (after p s n) → height ≡ length (after p s n).stack → b ≡ is_woken_at p s n h
      → new ≡ cond (height == h && not (is_kind default kind)) (is_kind reactivate kind) b → new ≡ is_woken_at p s (n + 1) h
  woken_more kind height h b new kind_is height_is before more =
      more ∙ (λ i. cond (height_is i == h && not (is_kind default (kind_is i))) (is_kind reactivate (kind_is i)) (before i)) ∙ sym (ap (λ m. is_woken_at p s m h) (add-one n))

  pub fire_more : (kind : Option Kind) (height c new : ℕ) (b : Bool) → kind ≡ kind_next p (after p s n) → height ≡ length (after p s n).stack → b ≡ is_woken_at p s n height → c ≡ capped (woken_fire_in p s n)
      → new ≡ cond (is_firing kind && b) (capped (c + 1)) c → new ≡ capped (woken_fire_in p s (n + 1))
  fire_more kind height c new b kind_is height_is b_is before more =
      one_counted (is_firing kind && b) (woken_fire_in p s n) c new before more
      ∙ (λ h. capped (woken_fire_in p s n + cond (there h) 1 0))
      ∙ ap capped (one_more (λ m. cond (fires_woken p s m) 1 0))
    where
      there : (is_firing kind && b) ≡ fires_woken p s n
      there = (λ h. is_firing (kind_is h) && b_is h) ∙ ap (λ x. is_firing (kind_next p (after p s n)) && is_woken_at p s n x) height_is
