-- What the log of a run tells of a constraint.
use Rattle.std.proofs.Common.{◌≡◌, ◌∙◌, ◌<◌, ◌+◌, ◌⊎◌, inl, inr, List, None, Option, Some, ap, arith, length, refl, suc, sym, zero, [], ◌∷◌, ℕ}
use Rattle.std.proofs.lemmas.Option.{slice_get_past}
use Rattle.std.specs.Prelude.{option_and_then, slice_get}
use Rattle.chr_semantics.specs.Life.{firing_at, gone, made_by, origin, taken_by}
use Rattle.chr_semantics.specs.Program.{Program}
use Rattle.chr_semantics.specs.State.{State}
use Rattle.chr_semantics.specs.Step.{after}
use Rattle.chr_look.specs.Logs.{IsLog, LogModel, entry_at, removal}
use Rattle.chr_look.proofs.Logged.{apart}

none_where : {X Y : Type 0} (xs : List X) (ys : List Y) (i : ℕ) → length ys ≡ length xs → slice_get xs i ≡ None → slice_get ys i ≡ None
none_where xs ys i long is = by (apart i (length xs))
  where
    there : {X : Type 0} (xs : List X) (i : ℕ) → i < length xs → slice_get xs i ≡ None → ⊥
    there [] i h e = omega (arith, h)
    there (x ∷ xs) zero h e = cc
    there (x ∷ xs) (suc i) h e = there xs i (omega (arith, h)) e

    by : (i < length xs) ⊎ ((i ≡ length xs) ⊎ (length xs < i)) → slice_get ys i ≡ None
    by (inl h) = absurd (there xs i h is)
    by (inr (inl e)) = slice_get_past ys i (omega (arith, e, long))
    by (inr (inr h)) = slice_get_past ys i (omega (arith, h, long))

module _ (p : Program) (s : State) (n : ℕ) (log : LogModel) (is : IsLog p s n log) where
  pub made_told : (i : ℕ) → entry_at (after p s n).history (slice_get log.origins i) ≡ made_by p s n (i + 1)
  made_told i = by (slice_get log.births i) refl
    where
      by : (o : Option ℕ) → slice_get log.births i ≡ o → entry_at (after p s n).history (slice_get log.origins i) ≡ made_by p s n (i + 1)
      by None e =
          ap (entry_at (after p s n).history) (none_where log.births log.origins i is.as_many e)
          ∙ sym (ap (λ (o : Option ℕ). option_and_then (firing_at p s) (option_and_then (origin p s) o)) (is.births_are i ∙ e))
      by (Some k) e = is.origins_are i k e ∙ sym (ap (λ (o : Option ℕ). option_and_then (firing_at p s) (option_and_then (origin p s) o)) (is.births_are i ∙ e))

  -- by the place of the first firing that removes it
  module _ (i : ℕ) (place : Option ℕ) (first : (ks : List ℕ) → length ks ≡ length (after p s n).history → removal p ks (after p s n).history (i + 1) ≡ option_and_then (slice_get ks) place) where
    pub gone_told : option_and_then (slice_get log.times) place ≡ gone p s n (i + 1)
    gone_told = sym (is.gone_are i ∙ first log.times is.one_each)

    pub taken_told : option_and_then (slice_get (after p s n).history) place ≡ taken_by p s n (i + 1)
    taken_told = by place refl ∙ ap (option_and_then (firing_at p s)) gone_told
      where
        at : (e : ℕ) (k : Option ℕ) → slice_get log.times e ≡ k → slice_get (after p s n).history e ≡ option_and_then (firing_at p s) k
        at e None w = none_where log.times (after p s n).history e (sym is.one_each) w
        at e (Some k) w = sym (is.times_are e k w)

        by : (o : Option ℕ) → place ≡ o → option_and_then (slice_get (after p s n).history) o ≡ option_and_then (firing_at p s) (option_and_then (slice_get log.times) o)
        by None w = refl
        by (Some e) w = at e (slice_get log.times e) refl
