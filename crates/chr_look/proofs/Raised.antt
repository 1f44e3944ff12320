-- Lists to which a value is appended.
use Rattle.std.proofs.Common.{◌≡◌, ◌∙◌, ◌<◌, ◌≤◌, ◌+◌, ◌++◌, ◌∷◌, ◌⊎◌, [], inl, inr, List, Option, Some, ap, arith, length, length-append, refl, ℕ}
use Rattle.std.specs.Prelude.{slice_get}
use Rattle.chr_look.specs.Logs.{IsRaised}
use Rattle.chr_look.proofs.Logged.{apart, got_front, got_last}

-- on the way to a place for the height
pub record IsRaising (v : Option ℕ) (height : ℕ) (old now : List (Option ℕ)) : Type 0 where
  pub within : length now ≤ height + 1
  pub longer : length old ≤ length now
  pub kept : (h : ℕ) → h < length old → slice_get now h ≡ slice_get old h
  pub raised : (h : ℕ) → length old ≤ h → h < length now → slice_get now h ≡ Some v

pub raising_none : (v : Option ℕ) (height : ℕ) (old : List (Option ℕ)) → length old ≤ height + 1 → IsRaising v height old old
raising_none v height old h = record { within = h; longer = omega arith; kept = λ i l. refl; raised = λ i l m. absurd (omega (arith, l, m)) }

pub raising_more : (v : Option ℕ) (height : ℕ) (old now : List (Option ℕ)) → length now ≤ height → IsRaising v height old now → IsRaising v height old (now ++ v ∷ [])
raising_more v height old now l h = record {
  within = omega (arith, more, l);
  longer = omega (arith, more, h.longer);
  kept = λ i k. got_front now (v ∷ []) i (omega (arith, k, h.longer)) ∙ h.kept i k;
  raised = λ i k m. by i k (apart i (length now)) m;
}
  where
    more : length (now ++ v ∷ []) ≡ length now + 1
    more = length-append now (v ∷ [])

    by : (i : ℕ) → length old ≤ i → (i < length now) ⊎ ((i ≡ length now) ⊎ (length now < i)) → i < length (now ++ v ∷ []) → slice_get (now ++ v ∷ []) i ≡ Some v
    by i k (inl u) m = got_front now (v ∷ []) i u ∙ h.raised i k u
    by i k (inr (inl e)) m = ap (slice_get (now ++ v ∷ [])) e ∙ got_last now v
    by i k (inr (inr u)) m = absurd (omega (arith, u, m, more))

pub raised : (v : Option ℕ) (height : ℕ) (old now : List (Option ℕ)) → height < length now → IsRaising v height old now → IsRaised v height old now
raised v height old now l h = record { long = omega (arith, l, h.within); kept = h.kept; raised = λ i k m. h.raised i k (omega (arith, m, l)) }
