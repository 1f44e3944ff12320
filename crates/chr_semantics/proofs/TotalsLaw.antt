-- The sums of a desk's totals.
use Rattle.std.proofs.Common.{◌≡◌, ◌+◌, not, ◌||◌, List, [], ◌∷◌, length, refl, arith}
use Rattle.chr_semantics.specs.Desk.{Phase, Serial, TotalsLaw, count_of, drained, given_up, is_drained, is_given_up, is_out, is_posted, is_waiting, out, posted, waiting}

-- one serial more, by its phase
put_more : (f : Phase) (s : Serial) (ss : List Serial) → length ss ≡ count_of (λ s. not (is_waiting s)) ss + count_of is_waiting ss
    → (let t : Serial = record s { phase = f } in length (t ∷ ss) ≡ count_of (λ s. not (is_waiting s)) (t ∷ ss) + count_of is_waiting (t ∷ ss))
put_more waiting s ss h = omega (arith, h)
put_more out s ss h = omega (arith, h)
put_more given_up s ss h = omega (arith, h)
put_more posted s ss h = omega (arith, h)
put_more drained s ss h = omega (arith, h)

put_all : (ss : List Serial) → length ss ≡ count_of (λ s. not (is_waiting s)) ss + count_of is_waiting ss
put_all [] = refl
put_all (s ∷ ss) = put_more s.phase s ss (put_all ss)

posted_more : (f : Phase) (s : Serial) (ss : List Serial) → count_of (λ s. is_posted s || is_drained s) ss ≡ count_of is_drained ss + count_of is_posted ss
    → (let t : Serial = record s { phase = f } in count_of (λ s. is_posted s || is_drained s) (t ∷ ss) ≡ count_of is_drained (t ∷ ss) + count_of is_posted (t ∷ ss))
posted_more waiting s ss h = h
posted_more out s ss h = h
posted_more given_up s ss h = h
posted_more posted s ss h = omega (arith, h)
posted_more drained s ss h = omega (arith, h)

posted_all : (ss : List Serial) → count_of (λ s. is_posted s || is_drained s) ss ≡ count_of is_drained ss + count_of is_posted ss
posted_all [] = refl
posted_all (s ∷ ss) = posted_more s.phase s ss (posted_all ss)

taken_more : (f : Phase) (s : Serial) (ss : List Serial) → count_of (λ s. not (is_waiting s)) ss ≡ count_of (λ s. is_posted s || is_drained s) ss + count_of is_given_up ss + count_of is_out ss
    → (let t : Serial = record s { phase = f } in count_of (λ s. not (is_waiting s)) (t ∷ ss) ≡ count_of (λ s. is_posted s || is_drained s) (t ∷ ss) + count_of is_given_up (t ∷ ss) + count_of is_out (t ∷ ss))
taken_more waiting s ss h = h
taken_more out s ss h = omega (arith, h)
taken_more given_up s ss h = omega (arith, h)
taken_more posted s ss h = omega (arith, h)
taken_more drained s ss h = omega (arith, h)

taken_all : (ss : List Serial) → count_of (λ s. not (is_waiting s)) ss ≡ count_of (λ s. is_posted s || is_drained s) ss + count_of is_given_up ss + count_of is_out ss
taken_all [] = refl
taken_all (s ∷ ss) = taken_more s.phase s ss (taken_all ss)

pub totals_law : TotalsLaw
totals_law = record { put = put_all; posted = posted_all; taken = taken_all }
