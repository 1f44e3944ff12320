-- What an occurrence is of: a rule of the program, at its number, and one of the rule's heads.
use Rattle.std.proofs.Common.{◌≡◌, ◌∙◌, ℕ, zero, suc, ◌+◌, ◌-◌, ◌<◌, ◌≤◌, List, [], ◌∷◌, length, refl, ap, sym, subst, arith, Bool, true, false, not, ◌&&◌, ◌==◌, map, cond, get_or, Option, Some}
use Rattle.std.specs.Prelude.{All, slice_get, reverse}
use Rattle.std.proofs.lemmas.List.Elements.{All-append, All-cons, All-head, All-nil, All-tail}
use Rattle.std.proofs.lemmas.List.{reverse-append, length-append, length-map}
use Rattle.chr_semantics.specs.Program.{Head, Rule, Program, Occurrence, places_from, occurrences_in, occurrences_from, occurrences, occurrence}
use Rattle.chr_semantics.proofs.Lists.{All-got, got_below}
use Rattle.chr_rules.specs.Index.{IsPlaceIn, pair_view, pairs_view, pair_of, pairs_of, head_count}
use Rattle.chr_rules.specs.declared.index.Occurrence.{Occurrence as Pair}

all_reversed : {X : Type 0} (P : X → Type 0) (xs : List X) → All P xs → All P (reverse xs)
all_reversed P [] h = h
all_reversed P (x ∷ xs) h =
    subst (All P) (sym (reverse-append (x ∷ []) xs)) (All-append P (reverse xs) (x ∷ []) (all_reversed P xs (All-tail P x xs h)) (All-cons P x [] (All-head P x xs h) (All-nil P)))

-- an occurrence of the rules that begin with the number r
record IsFrom (r : ℕ) (p : Program) (o : Occurrence) : Type 0 where
  number : r ≤ o.number
  rule : slice_get p (o.number - r) ≡ Some o.rule
  place : o.place < length o.rule.heads

places_below : (b : Bool) (k m n : ℕ) (ks : List ℕ) → k < n → m ≤ n → All (λ place. place < n) ks → All (λ place. place < n) (cond b (k ∷ ks) ks)
places_below true k m n ks h l e = All-cons (λ place. place < n) k ks h e
places_below false k m n ks h l e = e

places_within : (k f n : ℕ) (hs : List Head) → k + length hs ≤ n → All (λ place. place < n) (places_from k f hs)
places_within k f n [] h = All-nil (λ place. place < n)
places_within k f n (x ∷ hs) h = places_below (x.atom.sym == f && not x.passive) k k n (places_from (k + 1) f hs) (omega (arith, h)) (omega (arith, h)) (places_within (k + 1) f n hs (omega (arith, h)))

from_places : (r : ℕ) (rule : Rule) (p : Program) (ks : List ℕ) → All (λ place. place < length rule.heads) ks → All (IsFrom r (rule ∷ p)) (map (λ k. record { number = r; rule = rule; place = k }) ks)
from_places r rule p [] h = All-nil (IsFrom r (rule ∷ p))
from_places r rule p (k ∷ ks) h =
    let none : r - r ≡ 0 = omega arith in
    All-cons (IsFrom r (rule ∷ p)) (record { number = r; rule = rule; place = k }) (map (λ k. record { number = r; rule = rule; place = k }) ks)
    (record { number = omega arith; rule = rw none refl; place = All-head (λ place. place < length rule.heads) k ks h }) (from_places r rule p ks (All-tail (λ place. place < length rule.heads) k ks h))

from_behind : (r : ℕ) (rule : Rule) (p : Program) (os : List Occurrence) → All (IsFrom (r + 1) p) os → All (IsFrom r (rule ∷ p)) os
from_behind r rule p [] h = All-nil (IsFrom r (rule ∷ p))
from_behind r rule p (o ∷ os) h =
    let first = All-head (IsFrom (r + 1) p) o os h in
    let one : o.number - r ≡ suc (o.number - (r + 1)) = omega (arith, first.number) in
    All-cons (IsFrom r (rule ∷ p)) o os (record { number = omega (arith, first.number); rule = rw one first.rule; place = first.place }) (from_behind r rule p os (All-tail (IsFrom (r + 1) p) o os h))

all_from : (r : ℕ) (p : Program) (f : ℕ) → All (IsFrom r p) (occurrences_from r p f)
all_from r [] f = All-nil (IsFrom r [])
all_from r (rule ∷ p) f =
    All-append (IsFrom r (rule ∷ p)) (occurrences_in r rule f) (occurrences_from (r + 1) p f)
    (from_places r rule p (reverse (places_from 0 f rule.heads)) (all_reversed (λ place. place < length rule.heads) (places_from 0 f rule.heads) (places_within 0 f (length rule.heads) rule.heads (omega arith))))
    (from_behind r rule p (occurrences_from (r + 1) p f) (all_from (r + 1) p f))

-- an occurrence of the program: its rule stands at its number, and its place is of a head
pub record IsIn (p : Program) (o : Occurrence) : Type 0 where
  pub rule : slice_get p o.number ≡ Some o.rule
  pub place : o.place < length o.rule.heads

pub occurrence_in : (p : Program) (f j : ℕ) (o : Occurrence) → occurrence p f j ≡ Some o → IsIn p o
occurrence_in p f zero o e = cc
occurrence_in p f (suc k) o e =
    let from = All-got (IsFrom 0 p) (occurrences_from 0 p f) k o e (all_from 0 p f) in
    let whole : o.number - 0 ≡ o.number = omega arith in
    record { rule = rw whole at from.rule; place = from.place }

length_step : (b : Bool) (k m : ℕ) (ks : List ℕ) → length ks ≤ m → length (cond b (k ∷ ks) ks) ≤ m + 1
length_step true k m ks h = omega (arith, h)
length_step false k m ks h = omega (arith, h)

length-places : (k f : ℕ) (hs : List Head) → length (places_from k f hs) ≤ length hs
length-places k f [] = omega arith
length-places k f (h ∷ hs) = omega (arith, length_step (h.atom.sym == f && not h.passive) k (length hs) (places_from (k + 1) f hs) (length-places (k + 1) f hs))

length-reverse : {X : Type 0} (xs : List X) → length (reverse xs) ≡ length xs
length-reverse [] = refl
length-reverse (x ∷ xs) = ap length (reverse-append (x ∷ []) xs) ∙ omega (arith, length-append (reverse xs) (x ∷ []), length-reverse xs)

length-occurrences_in : (r : ℕ) (rule : Rule) (f : ℕ) → length (occurrences_in r rule f) ≤ length rule.heads
length-occurrences_in r rule f =
    omega (arith, length-map {B = Occurrence} (reverse (places_from 0 f rule.heads)) (λ k. record { number = r; rule = rule; place = k }), length-reverse (places_from 0 f rule.heads), length-places 0 f rule.heads)

length-occurrences_from : (r : ℕ) (p : Program) (f : ℕ) → length (occurrences_from r p f) ≤ head_count p
length-occurrences_from r [] f = omega arith
length-occurrences_from r (rule ∷ p) f =
    omega (arith, length-append (occurrences_in r rule f) (occurrences_from (r + 1) p f), length-occurrences_in r rule f, length-occurrences_from (r + 1) p f)

-- there are no more occurrences than heads
pub length-occurrences : (p : Program) (f : ℕ) → length (occurrences p f) ≤ head_count p
length-occurrences p f = length-occurrences_from 0 p f

-- the occurrence with a number, as a pair
pub record IsNumbered (p : Program) (f n : ℕ) (pair : ℕ × ℕ) : Type 0 where
  pub is : Occurrence
  pub found : occurrence p f n ≡ Some is
  pub as_pair : pair ≡ pair_of is

same_pairs : (os : List Pair) (qs : List Occurrence) (k : ℕ) (d : Pair) → map pair_view os ≡ map pair_of qs → k < length os → (q : Occurrence) × (slice_get qs k ≡ Some q) × (pair_view (get_or os k d) ≡ pair_of q)
same_pairs [] qs k d e h = absurd (omega (arith, h))
same_pairs (o ∷ os) [] k d e h = absurd (cc)
same_pairs (o ∷ os) (q ∷ qs) zero d e h = (q, refl, cc)
same_pairs (o ∷ os) (q ∷ qs) (suc k) d e h = same_pairs os qs k d (cc) (omega (arith, h))

occurrence_at : (p : Program) (f n : ℕ) → 0 < n → occurrence p f n ≡ slice_get (occurrences p f) (n - 1)
occurrence_at p f zero h = absurd (omega (arith, h))
occurrence_at p f (suc k) h = let e : suc k - 1 ≡ k = omega arith in rw e

pub numbered : (p : Program) (f n : ℕ) (os : List Pair) (d : Pair) → pairs_view os ≡ pairs_of (occurrences p f) → 0 < n → n ≤ length os → IsNumbered p f n (pair_view (get_or os (n - 1) d))
numbered p f n os d e some within =
    let at = same_pairs os (occurrences p f) (n - 1) d e (omega (arith, some, within)) in
    record { is = at.0; found = occurrence_at p f n some ∙ at.1; as_pair = at.2 }

-- it is of a rule of the program
pub numbered_rule : (p : Program) (f n : ℕ) (pair : ℕ × ℕ) → IsNumbered p f n pair → pair.0 < length p
numbered_rule p f n pair h = let within = got_below p h.is.number h.is.rule (occurrence_in p f n h.is h.found).rule in omega (arith, within, ap (λ (q : ℕ × ℕ). q.0) h.as_pair)

-- and of one of its heads
same_rule : (o : Option Rule) (a b : Rule) → o ≡ Some a → o ≡ Some b → a ≡ b
same_rule o a b e f = cc (e, f)

pub numbered_place : (p : Program) (f n : ℕ) (pair : ℕ × ℕ) → IsNumbered p f n pair → IsPlaceIn p pair.0 pair.1
numbered_place p f n pair h rule at =
    let within : IsIn p h.is = occurrence_in p f n h.is h.found in
    let number : pair.0 ≡ h.is.number = ap (λ (q : ℕ × ℕ). q.0) h.as_pair in
    let place : pair.1 ≡ h.is.place = ap (λ (q : ℕ × ℕ). q.1) h.as_pair in
    let same : h.is.rule ≡ rule = same_rule (slice_get p h.is.number) h.is.rule rule within.rule (ap (slice_get p) (sym number) ∙ at) in
    omega (arith, place, within.place, ap (λ (r : Rule). length r.heads) same)

-- and its number is no more than the heads
pub numbered_few : (p : Program) (f : ℕ) (os : List Pair) → pairs_view os ≡ pairs_of (occurrences p f) → length os ≤ head_count p
numbered_few p f os e =
    omega (arith, length-map os pair_view, length-map (occurrences p f) pair_of, ap length e, length-occurrences p f)
