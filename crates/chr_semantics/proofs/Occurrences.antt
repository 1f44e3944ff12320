-- An occurrence stands at a head of its symbol.
use Rattle.std.proofs.Common.{Bool, List, Some, [], arith, cond, false, length, map, not, refl, reverse, subst, suc, true, zero, ℕ, ◌&&◌, ◌+◌, ◌<◌, ◌==◌, ◌∷◌, ◌∙◌, ◌≡◌, ap}
use Rattle.std.proofs.lemmas.Bool.{and_parts, eq-eqb, not-true, or_left, or_right}
use Rattle.std.proofs.lemmas.List.Elements.{All-nil, All-cons, All-append, All-map, All-weaker}
use Rattle.std.proofs.lemmas.List.Sorted.{All-permutation, IsPermutation-reverse}
use Rattle.std.specs.List.{list_any}
use Rattle.std.specs.Prelude.{All, slice_get}
use Rattle.chr_semantics.specs.Program.{Head, Occurrence, Program, Rule, occurrence, occurrences_from, places_from}
use Rattle.chr_semantics.proofs.FirstTuple.{HeadsKept}
use Rattle.chr_semantics.proofs.Lists.{All-got, got_below}

-- the head at the place is of the symbol, and is not passive
pub record IsHeadOf (hs : List Head) (f place : ℕ) : Type 0 where
  pub head : Head
  pub there : slice_get hs place ≡ Some head
  pub of_symbol : (head.atom.sym == f) ≡ true
  pub active : head.passive ≡ false

-- the same of a place that is counted from k
record IsCounted (hs : List Head) (f k place : ℕ) : Type 0 where
  pub behind : ℕ
  pub counted : place ≡ k + behind
  pub is_head : IsHeadOf hs f behind

counted_more : (h : Head) (hs : List Head) (f k place : ℕ) → IsCounted hs f (k + 1) place → IsCounted (h ∷ hs) f k place
counted_more h hs f k place c = record {
  behind = suc c.behind;
  counted = (let e : place ≡ k + 1 + c.behind = c.counted in omega (arith, e));
  is_head = record { head = c.is_head.head; there = c.is_head.there; of_symbol = c.is_head.of_symbol; active = c.is_head.active };
}

counted_at : (b : Bool) (h : Head) (hs : List Head) (f k : ℕ) (places : List ℕ) → (h.atom.sym == f && not h.passive) ≡ b → All (IsCounted (h ∷ hs) f k) places → All (IsCounted (h ∷ hs) f k) (cond b (k ∷ places) places)
counted_at true h hs f k places is rest =
    let r = and_parts (h.atom.sym == f) (not h.passive) is in
    All-cons (IsCounted (h ∷ hs) f k) k places (record { behind = 0; counted = omega arith; is_head = record { head = h; there = refl; of_symbol = r.0; active = not-true h.passive r.1 } }) rest
counted_at false h hs f k places is rest = rest

all_counted : (k f : ℕ) (hs : List Head) → All (IsCounted hs f k) (places_from k f hs)
all_counted k f [] = All-nil (IsCounted [] f k)
all_counted k f (h ∷ hs) =
    counted_at (h.atom.sym == f && not h.passive) h hs f k (places_from (k + 1) f hs) refl
    (All-weaker (IsCounted hs f (k + 1)) (IsCounted (h ∷ hs) f k) (counted_more h hs f k) (places_from (k + 1) f hs) (all_counted (k + 1) f hs))

from_start : (hs : List Head) (f place : ℕ) → IsCounted hs f 0 place → IsHeadOf hs f place
from_start hs f place c = let same : c.behind ≡ place = (let e : place ≡ 0 + c.behind = c.counted in omega (arith, e)) in subst (IsHeadOf hs f) same c.is_head

-- each occurrence of the symbol stands at such a head
abbrev pub OfSymbol : ℕ → Occurrence → Type 0
OfSymbol f o = IsHeadOf o.rule.heads f o.place

in_rule : (n f : ℕ) (r : Rule) → All (OfSymbol f) (map (λ k. record { number = n; rule = r; place = k }) (reverse (places_from 0 f r.heads)))
in_rule n f r =
    All-map (OfSymbol f) (λ k. record { number = n; rule = r; place = k }) (reverse (places_from 0 f r.heads))
    (All-permutation (IsHeadOf r.heads f) (places_from 0 f r.heads) (reverse (places_from 0 f r.heads)) (IsPermutation-reverse (places_from 0 f r.heads)) (All-weaker (IsCounted r.heads f 0) (IsHeadOf r.heads f) (from_start r.heads f) (places_from 0 f r.heads) (all_counted 0 f r.heads)))

in_program : (f n : ℕ) (p : Program) → All (OfSymbol f) (occurrences_from n p f)
in_program f n [] = All-nil (OfSymbol f)
in_program f n (r ∷ p) = All-append (OfSymbol f) _ (occurrences_from (n + 1) p f) (in_rule n f r) (in_program f (n + 1) p)

-- an occurrence stands at a head of its symbol that is not passive
pub occurrence_at : (p : Program) (f j : ℕ) (o : Occurrence) → occurrence p f j ≡ Some o → OfSymbol f o
occurrence_at p f zero o e = cc
occurrence_at p f (suc k) o e = All-got (OfSymbol f) (occurrences_from 0 p f) k o e (in_program f 0 p)

-- the place of an occurrence is one of its rule's heads
pub occurrence_below : (p : Program) (f j : ℕ) (o : Occurrence) → occurrence p f j ≡ Some o → o.place < length o.rule.heads
occurrence_below p f j o e = let h = occurrence_at p f j o e in got_below o.rule.heads o.place h.head h.there

-- whether a head has the symbol
abbrev pub has_symbol : List Head → ℕ → Bool
has_symbol hs f = list_any (λ h. h.atom.sym == f) hs

has_at : (hs : List Head) (f k : ℕ) (h : Head) → slice_get hs k ≡ Some h → (h.atom.sym == f) ≡ true → has_symbol hs f ≡ true
has_at [] f k h e is = cc
has_at (x ∷ hs) f zero h e is = let same : x ≡ h = cc in or_left (x.atom.sym == f) (has_symbol hs f) (ap (λ (y : Head). y.atom.sym == f) same ∙ is)
has_at (x ∷ hs) f (suc k) h e is = or_right (x.atom.sym == f) (has_symbol hs f) (has_at hs f k h e is)

-- the rule of an occurrence has a head of its symbol
pub occurrence_has : (p : Program) (f j : ℕ) (o : Occurrence) → occurrence p f j ≡ Some o → has_symbol o.rule.heads f ≡ true
occurrence_has p f j o e = let h = occurrence_at p f j o e in has_at o.rule.heads f o.place h.head h.there h.of_symbol

heads_more : (keep others : ℕ → Bool) (hs : List Head) → ((f : ℕ) → keep f ≡ true → others f ≡ true) → HeadsKept keep hs → HeadsKept others hs
heads_more keep others [] h k = tt
heads_more keep others (x ∷ hs) h k = (h x.atom.sym k.0, heads_more keep others hs h k.1)

-- the symbols of the heads are kept where they are what is kept
pub heads_kept : (hs : List Head) → HeadsKept (has_symbol hs) hs
heads_kept [] = tt
heads_kept (x ∷ hs) = (or_left (x.atom.sym == x.atom.sym) _ (eq-eqb x.atom.sym x.atom.sym refl), heads_more (has_symbol hs) (has_symbol (x ∷ hs)) hs (λ f h. or_right (x.atom.sym == f) (has_symbol hs f) h) (heads_kept hs))
