-- Where the answers to a task stand, after one more and after a round more.
use Rattle.std.proofs.Common.{Bool, List, None, Option, Some, [], ap, arith, cond, false, inl, inr, refl, subst, sym, true, ℕ, ◌&&◌, ◌++◌, ◌==◌, ◌∙◌, ◌∷◌, ◌≡◌, ◌⊎◌, length}
use Rattle.std.proofs.lemmas.Bool.{and_from, eq-eqb, le-leb, leb-false, leb-true}
use Rattle.std.proofs.lemmas.List.{length-append}
use Rattle.std.specs.List.{list_all}
use Rattle.std.specs.Prelude.{nat_le, not, slice_get, unwrap_or}
use Rattle.chr_semantics.specs.Program.{Program}
use Rattle.chr_semantics.specs.Search.{has_number}
use Rattle.chr_semantics.specs.State.{State}
use Rattle.chr_semantics.specs.Step.{after}
use Rattle.chr_semantics.specs.Tasks.{Task, same_task, tasks}
use Rattle.chr_laws.specs.Kept.{Answered, ArePlaced, AreSpots, IsPlaced, SpotsLaw, at_of, is_guests, is_newer, newest, passes}
use Rattle.chr_laws.proofs.Places.{all_one_more, all_weaker, get_before, get_cases, get_last, get_some, has_before, has_last, passes_before, passes_same, passing}
use Rattle.chr_laws.proofs.Served.{placed_at}

pub same_itself : (t : Task) → same_task t t ≡ true
same_itself t = and_from (t.0 == t.0) (t.1 == t.1) (eq-eqb t.0 t.0 refl) (eq-eqb t.1 t.1 refl)

passes_last : (test : Answered → Bool) (xs : List Answered) (k : Answered) → test k ≡ true → passes test (slice_get (xs ++ k ∷ []) (length xs)) ≡ true
passes_last test xs k h = ap (passes test) (get_last xs k) ∙ h

-- a test that holds where another does
passes_weaker : (f g : Answered → Bool) (x : Option Answered) → ((k : Answered) → f k ≡ true → g k ≡ true) → passes f x ≡ true → passes g x ≡ true
passes_weaker f g None w h = h
passes_weaker f g (Some k) w h = w k h

le_trans : (a b c : ℕ) → nat_le a b ≡ true → nat_le b c ≡ true → nat_le a c ≡ true
le_trans a b c h k = let x = leb-true a b h in let y = leb-true b c k in le-leb a c (omega (arith, x, y))

le_other : (a b : ℕ) → nat_le a b ≡ false → nat_le b a ≡ true
le_other a b h = let x = leb-false a b h in le-leb b a (omega (arith, x))

le_same : (a : ℕ) → nat_le a a ≡ true
le_same a = le-leb a a (omega arith)

module _ (p : Program) (q : State) (rounds : List ℕ) (kept : List Answered) (row new_row : Task → Option ℕ) (guests new_guests : Task → List ℕ) (k : Answered)
    (old : AreSpots p q rounds kept row guests)
    (rows_now : (t : Task) → new_row t ≡ cond (same_task t k.task && not (is_guests p q rounds k)) (newest rounds kept (at_of rounds k) (length kept) (row t)) (row t))
    (guests_now : (t : Task) → new_guests t ≡ cond (same_task t k.task && is_guests p q rounds k) (guests t ++ length kept ∷ []) (guests t)) where
  -- it takes the place of an older one
  row_by : (t : Task) (c : ℕ) (b : Bool) → (same_task t k.task && not (is_guests p q rounds k)) ≡ b → (x : Option ℕ) → row t ≡ x → cond b (newest rounds kept (at_of rounds k) (length kept) x) x ≡ Some c
      → passes (λ l. same_task t l.task && not (is_guests p q rounds l)) (slice_get (kept ++ k ∷ []) c) ≡ true
  row_by t c false is x e h = passes_before (λ l. same_task t l.task && not (is_guests p q rounds l)) kept (k ∷ []) c (old.row_is t c (e ∙ h))
  row_by t c true is None e h = let same : length kept ≡ c = cc in subst (λ (d : ℕ). passes (λ l. same_task t l.task && not (is_guests p q rounds l)) (slice_get (kept ++ k ∷ []) d) ≡ true) same (passes_last (λ l. same_task t l.task && not (is_guests p q rounds l)) kept k is)
  row_by t c true is (Some d) e h = at (passes (λ l. nat_le (at_of rounds l) (at_of rounds k)) (slice_get kept d)) h
    where
      at : (b : Bool) → cond b (Some (length kept)) (Some d) ≡ Some c → passes (λ l. same_task t l.task && not (is_guests p q rounds l)) (slice_get (kept ++ k ∷ []) c) ≡ true
      at true i = let same : length kept ≡ c = cc in subst (λ (d : ℕ). passes (λ l. same_task t l.task && not (is_guests p q rounds l)) (slice_get (kept ++ k ∷ []) d) ≡ true) same (passes_last (λ l. same_task t l.task && not (is_guests p q rounds l)) kept k is)
      at false i = passes_before (λ l. same_task t l.task && not (is_guests p q rounds l)) kept (k ∷ []) c (old.row_is t c (e ∙ i))

  guests_by : (t : Task) (b : Bool) → (same_task t k.task && is_guests p q rounds k) ≡ b → list_all (λ c. passes (λ l. same_task t l.task && is_guests p q rounds l) (slice_get (kept ++ k ∷ []) c)) (cond b (guests t ++ length kept ∷ []) (guests t)) ≡ true
  guests_by t false is = all_weaker _ _ (guests t) (λ c h. passes_before (λ l. same_task t l.task && is_guests p q rounds l) kept (k ∷ []) c h) (old.guests_are t)
  guests_by t true is =
      all_one_more (λ c. passes (λ l. same_task t l.task && is_guests p q rounds l) (slice_get (kept ++ k ∷ []) c)) (guests t) (length kept)
      (all_weaker _ _ (guests t) (λ c h. passes_before (λ l. same_task t l.task && is_guests p q rounds l) kept (k ∷ []) c h) (old.guests_are t))
      (passes_last (λ l. same_task t l.task && is_guests p q rounds l) kept k is)

  -- an older answer's newest one
  newer_by : (a : ℕ) (b : Bool) (x : Option ℕ) → is_newer rounds kept a x ≡ true → is_newer rounds (kept ++ k ∷ []) a (cond b (newest rounds kept (at_of rounds k) (length kept) x) x) ≡ true
  newer_by a b None h = cc
  newer_by a false (Some d) h = passes_before (λ l. nat_le a (at_of rounds l)) kept (k ∷ []) d h
  newer_by a true (Some d) h = at (passes (λ l. nat_le (at_of rounds l) (at_of rounds k)) (slice_get kept d)) refl
    where
      at : (b : Bool) → passes (λ l. nat_le (at_of rounds l) (at_of rounds k)) (slice_get kept d) ≡ b → is_newer rounds (kept ++ k ∷ []) a (cond b (Some (length kept)) (Some d)) ≡ true
      at true i =
          let w = passing (λ l. nat_le a (at_of rounds l)) (slice_get kept d) h in
          let l : Answered = w.0 in
          let le = sym (ap (passes (λ z. nat_le (at_of rounds z) (at_of rounds k))) w.1) ∙ i in
          passes_last (λ z. nat_le a (at_of rounds z)) kept k (le_trans a (at_of rounds l) (at_of rounds k) w.2 le)
      at false i = passes_before (λ z. nat_le a (at_of rounds z)) kept (k ∷ []) d h

  -- its own newest one
  newest_by : (x : Option ℕ) → row k.task ≡ x → is_newer rounds (kept ++ k ∷ []) (at_of rounds k) (newest rounds kept (at_of rounds k) (length kept) x) ≡ true
  newest_by None e = passes_last (λ z. nat_le (at_of rounds k) (at_of rounds z)) kept k (le_same (at_of rounds k))
  newest_by (Some d) e = at (passes (λ l. nat_le (at_of rounds l) (at_of rounds k)) (slice_get kept d)) refl
    where
      at : (b : Bool) → passes (λ l. nat_le (at_of rounds l) (at_of rounds k)) (slice_get kept d) ≡ b → is_newer rounds (kept ++ k ∷ []) (at_of rounds k) (cond b (Some (length kept)) (Some d)) ≡ true
      at true i = passes_last (λ z. nat_le (at_of rounds k) (at_of rounds z)) kept k (le_same (at_of rounds k))
      at false i =
          let w = passing (λ l. same_task k.task l.task && not (is_guests p q rounds l)) (slice_get kept d) (old.row_is k.task d e) in
          let l : Answered = w.0 in
          let less = sym (ap (passes (λ z. nat_le (at_of rounds z) (at_of rounds k))) w.1) ∙ i in
          passes_before (λ z. nat_le (at_of rounds k) (at_of rounds z)) kept (k ∷ []) d
          (ap (passes (λ z. nat_le (at_of rounds k) (at_of rounds z))) w.1 ∙ le_other (at_of rounds l) (at_of rounds k) less)

  rows_by : (c : ℕ) (l : Answered) → (slice_get kept c ≡ Some l) ⊎ ((c ≡ length kept) × (l ≡ k)) → is_guests p q rounds l ≡ false → is_newer rounds (kept ++ k ∷ []) (at_of rounds l) (new_row l.task) ≡ true
  rows_by c l (inl e) kind =
      ap (is_newer rounds (kept ++ k ∷ []) (at_of rounds l)) (rows_now l.task)
      ∙ newer_by (at_of rounds l) (same_task l.task k.task && not (is_guests p q rounds k)) (row l.task) (old.all_rows c l e kind)
  rows_by c l (inr w) kind =
      let kind_now = ap (is_guests p q rounds) (sym w.1) ∙ kind in
      let its = and_from (same_task k.task k.task) _ (same_itself k.task) (ap not kind_now) in
      ap (λ (z : Answered). is_newer rounds (kept ++ k ∷ []) (at_of rounds z) (new_row z.task)) w.1
      ∙ ap (is_newer rounds (kept ++ k ∷ []) (at_of rounds k)) (rows_now k.task ∙ ap (λ (b : Bool). cond b (newest rounds kept (at_of rounds k) (length kept) (row k.task)) (row k.task)) its)
      ∙ newest_by (row k.task) refl

  has_by : (t : Task) (c : ℕ) (b : Bool) → has_number (guests t) c ≡ true → has_number (cond b (guests t ++ length kept ∷ []) (guests t)) c ≡ true
  has_by t c true h = has_before (guests t) (length kept ∷ []) c h
  has_by t c false h = h

  all_by : (c : ℕ) (l : Answered) → (slice_get kept c ≡ Some l) ⊎ ((c ≡ length kept) × (l ≡ k)) → is_guests p q rounds l ≡ true → has_number (new_guests l.task) c ≡ true
  all_by c l (inl e) kind = ap (λ (xs : List ℕ). has_number xs c) (guests_now l.task) ∙ has_by l.task c _ (old.all_guests c l e kind)
  all_by c l (inr w) kind =
      let kind_now = ap (is_guests p q rounds) (sym w.1) ∙ kind in
      let its = and_from (same_task k.task k.task) _ (same_itself k.task) kind_now in
      ap (λ (z : Answered). has_number (new_guests z.task) c) w.1
      ∙ ap (λ (xs : List ℕ). has_number xs c) (guests_now k.task ∙ ap (λ (b : Bool). cond b (guests k.task ++ length kept ∷ []) (guests k.task)) its)
      ∙ ap (has_number (guests k.task ++ length kept ∷ [])) w.0
      ∙ has_last (guests k.task) (length kept)

  pub spots_more : AreSpots p q rounds (kept ++ k ∷ []) new_row new_guests
  spots_more = record {
    row_is = λ t c e. row_by t c _ refl (row t) refl (sym (rows_now t) ∙ e);
    guests_are = λ t. ap (list_all (λ c. passes (λ l. same_task t l.task && is_guests p q rounds l) (slice_get (kept ++ k ∷ []) c))) (guests_now t) ∙ guests_by t _ refl;
    all_rows = λ c l e kind. rows_by c l (get_cases kept k c l e) kind;
    all_guests = λ c l e kind. all_by c l (get_cases kept k c l e) kind;
  }

-- a round more changes nothing of what was placed
pub at_more : (p : Program) (q : State) (rounds : List ℕ) (a : ℕ) (k : Answered) → IsPlaced p q rounds k → at_of (rounds ++ a ∷ []) k ≡ at_of rounds k
at_more p q rounds a k h = ap (λ (x : Option ℕ). unwrap_or x 0) (get_before rounds (a ∷ []) k.round (at_of rounds k) (get_some rounds k.round 0 h.0))

pub placed_more : (p : Program) (q : State) (rounds : List ℕ) (kept : List Answered) (a : ℕ) → ArePlaced p q rounds kept → ArePlaced p q (rounds ++ a ∷ []) kept
placed_more p q rounds [] a h = tt
placed_more p q rounds (k ∷ ks) a h =
    let longer = length-append rounds (a ∷ []) in
    let below = h.0.0 in
    ((omega (arith, longer, below), ap (λ (n : ℕ). slice_get (tasks p (after p q n)) k.index) (at_more p q rounds a k h.0) ∙ h.0.1), placed_more p q rounds ks a h.1)

module _ (p : Program) (q : State) (rounds : List ℕ) (kept : List Answered) (row : Task → Option ℕ) (guests : Task → List ℕ) (a : ℕ)
    (placed : ArePlaced p q rounds kept) (old : AreSpots p q rounds kept row guests) where
  at_later : (c : ℕ) (k : Answered) → slice_get kept c ≡ Some k → at_of (rounds ++ a ∷ []) k ≡ at_of rounds k
  at_later c k e = at_more p q rounds a k (placed_at p q rounds kept c k placed e)

  kind_later : (c : ℕ) (k : Answered) → slice_get kept c ≡ Some k → is_guests p q (rounds ++ a ∷ []) k ≡ is_guests p q rounds k
  kind_later c k e = ap (λ (n : ℕ). k.task.0 == (after p q n).next_id) (at_later c k e)

  newer_later : (n : ℕ) (x : Option ℕ) → is_newer (rounds ++ a ∷ []) kept n x ≡ is_newer rounds kept n x
  newer_later n None = refl
  newer_later n (Some d) = passes_same _ _ (slice_get kept d) (λ l e. ap (nat_le n) (at_later d l e))

  pub spots_later : AreSpots p q (rounds ++ a ∷ []) kept row guests
  spots_later = record {
    row_is = λ t c e. passes_same _ _ (slice_get kept c) (λ k is. ap (λ (b : Bool). same_task t k.task && not b) (kind_later c k is)) ∙ old.row_is t c e;
    guests_are = λ t. all_weaker _ _ (guests t)
        (λ c h. passes_same (λ k. same_task t k.task && is_guests p q (rounds ++ a ∷ []) k) (λ k. same_task t k.task && is_guests p q rounds k) (slice_get kept c) (λ k is. ap (λ (b : Bool). same_task t k.task && b) (kind_later c k is)) ∙ h)
        (old.guests_are t);
    all_rows = λ c k e kind. newer_later (at_of (rounds ++ a ∷ []) k) (row k.task) ∙ ap (λ (n : ℕ). is_newer rounds kept n (row k.task)) (at_later c k e) ∙ old.all_rows c k e (sym (kind_later c k e) ∙ kind);
    all_guests = λ c k e kind. old.all_guests c k e (sym (kind_later c k e) ∙ kind);
  }

pub spots_law : SpotsLaw
spots_law = record {
  none = λ p q. record { row_is = λ t c e. cc; guests_are = λ t. refl; all_rows = λ c k e kind. cc; all_guests = λ c k e kind. cc };
  one_more = λ p q rounds kept row new_row guests new_guests k old rows_now guests_now. spots_more p q rounds kept row new_row guests new_guests k old rows_now guests_now;
  later = λ p q rounds kept row guests a placed old. spots_later p q rounds kept row guests a placed old;
  placed_more = placed_more;
}
