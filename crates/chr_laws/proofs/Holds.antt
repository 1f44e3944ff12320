-- What is kept of rounds and answers goes on to agree with the schedule.
use Rattle.std.proofs.Common.{Bool, List, None, Option, Some, [], ap, arith, cond, false, inl, inr, refl, subst, sym, true, zero, suc, ℕ, ◌&&◌, ◌||◌, ◌++◌, ◌≤◌, ◌∙◌, ◌∷◌, ◌≡◌, length, map}
use Rattle.std.proofs.lemmas.Bool.{and_from, and_parts, le-leb, leb-true, ne_eqb}
use Rattle.std.proofs.lemmas.List.{length-map, map-append}
use Rattle.std.specs.List.{list_any}
use Rattle.std.specs.Prelude.{nat_le, not, replicate, slice_get, unwrap_or}
use Rattle.chr_semantics.specs.Footprint.{answer}
use Rattle.chr_semantics.specs.Program.{Program}
use Rattle.chr_semantics.specs.Schedule.{Progress, kept, next, publish, with_took}
use Rattle.chr_semantics.specs.Stamps.{Rise}
use Rattle.chr_semantics.specs.State.{State}
use Rattle.chr_semantics.specs.Step.{after}
use Rattle.chr_semantics.specs.Tasks.{Task, same_task}
use Rattle.chr_laws.specs.Kept.{Answered, ArePast, ArePlaced, AreSpots, IsPlaced, at_of, is_guests, newest, place_of}
use Rattle.chr_laws.specs.Rounds.{AreAnswers, AreRounds, Holds, HoldsLaw, IsRound, Round, ats, flag_at, flag_in}
use Rattle.chr_laws.proofs.Places.{get_cases}
use Rattle.chr_laws.proofs.Spots.{at_more, placed_more, spots_law}

past_more : (n m : ℕ) (rounds : List ℕ) → n ≤ m → ArePast n rounds → ArePast m rounds
past_more n m [] l h = refl
past_more n m (a ∷ bs) l h =
    let r = and_parts (nat_le a n) _ h in
    let e = leb-true a n r.0 in
    and_from (nat_le a m) _ (le-leb a m (omega (arith, e, l))) (past_more n m bs l r.1)

past_last : (n : ℕ) (rounds : List ℕ) → ArePast n rounds → ArePast n (rounds ++ n ∷ [])
past_last n [] h = and_from (nat_le n n) _ (le-leb n n (omega arith)) refl
past_last n (a ∷ bs) h = let r = and_parts (nat_le a n) _ h in and_from (nat_le a n) _ r.0 (past_last n bs r.1)

rounds_more : (p : Program) (rise : Rise) (q : State) (rounds : List Round) (d : Round) → AreRounds p rise q rounds → IsRound p rise q d → AreRounds p rise q (rounds ++ d ∷ [])
rounds_more p rise q [] d h is = (is, tt)
rounds_more p rise q (c ∷ cs) d h is = (h.0, rounds_more p rise q cs d h.1 is)

answers_later : (p : Program) (q : State) (rounds : List ℕ) (answers : List Answered) (a : ℕ) → ArePlaced p q rounds answers → AreAnswers p q rounds answers → AreAnswers p q (rounds ++ a ∷ []) answers
answers_later p q rounds [] a h k = tt
answers_later p q rounds (x ∷ xs) a h k = (k.0 ∙ ap (λ (n : ℕ). answer p (after p q n) x.task) (sym (at_more p q rounds a x h.0)), answers_later p q rounds xs a h.1 k.1)

answers_more : (p : Program) (q : State) (rounds : List ℕ) (answers : List Answered) (x : Answered) → AreAnswers p q rounds answers → x.ids ≡ answer p (after p q (at_of rounds x)) x.task → AreAnswers p q rounds (answers ++ x ∷ [])
answers_more p q rounds [] x h e = (e, tt)
answers_more p q rounds (y ∷ ys) x h e = (h.0, answers_more p q rounds ys x h.1 e)

placed_one_more : (p : Program) (q : State) (rounds : List ℕ) (answers : List Answered) (x : Answered) → ArePlaced p q rounds answers → IsPlaced p q rounds x → ArePlaced p q rounds (answers ++ x ∷ [])
placed_one_more p q rounds [] x h e = (e, tt)
placed_one_more p q rounds (y ∷ ys) x h e = (h.0, placed_one_more p q rounds ys x h.1 e)

-- no answer was kept of a round that is not there
none_kept : (p : Program) (q : State) (rounds : List ℕ) (answers : List Answered) (x : ℕ) → ArePlaced p q rounds answers → list_any (same_task (length rounds, x)) (map place_of answers) ≡ false
none_kept p q rounds [] x h = refl
none_kept p q rounds (k ∷ ks) x h =
    let below = h.0.0 in
    rw (ne_eqb (length rounds) k.round (λ e. absurd (omega (arith, e, below)))) (none_kept p q rounds ks x h.1)

-- the flags of a round of which no answer was kept
no_flag : (n x : ℕ) → unwrap_or (slice_get (replicate n false) x) false ≡ false
no_flag zero x = refl
no_flag (suc n) zero = refl
no_flag (suc n) (suc x) = no_flag n x

any_last : (f : ℕ × ℕ → Bool) (xs : List (ℕ × ℕ)) (y : ℕ × ℕ) → list_any f (xs ++ y ∷ []) ≡ cond (f y) true (list_any f xs)
any_last f [] y = at (f y)
  where
    at : (b : Bool) → (b || false) ≡ cond b true false
    at true = refl
    at false = refl
any_last f (x ∷ xs) y = at (f x) (f y) (any_last f xs y)
  where
    at : (b c : Bool) → list_any f (xs ++ y ∷ []) ≡ cond c true (list_any f xs) → (b || list_any f (xs ++ y ∷ [])) ≡ cond c true (b || list_any f xs)
    at true true e = refl
    at true false e = refl
    at false c e = e

module _ (p : Program) (rise : Rise) (q : State) (g : Progress) (rounds : List Round) (answers : List Answered) (row : Task → Option ℕ) (guests : Task → List ℕ) (h : Holds p rise q g rounds answers row guests) where
  module _ (d : Round) (is : IsRound p rise q d) (now : d.at ≡ g.steps) (none : d.flags ≡ replicate (length d.flags) false) where
    longer : ats (rounds ++ d ∷ []) ≡ ats rounds ++ d.at ∷ []
    longer = map-append (λ (c : Round). c.at) rounds (d ∷ [])

    flags_by : (i x : ℕ) (c : Option Round) → slice_get (rounds ++ d ∷ []) i ≡ c → flag_in x c ≡ list_any (same_task (i, x)) g.kept
    flags_by i x None e = sym (ap (flag_in x) (gone rounds i e)) ∙ h.flagged i x
      where
        gone : (cs : List Round) (j : ℕ) → slice_get (cs ++ d ∷ []) j ≡ None → slice_get cs j ≡ None
        gone [] j k = refl
        gone (c ∷ cs) zero k = cc
        gone (c ∷ cs) (suc j) k = gone cs j k
    flags_by i x (Some c) e = elim (get_cases rounds d i c e) [
      | inl w ↦ sym (ap (flag_in x) w) ∙ h.flagged i x
      | inr w ↦
          ap (λ (z : Round). unwrap_or (slice_get z.flags x) false) w.1
          ∙ ap (λ (xs : List Bool). unwrap_or (slice_get xs x) false) none ∙ no_flag (length d.flags) x
          ∙ sym (ap (λ (j : ℕ). list_any (same_task (j, x)) g.kept) (w.0 ∙ sym (length-map rounds (λ (z : Round). z.at)))
          ∙ ap (list_any (same_task (length (ats rounds), x))) (sym h.kept_are) ∙ none_kept p q (ats rounds) answers x h.placed)
    ]

    pub publishes_holds : Holds p rise q (next p q g publish) (rounds ++ d ∷ []) answers row guests
    publishes_holds = record {
      ats_are = longer ∙ ap (λ (xs : List ℕ). xs ++ d.at ∷ []) h.ats_are ∙ ap (λ (n : ℕ). g.rounds ++ n ∷ []) now;
      are_rounds = rounds_more p rise q rounds d h.are_rounds is;
      past = subst (ArePast g.steps) (sym (longer ∙ ap (λ (n : ℕ). ats rounds ++ n ∷ []) now)) (past_last g.steps (ats rounds) h.past);
      kept_are = h.kept_are;
      placed = subst (λ (xs : List ℕ). ArePlaced p q xs answers) (sym longer) (placed_more p q (ats rounds) answers d.at h.placed);
      are_answers = subst (λ (xs : List ℕ). AreAnswers p q xs answers) (sym longer) (answers_later p q (ats rounds) answers d.at h.placed h.are_answers);
      spots = subst (λ (xs : List ℕ). AreSpots p q xs answers row guests) (sym longer) (spots_law.later p q (ats rounds) answers row guests d.at h.placed h.spots);
      flagged = λ i x. flags_by i x (slice_get (rounds ++ d ∷ []) i) refl;
    }

  module _ (new_rounds : List Round) (new_row : Task → Option ℕ) (new_guests : Task → List ℕ) (k : Answered)
      (placed : IsPlaced p q (ats rounds) k) (right : k.ids ≡ answer p (after p q (at_of (ats rounds) k)) k.task)
      (same : ats new_rounds ≡ ats rounds) (are : AreRounds p rise q new_rounds)
      (flags : (i x : ℕ) → flag_at new_rounds i x ≡ cond (same_task (i, x) (place_of k)) true (flag_at rounds i x))
      (rows_now : (t : Task) → new_row t ≡ cond (same_task t k.task && not (is_guests p q (ats rounds) k)) (newest (ats rounds) answers (at_of (ats rounds) k) (length answers) (row t)) (row t))
      (guests_now : (t : Task) → new_guests t ≡ cond (same_task t k.task && is_guests p q (ats rounds) k) (guests t ++ length answers ∷ []) (guests t)) where
    pub keeps_holds : Holds p rise q (with_took g k.index (kept k.round)) new_rounds (answers ++ k ∷ []) new_row new_guests
    keeps_holds = record {
      ats_are = same ∙ h.ats_are;
      are_rounds = are;
      past = subst (ArePast g.steps) (sym same) h.past;
      kept_are = map-append place_of answers (k ∷ []) ∙ ap (λ (xs : List (ℕ × ℕ)). xs ++ place_of k ∷ []) h.kept_are;
      placed = subst (λ (xs : List ℕ). ArePlaced p q xs (answers ++ k ∷ [])) (sym same) (placed_one_more p q (ats rounds) answers k h.placed placed);
      are_answers = subst (λ (xs : List ℕ). AreAnswers p q xs (answers ++ k ∷ [])) (sym same) (answers_more p q (ats rounds) answers k h.are_answers right);
      spots = subst (λ (xs : List ℕ). AreSpots p q xs (answers ++ k ∷ []) new_row new_guests) (sym same) (spots_law.one_more p q (ats rounds) answers row new_row guests new_guests k h.spots rows_now guests_now);
      flagged = λ i x. flags i x ∙ ap (cond (same_task (i, x) (place_of k)) true) (h.flagged i x) ∙ sym (any_last (same_task (i, x)) g.kept (place_of k));
    }

pub holds_law : HoldsLaw
holds_law = record {
  at_start = λ p rise q. record {
    ats_are = refl;
    are_rounds = tt;
    past = refl;
    kept_are = refl;
    placed = tt;
    are_answers = tt;
    spots = spots_law.none p q;
    flagged = λ i x. refl;
  };
  as_ever = λ p rise q g m rounds answers row guests h rs ks steps. record {
    ats_are = h.ats_are ∙ sym rs;
    are_rounds = h.are_rounds;
    past = past_more g.steps m.steps (ats rounds) steps h.past;
    kept_are = h.kept_are ∙ sym ks;
    placed = h.placed;
    are_answers = h.are_answers;
    spots = h.spots;
    flagged = λ i x. h.flagged i x ∙ ap (list_any (same_task (i, x))) (sym ks);
  };
  publishes = λ p rise q g rounds answers row guests d h is now none. publishes_holds p rise q g rounds answers row guests h d is now none;
  keeps = λ p rise q g rounds new_rounds answers row new_row guests new_guests k h placed right same are flags rows_now guests_now.
      keeps_holds p rise q g rounds answers row guests h new_rounds new_row new_guests k placed right same are flags rows_now guests_now;
}
