-- Stamps by calls tell what counts of touches tell.
use Rattle.std.proofs.Common.{subst, Bool, List, Some, [], ap, arith, cond, false, inl, inr, refl, suc, sym, true, zero, ℕ, ◌+◌, ◌<◌, ◌≤◌, ◌==◌, ◌∙◌, ◌∷◌, ◌≡◌}
use Rattle.std.proofs.lemmas.Bool.{and_from, and_parts, eq-eqb, eqb-true, or_parts}
use Rattle.std.specs.Prelude.{IsTrue, ◌↔◌}
use Rattle.std.specs.List.{list_any, list_all}
use Rattle.chr_semantics.specs.Footprint.{IsSound, marks_added}
use Rattle.chr_semantics.specs.Program.{Occurrence, occurrence, Atom, Head, Program}
use Rattle.chr_semantics.specs.Search.{atom_of}
use Rattle.chr_semantics.specs.State.{resolved_atom, State, rows, start}
use Rattle.chr_semantics.specs.Step.{after, step}
use Rattle.chr_semantics.specs.Touch.{rule, Mark, symbol, touched, touched_any, touches}
use Rattle.chr_semantics.specs.Stamps.{IsRise, Rise, StampsByCallLaw, stamp}
use Rattle.chr_semantics.proofs.Counts.{after-add, NoneTouched, touched_any_none}
use Rattle.chr_semantics.proofs.FootprintLaw.{footprint_is, keeps_after, keeps_one, marks_of}
use Rattle.chr_semantics.proofs.Guest.{entered, entered_next, enters_or_stays, found_kept, never_again}
use Rattle.chr_semantics.proofs.Occurrences.{occurrence_has, has_symbol}
use Rattle.chr_semantics.proofs.Soundness.{sound_after, sound_start, sound_step}
use Rattle.chr_semantics.proofs.Lookups.{atom_resolved}
use Rattle.chr_semantics.proofs.StampsLaw.{AddsOne, NoneTouched-from_any, any_from_counts}

module _ (p : Program) (rise : Rise) (w : IsRise p rise) where
  stamp-add_at : (b x y z : ℕ) → x ≡ y + z → b + x ≡ b + y + z
  stamp-add_at b x y z e = omega (arith, e)

  stamp-add : (s : State) (k m : ℕ) (x : Mark) → stamp p rise s (k + m) x ≡ stamp p rise s k x + stamp p rise (after p s k) m x
  stamp-add s zero m x = let e : 0 + m ≡ m = omega arith in ap (λ (n : ℕ). stamp p rise s n x) e ∙ omega arith
  stamp-add s (suc k) m x =
      let e : suc k + m ≡ suc (k + m) = omega arith in
      ap (λ (n : ℕ). stamp p rise s n x) e ∙ stamp-add_at (rise s x) _ _ _ (stamp-add (step p s) k m x)

  -- a stamp has not risen exactly where its mark was not touched, and it is never behind the count
  none_at : (b : Bool) (s : State) (x : Mark) (t u : ℕ) → IsSound s → touches p s x ≡ b → (t ≡ 0 → u ≡ 0) → cond b 1 0 + t ≡ 0 → rise s x + u ≡ 0
  none_at true s x t u h is go e = absurd (omega (arith, e))
  none_at false s x t u h is go e = let r = w.stays s h x is in let l = go (omega (arith, e)) in omega (arith, r, l)

  none_risen : (s : State) (m : ℕ) (x : Mark) → IsSound s → touched p s m x ≡ 0 → stamp p rise s m x ≡ 0
  none_risen s zero x h e = refl
  none_risen s (suc m) x h e = none_at (touches p s x) s x (touched p (step p s) m x) (stamp p rise (step p s) m x) h refl (none_risen (step p s) m x (sound_step p s h)) e

  most_at : (b : Bool) (s : State) (x : Mark) (t u : ℕ) → IsSound s → touches p s x ≡ b → t ≤ u → cond b 1 0 + t ≤ rise s x + u
  most_at true s x t u h is l = let r = w.rises s h x is in omega (arith, r, l)
  most_at false s x t u h is l = omega (arith, l)

  at_most : (s : State) (m : ℕ) (x : Mark) → IsSound s → touched p s m x ≤ stamp p rise s m x
  at_most s zero x h = omega arith
  at_most s (suc m) x h = most_at (touches p s x) s x (touched p (step p s) m x) (stamp p rise (step p s) m x) h refl (at_most (step p s) m x (sound_step p s h))

  -- equal stamps
  none_from : (q : State) (k m : ℕ) (marks : List Mark) → IsSound (after p q k) → list_all (λ x. stamp p rise q k x == stamp p rise q (k + m) x) marks ≡ true → NoneTouched p (after p q k) m marks
  none_from q k m [] sound h = tt
  none_from q k m (x ∷ xs) sound h =
      let r = and_parts (stamp p rise q k x == stamp p rise q (k + m) x) _ h in
      let e = eqb-true (stamp p rise q k x) (stamp p rise q (k + m) x) r.0 in
      let f = stamp-add q k m x in
      let l = at_most (after p q k) m x sound in
      (omega (arith, e, f, l), none_from q k m xs sound r.1)

  equal_from : (q : State) (k m : ℕ) (marks : List Mark) → IsSound (after p q k) → NoneTouched p (after p q k) m marks → list_all (λ x. stamp p rise q k x == stamp p rise q (k + m) x) marks ≡ true
  equal_from q k m [] sound h = refl
  equal_from q k m (x ∷ xs) sound h =
      let f = stamp-add q k m x in
      let none = none_risen (after p q k) m x sound h.0 in
      and_from (stamp p rise q k x == stamp p rise q (k + m) x) _ (eq-eqb (stamp p rise q k x) (stamp p rise q (k + m) x) (omega (arith, f, none))) (equal_from q k m xs sound h.1)

  -- stamps that rose by what an Activate adds
  once_at : (t u : ℕ) → (t ≡ 0 → u ≡ 0) → t ≤ u → u ≡ 1 → t ≡ 1
  once_at zero u none l e = absurd (let z = none refl in omega (arith, e, z))
  once_at (suc t) u none l e = omega (arith, e, l)

  added_once : (s : State) (m f : ℕ) (x : Mark) → IsSound s → stamp p rise s m x ≡ marks_added f x → touched p s m x ≡ marks_added f x
  added_once s m f (rule r) h e = let l = at_most s m (rule r) h in omega (arith, e, l)
  added_once s m f (symbol g) h e = by_test (f == g) e
    where
      by_test : (c : Bool) → stamp p rise s m (symbol g) ≡ cond c 1 0 → touched p s m (symbol g) ≡ cond c 1 0
      by_test true e = once_at (touched p s m (symbol g)) (stamp p rise s m (symbol g)) (none_risen s m (symbol g) h) (at_most s m (symbol g) h) e
      by_test false e = let l = at_most s m (symbol g) h in omega (arith, e, l)

  adds_from : (q : State) (k m f : ℕ) (marks : List Mark) → IsSound (after p q k) → list_all (λ x. stamp p rise q k x + marks_added f x == stamp p rise q (k + m) x) marks ≡ true → AddsOne p (after p q k) m f marks
  adds_from q k m f [] sound h = tt
  adds_from q k m f (x ∷ xs) sound h =
      let r = and_parts (stamp p rise q k x + marks_added f x == stamp p rise q (k + m) x) _ h in
      let e = eqb-true (stamp p rise q k x + marks_added f x) (stamp p rise q (k + m) x) r.0 in
      let g = stamp-add q k m x in
      (added_once (after p q k) m f x sound (omega (arith, e, g)), adds_from q k m f xs sound r.1)

  -- where one step alone touches, and i has come, that step is its Activate
  RisesOnce : State → ℕ → ℕ → List Mark → Type 0
  RisesOnce s m f [] = Unit {0}
  RisesOnce s m f (x ∷ xs) = (stamp p rise s m x ≡ marks_added f x) × RisesOnce s m f xs

  once_here : (s : State) (m f : ℕ) (marks : List Mark) → IsSound s → s.next_id < (step p s).next_id → ((g : ℕ) → touches p s (symbol g) ≡ (f == g)) → ((r : ℕ) → touches p s (rule r) ≡ false) → NoneTouched p (step p s) m marks → RisesOnce s (suc m) f marks
  unfolding RisesOnce
  once_here s m f [] sound up h k l = tt
  once_here s m f (symbol g ∷ xs) sound up h k l = (by_test (f == g) (h g), once_here s m f xs sound up h k l.1)
    where
      by_test : (c : Bool) → touches p s (symbol g) ≡ c → rise s (symbol g) + stamp p rise (step p s) m (symbol g) ≡ cond c 1 0
      by_test true is = let one = w.by_one s sound (symbol g) up is in let rest = none_risen (step p s) m (symbol g) (sound_step p s sound) l.0 in omega (arith, one, rest)
      by_test false is = let none = w.stays s sound (symbol g) is in let rest = none_risen (step p s) m (symbol g) (sound_step p s sound) l.0 in omega (arith, none, rest)
  once_here s m f (rule r ∷ xs) sound up h k l = (let none = w.stays s sound (rule r) (k r) in let rest = none_risen (step p s) m (rule r) (sound_step p s sound) l.0 in omega (arith, none, rest), once_here s m f xs sound up h k l.1)

  once_later : (s : State) (m f : ℕ) (marks : List Mark) → IsSound s → list_any (touches p s) marks ≡ false → RisesOnce (step p s) m f marks → RisesOnce s (suc m) f marks
  unfolding RisesOnce
  once_later s m f [] sound h k = tt
  once_later s m f (x ∷ xs) sound h k =
      let r = or_parts (touches p s x) (list_any (touches p s) xs) h in
      let none = w.stays s sound x r.0 in
      (omega (arith, k.0, none), once_later s m f xs sound r.1 k.1)

  once_at_step : (r : ℕ) (hs : List Head) (i : ℕ) (b : Atom) (n : ℕ) (s : State) (t : Bool) (m : ℕ) → list_any (touches p s) (marks_of r hs) ≡ t → touched_any p (step p s) n (marks_of r hs) ≡ m → IsSound s → s.next_id ≡ i → has_symbol hs b.sym ≡ true
      → atom_of (rows (after p (step p s) n)) i ≡ Some b → cond t 1 0 + m ≡ 1
      → ((step p s).next_id ≡ i → touched_any p (step p s) n (marks_of r hs) ≡ 1 → RisesOnce (step p s) n b.sym (marks_of r hs))
      → RisesOnce s (suc n) b.sym (marks_of r hs)
  once_at_step r hs i b n s true m is rest h next k found e go =
      let free : touched_any p (step p s) n (marks_of r hs) ≡ 0 = rest ∙ omega (arith, e) in
      let l = keeps_after p r hs n (step p s) (sound_step p s h) free in
      let here = found_kept (has_symbol hs) i b (step p s) (after p (step p s) n) (sound_step p s h) l.rows_same k found in
      let v = entered p (has_symbol hs) i b s h next k here in
      let up = entered_next p (has_symbol hs) i b s h next k here in
      once_here s n b.sym (marks_of r hs) h (omega (arith, up)) v.touch_symbol v.touch_rule (NoneTouched-from_any p n (step p s) (marks_of r hs) free)
  once_at_step r hs i b n s false m is rest h next k found e go =
      elim (enters_or_stays p s) [
        | inl v ↦ absurd (never_again p (has_symbol hs) i b n s (step p s) h next (keeps_one p r hs s h is).rows_same (omega (arith, next, v.next)) k found)
        | inr v ↦ once_later s n b.sym (marks_of r hs) h is (go (v.next ∙ next) (rest ∙ omega (arith, e)))
      ]

  once_after : (r : ℕ) (hs : List Head) (i : ℕ) (b : Atom) (n : ℕ) (s : State) → IsSound s → s.next_id ≡ i → has_symbol hs b.sym ≡ true → atom_of (rows (after p s n)) i ≡ Some b → touched_any p s n (marks_of r hs) ≡ 1 → RisesOnce s n b.sym (marks_of r hs)
  once_after r hs i b zero s h next k found e = absurd (omega (arith, e))
  once_after r hs i b (suc n) s h next k found e =
      once_at_step r hs i b n s (list_any (touches p s) (marks_of r hs)) (touched_any p (step p s) n (marks_of r hs)) refl refl h next k found e
      (λ next' e'. once_after r hs i b n (step p s) (sound_step p s h) next' k found e')

  risen_from : (q : State) (k m f : ℕ) (marks : List Mark) → RisesOnce (after p q k) m f marks → list_all (λ x. stamp p rise q k x + marks_added f x == stamp p rise q (k + m) x) marks ≡ true
  unfolding RisesOnce
  risen_from q k m f [] h = refl
  risen_from q k m f (x ∷ xs) h =
      let e = stamp-add q k m x in
      and_from (stamp p rise q k x + marks_added f x == stamp p rise q (k + m) x) _ (eq-eqb (stamp p rise q k x + marks_added f x) (stamp p rise q (k + m) x) (omega (arith, e, h.0))) (risen_from q k m f xs h.1)

  pub untouched_is : (q : State) (k m : ℕ) (marks : List Mark) → IsSound (after p q k) → IsTrue (list_all (λ x. stamp p rise q k x == stamp p rise q (k + m) x) marks) ↔ (touched_any p (after p q k) m marks ≡ 0)
  untouched_is q k m marks sound = (λ h. touched_any_none p m (after p q k) marks (none_from q k m marks sound h), λ e. equal_from q k m marks sound (NoneTouched-from_any p m (after p q k) marks e))

  pub activated_is : (q : State) (k m i j : ℕ) (a : Atom) (o : Occurrence) → IsSound q → (after p q k).next_id ≡ i → atom_of (after p q (k + m)).store i ≡ Some a → occurrence p a.sym j ≡ Some o
      → IsTrue (list_all (λ x. stamp p rise q k x + marks_added a.sym x == stamp p rise q (k + m) x) (marks_of o.number o.rule.heads)) ↔ (touched_any p (after p q k) m (marks_of o.number o.rule.heads) ≡ 1)
  activated_is q k m i j a o h next lives is =
      let s = after p q k in
      let marks = marks_of o.number o.rule.heads in
      let has = occurrence_has p a.sym j o is in
      let there = ap (λ (t : State). atom_of (rows t) i) (sym (after-add p q k m)) ∙ atom_resolved (after p q (k + m)).subst (after p q (k + m)).store i a lives in (
        λ c. any_from_counts p m a.sym s o.number o.rule.heads has (adds_from q k m a.sym marks (sound_after p k q h) c),
        λ e. risen_from q k m a.sym marks (once_after o.number o.rule.heads i (resolved_atom (after p q (k + m)).subst a) m s (sound_after p k q h) next has there e),
      )

pub stamps_by_call_law : StampsByCallLaw
stamps_by_call_law = record {
  untouched = λ p rise w r k m marks. untouched_is p rise w (start r) k m marks (sound_after p k (start r) (sound_start r));
  activated = λ p rise w r k m i j a o next lives is. let q = start r in subst (λ (xs : List Mark). IsTrue (list_all (λ x. stamp p rise q k x + marks_added a.sym x == stamp p rise q (k + m) x) xs) ↔ (touched_any p (after p q k) m xs ≡ 1)) (sym (footprint_is p (after p q (k + m)) i j a o lives is)) (activated_is p rise w q k m i j a o (sound_start r) next lives is);
}
