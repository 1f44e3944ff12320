-- Counts of touches, mark by mark, as the stamps of a run keep them.
use Rattle.std.proofs.Common.{subst, Bool, List, Some, [], ap, arith, cond, false, inl, inr, map, refl, suc, sym, true, true≢false, zero, ℕ, ◌+◌, ◌==◌, ◌||◌, ◌∙◌, ◌∷◌, ◌≡◌}
use Rattle.std.proofs.lemmas.Bool.{and_from, and_parts, eq-eqb, eqb-true, or_parts}
use Rattle.std.proofs.lemmas.Bool.Decides.{Decides-eqb}
use Rattle.std.specs.Prelude.{IsTrue, ◌↔◌}
use Rattle.std.specs.List.{list_any, list_all}
use Rattle.chr_semantics.specs.Footprint.{marks_added, StampsLaw, IsSound}
use Rattle.chr_semantics.specs.Program.{Occurrence, occurrence, Atom, Head, Program}
use Rattle.chr_semantics.specs.Search.{atom_of}
use Rattle.chr_semantics.specs.State.{resolved_atom, State, rows, start}
use Rattle.chr_semantics.specs.Step.{after, step}
use Rattle.chr_semantics.specs.Touch.{rule, Mark, symbol, touched, touched_any, touches}
use Rattle.chr_semantics.proofs.Counts.{after-add, NoneTouched-from_counts, NoneTouched, count-add, count_none, touched_any_none}
use Rattle.chr_semantics.proofs.FootprintLaw.{footprint_is, keeps_after, keeps_one, marks_of}
use Rattle.chr_semantics.proofs.Guest.{enters_or_stays, entered, found_kept, never_again}
use Rattle.chr_semantics.proofs.Occurrences.{occurrence_has, has_symbol}
use Rattle.chr_semantics.proofs.Soundness.{sound_after, sound_start, sound_step}
use Rattle.chr_semantics.proofs.Lookups.{atom_resolved}

-- one step more: what a stamp does
pub touched_more : (p : Program) (q : State) (n : ℕ) (x : Mark) → touched p q (n + 1) x ≡ touched p q n x + cond (touches p (after p q n) x) 1 0
touched_more p q n x = count-add p (λ t. touches p t x) q n 1 ∙ omega arith

-- each count has risen by what an Activate of the symbol f adds
abbrev pub AddsOne : Program → State → ℕ → ℕ → List Mark → Type 0
AddsOne p s m f [] = Unit {0}
AddsOne p s m f (x ∷ xs) = (touched p s m x ≡ marks_added f x) × AddsOne p s m f xs

none_each : (p : Program) (s : State) (m : ℕ) (marks : List Mark) → list_any (touches p s) marks ≡ false → NoneTouched p (step p s) m marks → NoneTouched p s (suc m) marks
none_each p s m [] h k = tt
none_each p s m (x ∷ xs) h k = let r = or_parts (touches p s x) (list_any (touches p s) xs) h in (rw r.0 (omega (arith, k.0)), none_each p s m xs r.1 k.1)

none_zero : (p : Program) (s : State) (marks : List Mark) → NoneTouched p s zero marks
none_zero p s [] = tt
none_zero p s (x ∷ xs) = (refl, none_zero p s xs)

-- no step touches any: each count is 0
pub NoneTouched-from_any : (p : Program) (m : ℕ) (s : State) (marks : List Mark) → touched_any p s m marks ≡ 0 → NoneTouched p s m marks
NoneTouched-from_any p zero s marks h = none_zero p s marks
NoneTouched-from_any p (suc m) s marks h =
    let w = count_none (list_any (touches p s) marks) (touched_any p (step p s) m marks) h in
    none_each p s m marks w.0 (NoneTouched-from_any p m (step p s) marks w.1)

counts_here : (p : Program) (s : State) (m f : ℕ) (marks : List Mark) → ((g : ℕ) → touches p s (symbol g) ≡ (f == g)) → ((r : ℕ) → touches p s (rule r) ≡ false) → NoneTouched p (step p s) m marks → AddsOne p s (suc m) f marks
counts_here p s m f [] h k l = tt
counts_here p s m f (symbol g ∷ xs) h k l = (rw (h g) (omega (arith, l.0)), counts_here p s m f xs h k l.1)
counts_here p s m f (rule r ∷ xs) h k l = (rw (k r) (omega (arith, l.0)), counts_here p s m f xs h k l.1)

counts_later : (p : Program) (s : State) (m f : ℕ) (marks : List Mark) → list_any (touches p s) marks ≡ false → AddsOne p (step p s) m f marks → AddsOne p s (suc m) f marks
counts_later p s m f [] h k = tt
counts_later p s m f (x ∷ xs) h k = let r = or_parts (touches p s x) (list_any (touches p s) xs) h in (rw r.0 (omega (arith, k.0)), counts_later p s m f xs r.1 k.1)

counts_at : (p : Program) (r : ℕ) (hs : List Head) (i : ℕ) (b : Atom) (n : ℕ) (s : State) (t : Bool) (m : ℕ) → list_any (touches p s) (marks_of r hs) ≡ t → touched_any p (step p s) n (marks_of r hs) ≡ m → IsSound s → s.next_id ≡ i → has_symbol hs b.sym ≡ true
    → atom_of (rows (after p (step p s) n)) i ≡ Some b → cond t 1 0 + m ≡ 1
    → ((step p s).next_id ≡ i → touched_any p (step p s) n (marks_of r hs) ≡ 1 → AddsOne p (step p s) n b.sym (marks_of r hs))
    → AddsOne p s (suc n) b.sym (marks_of r hs)
counts_at p r hs i b n s true m is rest h next k found e go =
    let free : touched_any p (step p s) n (marks_of r hs) ≡ 0 = rest ∙ omega (arith, e) in
    let l = keeps_after p r hs n (step p s) (sound_step p s h) free in
    let w = entered p (has_symbol hs) i b s h next k (found_kept (has_symbol hs) i b (step p s) (after p (step p s) n) (sound_step p s h) l.rows_same k found) in
    counts_here p s n b.sym (marks_of r hs) w.touch_symbol w.touch_rule (NoneTouched-from_any p n (step p s) (marks_of r hs) free)
counts_at p r hs i b n s false m is rest h next k found e go =
    elim (enters_or_stays p s) [
      | inl w ↦ absurd (never_again p (has_symbol hs) i b n s (step p s) h next (keeps_one p r hs s h is).rows_same (omega (arith, next, w.next)) k found)
      | inr w ↦ counts_later p s n b.sym (marks_of r hs) is (go (w.next ∙ next) (rest ∙ omega (arith, e)))
    ]

-- where one step alone touches, and i has come: the stamp of its symbol rose by one, and no other
pub guest_counts : (p : Program) (r : ℕ) (hs : List Head) (i : ℕ) (b : Atom) (n : ℕ) (s : State) → IsSound s → s.next_id ≡ i → has_symbol hs b.sym ≡ true → atom_of (rows (after p s n)) i ≡ Some b → touched_any p s n (marks_of r hs) ≡ 1 → AddsOne p s n b.sym (marks_of r hs)
guest_counts p r hs i b zero s h next k found e = absurd (omega (arith, e))
guest_counts p r hs i b (suc n) s h next k found e =
    counts_at p r hs i b n s (list_any (touches p s) (marks_of r hs)) (touched_any p (step p s) n (marks_of r hs)) refl refl h next k found e
    (λ next' e'. guest_counts p r hs i b n (step p s) (sound_step p s h) next' k found e')

-- the converse
added_at : (t : Bool) (f : ℕ) (x : Mark) (m : ℕ) → cond t 1 0 + m ≡ marks_added f x → (t ≡ true → x ≡ symbol f)
added_at true f (rule r) m e is = absurd (omega (arith, e))
added_at true f (symbol g) m e is = by_test (f == g) refl e
  where
    by_test : (c : Bool) → (f == g) ≡ c → 1 + m ≡ cond c 1 0 → symbol g ≡ symbol f
    by_test true c e = ap symbol (sym ((Decides-eqb f g).0 c))
    by_test false c e = absurd (omega (arith, e))
added_at false f x m e is = absurd (true≢false (sym is))

touched_at : (t : Bool) (p : Program) (s : State) (f : ℕ) (x : Mark) (others : Bool) → touches p s x ≡ t → (t ≡ true → x ≡ symbol f) → (others ≡ true → touches p s (symbol f) ≡ true) → (t || others) ≡ true → touches p s (symbol f) ≡ true
touched_at true p s f x others is same k e = sym (ap (touches p s) (same refl)) ∙ is
touched_at false p s f x others is same k e = k e

one_touched : (p : Program) (s : State) (m f : ℕ) (marks : List Mark) → AddsOne p s (suc m) f marks → list_any (touches p s) marks ≡ true → touches p s (symbol f) ≡ true
one_touched p s m f [] h e = absurd (true≢false (sym e))
one_touched p s m f (x ∷ xs) h e = touched_at (touches p s x) p s f x (list_any (touches p s) xs) refl (added_at (touches p s x) f x (touched p (step p s) m x) h.0) (one_touched p s m f xs h.1) e

rest_none : (p : Program) (s : State) (m f : ℕ) (marks : List Mark) → touches p s (symbol f) ≡ true → AddsOne p s (suc m) f marks → NoneTouched p (step p s) m marks
rest_none p s m f [] t h = tt
rest_none p s m f (rule r ∷ xs) t h = let e : cond (touches p s (rule r)) 1 0 + touched p (step p s) m (rule r) ≡ 0 = h.0 in (omega (arith, e), rest_none p s m f xs t h.1)
rest_none p s m f (symbol g ∷ xs) t h = (by_test (f == g) refl h.0, rest_none p s m f xs t h.1)
  where
    by_test : (c : Bool) → (f == g) ≡ c → cond (touches p s (symbol g)) 1 0 + touched p (step p s) m (symbol g) ≡ cond c 1 0 → touched p (step p s) m (symbol g) ≡ 0
    by_test true c e =
        let u : touches p s (symbol g) ≡ true = sym (ap (λ (y : ℕ). touches p s (symbol y)) ((Decides-eqb f g).0 c)) ∙ t in
        let v : 1 + touched p (step p s) m (symbol g) ≡ 1 = rw u at e in
        omega (arith, v)
    by_test false c e = omega (arith, e)

counts_skip : (p : Program) (s : State) (m f : ℕ) (marks : List Mark) → list_any (touches p s) marks ≡ false → AddsOne p s (suc m) f marks → AddsOne p (step p s) m f marks
counts_skip p s m f [] h k = tt
counts_skip p s m f (x ∷ xs) h k =
    let r = or_parts (touches p s x) (list_any (touches p s) xs) h in
    let e : 0 + touched p (step p s) m x ≡ marks_added f x = rw r.0 at k.0 in
    (omega (arith, e), counts_skip p s m f xs r.1 k.1)

any_at : (t : Bool) (p : Program) (s : State) (m f : ℕ) (marks : List Mark) → list_any (touches p s) marks ≡ t → AddsOne p s (suc m) f marks → (AddsOne p (step p s) m f marks → touched_any p (step p s) m marks ≡ 1) → cond t 1 0 + touched_any p (step p s) m marks ≡ 1
any_at true p s m f marks is h go = let e : touched_any p (step p s) m marks ≡ 0 = touched_any_none p m (step p s) marks (rest_none p s m f marks (one_touched p s m f marks h is) h) in omega (arith, e)
any_at false p s m f marks is h go = let e : touched_any p (step p s) m marks ≡ 1 = go (counts_skip p s m f marks is h) in omega (arith, e)

not_zero_at : (c d : Bool) (f g : ℕ) (others : Bool) → (g == f) ≡ c → (f == g) ≡ d → (c || others) ≡ true → zero ≡ cond d 1 0 → (others ≡ true → ⊥) → ⊥
not_zero_at true true f g others is er e k h = absurd (omega (arith, k))
not_zero_at true false f g others is er e k h = true≢false (sym ((Decides-eqb f g).1 (sym ((Decides-eqb g f).0 is))) ∙ er)
not_zero_at false d f g others is er e k h = h e

not_zero : (p : Program) (s : State) (f : ℕ) (hs : List Head) → has_symbol hs f ≡ true → AddsOne p s zero f (map (λ (h : Head). symbol h.atom.sym) hs) → ⊥
not_zero p s f [] h k = true≢false (sym h)
not_zero p s f (x ∷ hs) h k = not_zero_at (x.atom.sym == f) (f == x.atom.sym) f x.atom.sym (has_symbol hs f) refl refl h k.0 (λ e. not_zero p s f hs e k.1)

-- where the count of one symbol of the heads alone rose, and by one, one step alone touches
pub any_from_counts : (p : Program) (m f : ℕ) (s : State) (r : ℕ) (hs : List Head) → has_symbol hs f ≡ true → AddsOne p s m f (marks_of r hs) → touched_any p s m (marks_of r hs) ≡ 1
any_from_counts p zero f s r hs has h = absurd (not_zero p s f hs has h.1)
any_from_counts p (suc m) f s r hs has h = any_at (list_any (touches p s) (marks_of r hs)) p s m f (marks_of r hs) refl h (any_from_counts p m f (step p s) r hs has)

-- the counts of a run in two parts
same_counts : (p : Program) (q : State) (k m : ℕ) (marks : List Mark) → NoneTouched p (after p q k) m marks → list_all (λ x. touched p q k x == touched p q (k + m) x) marks ≡ true
same_counts p q k m [] h = refl
same_counts p q k m (x ∷ xs) h =
    let f : touched p q (k + m) x ≡ touched p q k x + touched p (after p q k) m x = count-add p (λ t. touches p t x) q k m in
    let none : touched p (after p q k) m x ≡ 0 = h.0 in
    and_from (touched p q k x == touched p q (k + m) x) _ (eq-eqb (touched p q k x) (touched p q (k + m) x) (omega (arith, f, none))) (same_counts p q k m xs h.1)

risen_counts : (p : Program) (q : State) (k m f : ℕ) (marks : List Mark) → AddsOne p (after p q k) m f marks → list_all (λ x. touched p q k x + marks_added f x == touched p q (k + m) x) marks ≡ true
risen_counts p q k m f [] h = refl
risen_counts p q k m f (x ∷ xs) h =
    let e : touched p q (k + m) x ≡ touched p q k x + touched p (after p q k) m x = count-add p (λ t. touches p t x) q k m in
    let rise : touched p (after p q k) m x ≡ marks_added f x = h.0 in
    and_from (touched p q k x + marks_added f x == touched p q (k + m) x) _ (eq-eqb (touched p q k x + marks_added f x) (touched p q (k + m) x) (omega (arith, e, rise))) (risen_counts p q k m f xs h.1)

AddsOne-from_counts : (p : Program) (q : State) (k m f : ℕ) (marks : List Mark) → list_all (λ x. touched p q k x + marks_added f x == touched p q (k + m) x) marks ≡ true → AddsOne p (after p q k) m f marks
AddsOne-from_counts p q k m f [] h = tt
AddsOne-from_counts p q k m f (x ∷ xs) h =
    let r = and_parts (touched p q k x + marks_added f x == touched p q (k + m) x) _ h in
    let e : touched p q (k + m) x ≡ touched p q k x + touched p (after p q k) m x = count-add p (λ t. touches p t x) q k m in
    let rise : touched p q k x + marks_added f x ≡ touched p q (k + m) x = eqb-true (touched p q k x + marks_added f x) (touched p q (k + m) x) r.0 in
    (omega (arith, e, rise), AddsOne-from_counts p q k m f xs r.1)

untouched_is : (p : Program) (q : State) (k m : ℕ) (marks : List Mark) → IsTrue (list_all (λ x. touched p q k x == touched p q (k + m) x) marks) ↔ (touched_any p (after p q k) m marks ≡ 0)
untouched_is p q k m marks =
    (λ h. touched_any_none p m (after p q k) marks (NoneTouched-from_counts p q k m marks h), λ e. same_counts p q k m marks (NoneTouched-from_any p m (after p q k) marks e))

activated_is : (p : Program) (q : State) (k m i j : ℕ) (a : Atom) (o : Occurrence) → IsSound q → (after p q k).next_id ≡ i → atom_of (after p q (k + m)).store i ≡ Some a → occurrence p a.sym j ≡ Some o
    → IsTrue (list_all (λ x. touched p q k x + marks_added a.sym x == touched p q (k + m) x) (marks_of o.number o.rule.heads)) ↔ (touched_any p (after p q k) m (marks_of o.number o.rule.heads) ≡ 1)
activated_is p q k m i j a o h next lives is =
    let s = after p q k in
    let marks = marks_of o.number o.rule.heads in
    let has = occurrence_has p a.sym j o is in
    let there = ap (λ (t : State). atom_of (rows t) i) (sym (after-add p q k m)) ∙ atom_resolved (after p q (k + m)).subst (after p q (k + m)).store i a lives in (
      λ c. any_from_counts p m a.sym s o.number o.rule.heads has (AddsOne-from_counts p q k m a.sym marks c),
      λ e. risen_counts p q k m a.sym marks (guest_counts p o.number o.rule.heads i (resolved_atom (after p q (k + m)).subst a) m s (sound_after p k q h) next has there e),
    )

pub stamps_law : StampsLaw
stamps_law = record {
  grows = touched_more;
  untouched = untouched_is;
  activated = λ p r k m i j a o next lives is. let q = start r in subst (λ (xs : List Mark). IsTrue (list_all (λ x. touched p q k x + marks_added a.sym x == touched p q (k + m) x) xs) ↔ (touched_any p (after p q k) m xs ≡ 1)) (sym (footprint_is p (after p q (k + m)) i j a o lives is)) (activated_is p q k m i j a o (sound_start r) next lives is);
}
