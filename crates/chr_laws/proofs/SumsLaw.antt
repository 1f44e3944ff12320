-- Whether an answer serves is told by the stamps of its task's footprint, added up.
use Rattle.std.proofs.Common.{Bool, List, None, Option, Some, ap, arith, cond, false, refl, subst, sym, true, ℕ, ◌&&◌, ◌||◌, ◌<◌, ◌+◌, ◌==◌, ◌∙◌, ◌≡◌}
use Rattle.std.proofs.lemmas.Bool.{eq-eqb, eqb-true}
use Rattle.std.specs.List.{list_all, list_any}
use Rattle.std.specs.Prelude.{◌↔◌, IsTrue, is_some, option_map}
use Rattle.chr_semantics.specs.Footprint.{IsSound, marks_added}
use Rattle.chr_semantics.specs.Program.{Atom, Occurrence, Program, Query, occurrence}
use Rattle.chr_semantics.specs.Schedule.{same_goal, serves_guest, serves_row}
use Rattle.chr_semantics.specs.Search.{atom_of}
use Rattle.chr_semantics.specs.Stamps.{IsRise, Rise, stamp}
use Rattle.chr_semantics.specs.State.{State, resolved_atom, start}
use Rattle.chr_semantics.specs.Step.{after}
use Rattle.chr_semantics.specs.Tasks.{Task, guest, lives}
use Rattle.chr_semantics.specs.Touch.{Mark, footprint, footprint_at, footprint_of, touched, touched_any, touches}
use Rattle.chr_semantics.proofs.Counts.{after-add, count-add}
use Rattle.chr_semantics.proofs.FootprintLaw.{footprint_is}
use Rattle.chr_semantics.proofs.Lookups.{atom_resolved}
use Rattle.chr_semantics.proofs.SameLaw.{same_atom_true}
use Rattle.chr_semantics.proofs.Soundness.{sound_after, sound_start}
use Rattle.chr_semantics.proofs.StampsByCallLaw.{stamps_by_call_law}
use Rattle.chr_semantics.proofs.StampsLaw.{stamps_law}
use Rattle.chr_laws.specs.Sums.{SumsLaw, guest_goal, marks_at, sum_of}
use Rattle.chr_laws.proofs.Identities.{back_after}
use Rattle.chr_laws.proofs.Living.{living_law}
use Rattle.chr_laws.proofs.Newest.{first, second}
use Rattle.chr_laws.proofs.Risen.{below_next, none_behind, none_behind_added}
use Rattle.chr_laws.proofs.Sums.{each_equal, sum_both, sums_equal}
use Rattle.chr_semantics.proofs.Plain.{bools_agree}

-- a task of a stored constraint
stored : (p : Program) (s : State) (t : Task) → IsSound s → (lives s t.0 || t.0 == s.next_id) ≡ true → (t.0 == s.next_id) ≡ false → t.0 < s.next_id
stored p s t h e not_next = at (atom_of s.store t.0) refl (left _ _ e not_next)
  where
    left : (b c : Bool) → (b || c) ≡ true → c ≡ false → b ≡ true
    left true c k n = refl
    left false c k n = cc

    at : (x : Option Atom) → atom_of s.store t.0 ≡ x → is_some x ≡ true → t.0 < s.next_id
    at None is k = cc
    at (Some b) is k = below_next 0 s.next_id t.0 s.store b h.ascends is

-- no stamp of the footprint has risen exactly where the sums are equal
pub untouched_sums : (p : Program) (rise : Rise) → IsRise p rise → (r : Query) (k m : ℕ) (xs : List Mark) → list_all (λ x. touched p (start r) k x == touched p (start r) (k + m) x) xs ≡ (sum_of (stamp p rise (start r) k) xs == sum_of (stamp p rise (start r) (k + m)) xs)
untouched_sums p rise w r k m xs =
    let f = stamp p rise (start r) k in
    let g = stamp p rise (start r) (k + m) in
    bools_agree _ _
    (λ e. eq-eqb (sum_of f xs) (sum_of g xs) (sums_equal f g xs ((stamps_by_call_law.untouched p rise w r k m xs).1 ((stamps_law.untouched p (start r) k m xs).0 e))))
    (λ e. (stamps_law.untouched p (start r) k m xs).1 ((stamps_by_call_law.untouched p rise w r k m xs).0
    (each_equal f g xs (none_behind p rise (start r) k m) (eqb-true (sum_of f xs) (sum_of g xs) e))))

-- the marks of a guest's task are those of the same goal later
pub guest_marks : (p : Program) (s : State) (t : Task) (b : Atom) (o : Occurrence) (g : Option Atom) → guest s ≡ g → (t.0 == s.next_id) ≡ true → occurrence p b.sym t.1 ≡ Some o
    → same_goal (option_map (resolved_atom s.subst) g) (Some b) ≡ true → marks_at p s t ≡ footprint_of (Some o)
guest_marks p s t b o None e next is h = cc
guest_marks p s t b o (Some c) e next is h =
    let syms : c.sym ≡ b.sym = ap (λ (d : Atom). d.sym) (same_atom_true (resolved_atom s.subst c) b h) in
    ap (λ (x : Bool). footprint_at p t.1 (cond x (guest s) (atom_of s.store t.0))) next
    ∙ ap (footprint_at p t.1) e ∙ ap (λ (f : ℕ). footprint_of (occurrence p f t.1)) syms ∙ ap footprint_of is

module _ (p : Program) (rise : Rise) (w : IsRise p rise) (r : Query) (k m : ℕ) (t : Task) (a : Atom) (o : Occurrence)
    (lives_then : atom_of (after p (start r) (k + m)).store t.0 ≡ Some a) (is : occurrence p a.sym t.1 ≡ Some o) where
  sound : IsSound (after p (start r) k)
  sound = sound_after p k (start r) (sound_start r)

  now_footprint : footprint p (after p (start r) (k + m)) t.0 t.1 ≡ footprint_of (Some o)
  now_footprint = footprint_is p (after p (start r) (k + m)) t.0 t.1 a o lives_then is

  lives_after : atom_of (after p (after p (start r) k) m).store t.0 ≡ Some a
  lives_after = ap (λ (u : State). atom_of u.store t.0) (sym (after-add p (start r) k m)) ∙ lives_then

  row_marks : t.0 < (after p (start r) k).next_id → (t.0 == (after p (start r) k).next_id) ≡ false → marks_at p (after p (start r) k) t ≡ footprint_of (Some o)
  row_marks below not_next =
      let there = back_after p m (after p (start r) k) sound t.0 a below lives_after in
      ap (λ (b : Bool). footprint_at p t.1 (cond b (guest (after p (start r) k)) (atom_of (after p (start r) k).store t.0))) not_next
      ∙ ap (footprint_at p t.1) there ∙ ap footprint_of is

  pub row_serves : (lives (after p (start r) k) t.0 || t.0 == (after p (start r) k).next_id) ≡ true → (t.0 == (after p (start r) k).next_id) ≡ false
      → cond (t.0 == (after p (start r) k).next_id) (serves_guest p (start r) k (k + m) t) (serves_row p (start r) k (k + m) t)
      ≡ (sum_of (stamp p rise (start r) k) (marks_at p (after p (start r) k) t) == sum_of (stamp p rise (start r) (k + m)) (footprint_of (Some o)))
  row_serves is_task not_next =
      let below = stored p (after p (start r) k) t sound is_task not_next in
      second _ (serves_guest p (start r) k (k + m) t) (serves_row p (start r) k (k + m) t) not_next
      ∙ ap (list_all (λ x. touched p (start r) k x == touched p (start r) (k + m) x)) now_footprint
      ∙ untouched_sums p rise w r k m (footprint_of (Some o))
      ∙ ap (λ (xs : List Mark). sum_of (stamp p rise (start r) k) xs == sum_of (stamp p rise (start r) (k + m)) (footprint_of (Some o))) (sym (row_marks below not_next))

  -- one transition alone has touched the footprint exactly where the sum has risen by what an Activate adds
  once_sums : (t.0 == (after p (start r) k).next_id) ≡ true
      → (touched_any p (start r) k (footprint_of (Some o)) + 1 == touched_any p (start r) (k + m) (footprint_of (Some o)))
      ≡ (sum_of (stamp p rise (start r) k) (footprint_of (Some o)) + sum_of (marks_added a.sym) (footprint_of (Some o)) == sum_of (stamp p rise (start r) (k + m)) (footprint_of (Some o)))
  once_sums next =
      let before = touched_any p (start r) k (footprint_of (Some o)) in
      let behind = touched_any p (start r) (k + m) (footprint_of (Some o)) in
      let f = stamp p rise (start r) k in
      let g = stamp p rise (start r) (k + m) in
      let e : t.0 ≡ (after p (start r) k).next_id = eqb-true t.0 (after p (start r) k).next_id next in
      let law = subst (λ (xs : List Mark). IsTrue (list_all (λ x. f x + marks_added a.sym x == g x) xs) ↔ (touched_any p (after p (start r) k) m xs ≡ 1)) now_footprint
      (stamps_by_call_law.activated p rise w r k m t.0 t.1 a o (sym e) lives_then is) in
      let parts : behind ≡ before + touched_any p (after p (start r) k) m (footprint_of (Some o)) = count-add p (λ u. list_any (touches p u) (footprint_of (Some o))) (start r) k m in
      let both = sum_both f (marks_added a.sym) (footprint_of (Some o)) in
      let there = subst (λ (i : ℕ). atom_of (after p (after p (start r) k) m).store i ≡ Some a) e lives_after in
      bools_agree _ _
      (λ c. let one = eqb-true (before + 1) behind c in
      eq-eqb (sum_of f (footprint_of (Some o)) + sum_of (marks_added a.sym) (footprint_of (Some o))) (sum_of g (footprint_of (Some o)))
      (sym both ∙ sums_equal (λ x. f x + marks_added a.sym x) g (footprint_of (Some o)) (law.1 (omega (arith, one, parts)))))
      (λ c. let same = eqb-true (sum_of f (footprint_of (Some o)) + sum_of (marks_added a.sym) (footprint_of (Some o))) (sum_of g (footprint_of (Some o))) c in
      let one = law.0 (each_equal (λ x. f x + marks_added a.sym x) g (footprint_of (Some o)) (none_behind_added p rise w (start r) k m a sound there) (both ∙ same)) in
      eq-eqb (before + 1) behind (omega (arith, one, parts)))

  with_goal : (b : Bool) → (t.0 == (after p (start r) k).next_id) ≡ true
      → same_goal (guest_goal (after p (start r) k)) (Some (resolved_atom (after p (start r) (k + m)).subst a)) ≡ b
      → (b && touched_any p (start r) k (footprint_of (Some o)) + 1 == touched_any p (start r) (k + m) (footprint_of (Some o)))
      ≡ (b && sum_of (stamp p rise (start r) k) (marks_at p (after p (start r) k) t) + sum_of (marks_added a.sym) (footprint_of (Some o)) == sum_of (stamp p rise (start r) (k + m)) (footprint_of (Some o)))
  with_goal false next h = refl
  with_goal true next h =
      once_sums next
      ∙ ap (λ (xs : List Mark). sum_of (stamp p rise (start r) k) xs + sum_of (marks_added a.sym) (footprint_of (Some o)) == sum_of (stamp p rise (start r) (k + m)) (footprint_of (Some o)))
      (sym (guest_marks p (after p (start r) k) t (resolved_atom (after p (start r) (k + m)).subst a) o (guest (after p (start r) k)) refl next is h))

  pub guest_serves : (t.0 == (after p (start r) k).next_id) ≡ true
      → cond (t.0 == (after p (start r) k).next_id) (serves_guest p (start r) k (k + m) t) (serves_row p (start r) k (k + m) t)
      ≡ (same_goal (guest_goal (after p (start r) k)) (Some (resolved_atom (after p (start r) (k + m)).subst a))
      && sum_of (stamp p rise (start r) k) (marks_at p (after p (start r) k) t) + sum_of (marks_added a.sym) (footprint_of (Some o)) == sum_of (stamp p rise (start r) (k + m)) (footprint_of (Some o)))
  guest_serves next =
      let there = atom_resolved (after p (start r) (k + m)).subst (after p (start r) (k + m)).store t.0 a lives_then in
      first _ (serves_guest p (start r) k (k + m) t) (serves_row p (start r) k (k + m) t) next
      ∙ ap (λ (b : Option Atom). same_goal (guest_goal (after p (start r) k)) b && touched_any p (start r) k (footprint p (after p (start r) (k + m)) t.0 t.1) + 1 == touched_any p (start r) (k + m) (footprint p (after p (start r) (k + m)) t.0 t.1)) there
      ∙ ap (λ (xs : List Mark). same_goal (guest_goal (after p (start r) k)) (Some (resolved_atom (after p (start r) (k + m)).subst a)) && touched_any p (start r) k xs + 1 == touched_any p (start r) (k + m) xs) now_footprint
      ∙ with_goal _ next refl

pub sums_law : SumsLaw
sums_law = record {
  of_rows = λ p rise w r k m x t a o task not_next lives_then is. row_serves p rise w r k m t a o lives_then is (living_law p (after p (start r) k) x t task) not_next;
  of_guests = λ p rise w r k m t a o next lives_then is. guest_serves p rise w r k m t a o lives_then is next;
}
