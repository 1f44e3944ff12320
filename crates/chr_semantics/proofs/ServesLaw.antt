-- An answer that serves is the first firing.
use Rattle.std.proofs.Common.{Bool, List, None, Option, Some, [], ap, arith, cond, false, refl, subst, sym, true, true≢false, ℕ, ◌++◌, ◌+◌, ◌==◌, ◌∙◌, ◌∷◌, ◌≡◌}
use Rattle.std.proofs.lemmas.Bool.{and_parts}
use Rattle.std.proofs.lemmas.Bool.Decides.{Decides-eqb}
use Rattle.std.specs.List.{list_all, list_any}
use Rattle.std.specs.Prelude.{option_map}
use Rattle.chr_semantics.specs.Footprint.{Ascends, IsSound, ServesLaw, with_guest}
use Rattle.chr_semantics.specs.Match.{Row}
use Rattle.chr_semantics.specs.Program.{Atom, Occurrence, Program, occurrence}
use Rattle.chr_semantics.specs.Schedule.{same_goal, serves_guest, serves_row}
use Rattle.chr_semantics.specs.Search.{atom_of, first}
use Rattle.chr_semantics.specs.State.{State, resolved_atom, rows, start}
use Rattle.chr_semantics.specs.Step.{after}
use Rattle.chr_semantics.specs.Tasks.{Task, guest}
use Rattle.chr_semantics.specs.Touch.{Mark, touched, touched_any, touches}
use Rattle.chr_semantics.proofs.Counts.{NoneTouched-from_counts, after-add, count-add, touched_any_none}
use Rattle.chr_semantics.proofs.FootprintLaw.{first_same, footprint_is, keeps_after, marks_of}
use Rattle.chr_semantics.proofs.Guest.{atom_pushed, found_kept, guest_after, kept_last, lacks_above}
use Rattle.chr_semantics.proofs.Lookups.{atom_resolved}
use Rattle.chr_semantics.proofs.Occurrences.{has_symbol, occurrence_has}
use Rattle.chr_semantics.proofs.SameLaw.{same_atom_true}
use Rattle.chr_semantics.proofs.Soundness.{sound_after, sound_start}

-- the guest's goal is that of the row
guest_is : (s : State) (g : Option Atom) (b : Atom) → same_goal (option_map (resolved_atom s.subst) g) (Some b) ≡ true → with_guest s g ≡ rows s ++ (s.next_id, b) ∷ []
guest_is s None b h = absurd (true≢false (sym h))
guest_is s (Some a) b h = ap (λ (x : Atom). rows s ++ (s.next_id, x) ∷ []) (same_atom_true (resolved_atom s.subst a) b h)

row_case : (p : Program) (s : State) (m i j : ℕ) (a : Atom) (o : Occurrence) → IsSound s → atom_of (after p s m).store i ≡ Some a → occurrence p a.sym j ≡ Some o → touched_any p s m (marks_of o.number o.rule.heads) ≡ 0
    → first p (rows s) s.history i j ≡ first p (rows (after p s m)) (after p s m).history i j
row_case p s m i j a o h lives is free =
    let k = keeps_after p o.number o.rule.heads m s h free in
    let b = resolved_atom (after p s m).subst a in
    let there = atom_resolved (after p s m).subst (after p s m).store i a lives in
    let here = found_kept (has_symbol o.rule.heads) i b s (after p s m) h k.rows_same (occurrence_has p a.sym j o is) there in
    first_same p (rows s) (rows (after p s m)) s.history (after p s m).history i j b o here there is (sym k.rows_same) (sym k.entries_same)

guest_case : (p : Program) (s : State) (m i j : ℕ) (a : Atom) (o : Occurrence) → IsSound s → s.next_id ≡ i → atom_of (after p s m).store i ≡ Some a → occurrence p a.sym j ≡ Some o → touched_any p s m (marks_of o.number o.rule.heads) ≡ 1
    → first p (rows s ++ (i, resolved_atom (after p s m).subst a) ∷ []) s.history i j ≡ first p (rows (after p s m)) (after p s m).history i j
guest_case p s m i j a o h next lives is one =
    let b = resolved_atom (after p s m).subst a in
    let has = occurrence_has p a.sym j o is in
    let there = atom_resolved (after p s m).subst (after p s m).store i a lives in
    let k = guest_after p o.number o.rule.heads i b m s h next has there one in
    let here = atom_pushed i s.subst b s.store (lacks_above (λ f. true) 0 i s.store (subst (λ (x : ℕ). Ascends 0 s.store x) next h.ascends)) in
    first_same p (rows s ++ (i, b) ∷ []) (rows (after p s m)) s.history (after p s m).history i j b o here there is
    (kept_last (has_symbol o.rule.heads) i b (rows s) has ∙ sym k.rows_more) (sym k.entries_same)

serves_at : (b : Bool) (p : Program) (q : State) (k m : ℕ) (u : Task) (a : Atom) (o : Occurrence) → (u.0 == (after p q k).next_id) ≡ b → IsSound q → atom_of (after p q (k + m)).store u.0 ≡ Some a → occurrence p a.sym u.1 ≡ Some o
    → cond b (serves_guest p q k (k + m) u) (serves_row p q k (k + m) u) ≡ true
    → first p (cond b (with_guest (after p q k) (guest (after p q k))) (rows (after p q k))) (after p q k).history u.0 u.1 ≡ first p (rows (after p q (k + m))) (after p q (k + m)).history u.0 u.1
serves_at true p q k m u a o is h lives has e =
    let s = after p q k in
    let parts : after p q (k + m) ≡ after p s m = after-add p q k m in
    let marks = marks_of o.number o.rule.heads in
    let next : u.0 ≡ s.next_id = (Decides-eqb u.0 s.next_id).0 is in
    let both = and_parts (same_goal (option_map (resolved_atom s.subst) (guest s)) (atom_of (rows (after p q (k + m))) u.0)) _ e in
    let there = atom_resolved (after p q (k + m)).subst (after p q (k + m)).store u.0 a lives in
    let same = subst (λ (g : Option Atom). same_goal (option_map (resolved_atom s.subst) (guest s)) g ≡ true) there both.0 in
    let counts = subst (λ (xs : List Mark). (touched_any p q k xs + 1 == touched_any p q (k + m) xs) ≡ true) (footprint_is p (after p q (k + m)) u.0 u.1 a o lives has) both.1 in
    let equal : touched_any p q k marks + 1 ≡ touched_any p q (k + m) marks = (Decides-eqb (touched_any p q k marks + 1) (touched_any p q (k + m) marks)).0 counts in
    let sum : touched_any p q (k + m) marks ≡ touched_any p q k marks + touched_any p s m marks = count-add p (λ t. list_any (touches p t) marks) q k m in
    let one : touched_any p s m marks ≡ 1 = omega (arith, equal, sum) in
    let w = guest_case p s m u.0 u.1 a o (sound_after p k q h) (sym next) (ap (λ (t : State). atom_of t.store u.0) (sym parts) ∙ lives) has one in
    let v = subst (λ (t : State). first p (rows s ++ (u.0, resolved_atom t.subst a) ∷ []) s.history u.0 u.1 ≡ first p (rows t) t.history u.0 u.1) (sym parts) w in
    let shown = guest_is s (guest s) (resolved_atom (after p q (k + m)).subst a) same in
    ap (λ (x : List Row). first p x s.history u.0 u.1) (shown ∙ ap (λ (x : ℕ). rows s ++ (x, resolved_atom (after p q (k + m)).subst a) ∷ []) (sym next)) ∙ v
serves_at false p q k m u a o is h lives has e =
    let s = after p q k in
    let parts : after p q (k + m) ≡ after p s m = after-add p q k m in
    let marks = marks_of o.number o.rule.heads in
    let counts = subst (λ (xs : List Mark). list_all (λ x. touched p q k x == touched p q (k + m) x) xs ≡ true) (footprint_is p (after p q (k + m)) u.0 u.1 a o lives has) e in
    let free = touched_any_none p m s marks (NoneTouched-from_counts p q k m marks counts) in
    let w = row_case p s m u.0 u.1 a o (sound_after p k q h) (ap (λ (t : State). atom_of t.store u.0) (sym parts) ∙ lives) has free in
    subst (λ (t : State). first p (rows s) s.history u.0 u.1 ≡ first p (rows t) t.history u.0 u.1) (sym parts) w

pub serves_law : ServesLaw
serves_law p r k m t a o lives is e = let q = start r in serves_at (t.0 == (after p q k).next_id) p q k m t a o refl (sound_start r) lives is e
