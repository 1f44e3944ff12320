-- The footprint law.
use Rattle.std.proofs.Common.{Bool, List, Option, Some, ap, false, map, refl, suc, sym, zero, ℕ, ◌∙◌, ◌∷◌, ◌≡◌}
use Rattle.std.proofs.lemmas.Bool.{or_parts}
use Rattle.std.specs.List.{list_any}
use Rattle.std.specs.Prelude.{filter}
use Rattle.chr_semantics.specs.Footprint.{FootprintLaw, IsSound}
use Rattle.chr_semantics.specs.Match.{Row}
use Rattle.chr_semantics.specs.Program.{Atom, Head, Occurrence, Program, occurrence}
use Rattle.chr_semantics.specs.Search.{History, atom_of, first, found_with, ids_found, rule_entries}
use Rattle.chr_semantics.specs.State.{State, resolved_atom, rows, start}
use Rattle.chr_semantics.specs.Step.{after, step}
use Rattle.chr_semantics.specs.Touch.{rule, Mark, footprint, footprint_at, footprint_of, symbol, touched_any, touches}
use Rattle.chr_semantics.proofs.Counts.{count_none}
use Rattle.chr_semantics.proofs.FirstTuple.{first_is, first_tuple_same}
use Rattle.chr_semantics.proofs.KeptEntries.{entries_step}
use Rattle.chr_semantics.proofs.KeptRows.{kept_rows, kept_step, spares_heads}
use Rattle.chr_semantics.proofs.Lookups.{atom_of_part, Ascends-resolved, atom_kept, atom_resolved, of_kept}
use Rattle.chr_semantics.proofs.Occurrences.{has_symbol, heads_kept, occurrence_has}
use Rattle.chr_semantics.proofs.Soundness.{sound_after, sound_start, sound_step}

-- what n steps leave that touch no mark of the rule and these heads
pub record Keeps (keep : ℕ → Bool) (r : ℕ) (s t : State) : Type 0 where
  pub rows_same : kept_rows keep t ≡ kept_rows keep s
  pub entries_same : rule_entries r t.history ≡ rule_entries r s.history
  pub sound : IsSound t

-- the footprint of a rule with its number
abbrev pub marks_of : ℕ → List Head → List Mark
marks_of r hs = rule r ∷ map (λ (h : Head). symbol h.atom.sym) hs

-- one step
pub keeps_one : (p : Program) (r : ℕ) (hs : List Head) (s : State) → IsSound s → list_any (touches p s) (marks_of r hs) ≡ false → Keeps (has_symbol hs) r s (step p s)
keeps_one p r hs s h e =
    let w = or_parts (touches p s (rule r)) (list_any (touches p s) (map (λ (x : Head). symbol x.atom.sym) hs)) e in
    record { rows_same = kept_step p (has_symbol hs) s h.solved (spares_heads (touches p s) hs w.1); entries_same = entries_step p r s w.0; sound = sound_step p s h }

-- n steps
pub keeps_after : (p : Program) (r : ℕ) (hs : List Head) (n : ℕ) (s : State) → IsSound s → touched_any p s n (marks_of r hs) ≡ 0 → Keeps (has_symbol hs) r s (after p s n)
keeps_after p r hs zero s h e = record { rows_same = refl; entries_same = refl; sound = h }
keeps_after p r hs (suc n) s h e =
    let w = count_none (list_any (touches p s) (marks_of r hs)) (touched_any p (step p s) n (marks_of r hs)) e in
    let k = keeps_one p r hs s h w.0 in
    let l = keeps_after p r hs n (step p s) k.sound w.1 in
    record { rows_same = l.rows_same ∙ k.rows_same; entries_same = l.entries_same ∙ k.entries_same; sound = l.sound }

-- equal rows of the rule's symbols, and equal entries of the rule
pub first_same : (p : Program) (rs qs : List Row) (h k : History) (i j : ℕ) (b : Atom) (o : Occurrence) → atom_of rs i ≡ Some b → atom_of qs i ≡ Some b → occurrence p b.sym j ≡ Some o
    → filter (of_kept (has_symbol o.rule.heads)) rs ≡ filter (of_kept (has_symbol o.rule.heads)) qs → rule_entries o.number h ≡ rule_entries o.number k → first p rs h i j ≡ first p qs k i j
first_same p rs qs h k i j b o lives living is same e =
    first_is p rs h i j b o lives is
    ∙ ap (λ (t : Option (List Row)). ids_found (found_with o.number o.rule o.place t)) (first_tuple_same (has_symbol o.rule.heads) rs qs h k o.number o.rule o.place (i, b) (heads_kept o.rule.heads) same e)
    ∙ sym (first_is p qs k i j b o living is)

-- the footprint of a living constraint at an occurrence that exists
pub footprint_is : (p : Program) (s : State) (i j : ℕ) (a : Atom) (o : Occurrence) → atom_of s.store i ≡ Some a → occurrence p a.sym j ≡ Some o → footprint p s i j ≡ marks_of o.number o.rule.heads
footprint_is p s i j a o lives is = ap (footprint_at p j) lives ∙ ap footprint_of is

first_stays : (p : Program) (s : State) (n i j : ℕ) (a : Atom) (o : Occurrence) → IsSound s → atom_of s.store i ≡ Some a → occurrence p a.sym j ≡ Some o → touched_any p s n (footprint p s i j) ≡ 0
    → first p (rows (after p s n)) (after p s n).history i j ≡ first p (rows s) s.history i j
first_stays p s n i j a o h lives is e =
    let k = keeps_after p o.number o.rule.heads n s h (sym (ap (touched_any p s n) (footprint_is p s i j a o lives is)) ∙ e) in
    let b = resolved_atom s.subst a in
    let here = atom_resolved s.subst s.store i a lives in
    let kept = atom_kept (has_symbol o.rule.heads) (rows s) i b (occurrence_has p a.sym j o is) here in
    let there = atom_of_part (of_kept (has_symbol o.rule.heads)) 0 (after p s n).next_id (rows (after p s n)) i b (Ascends-resolved (after p s n).subst 0 (after p s n).next_id (after p s n).store k.sound.ascends) (ap (λ (x : List Row). atom_of x i) k.rows_same ∙ kept) in
    first_same p (rows (after p s n)) (rows s) (after p s n).history s.history i j b o there here is k.rows_same k.entries_same

pub footprint_law : FootprintLaw
footprint_law p r k n i j a o lives is e = first_stays p (after p (start r) k) n i j a o (sound_after p k (start r) (sound_start r)) lives is e
