-- What a task finds in a snapshot.
use Rattle.std.proofs.Common.{◌≡◌, ◌≢◌, ℕ, ◌+◌, ◌<◌, ◌≤◌, Bool, true, false, cond, not, ◌&&◌, ◌==◌, List, [], ◌∷◌, Option, Some, None, ap, refl, ◌∙◌, sym, subst, map, arith, true≢false}
use Rattle.std.specs.Prelude.{All, AllPairs, filter, find, option_and_then, option_map}
use Rattle.std.proofs.lemmas.List.{map-append}
use Rattle.std.proofs.lemmas.List.Elements.{All-cons, All-nil}
use Rattle.std.proofs.lemmas.List.Kept.{AllPairs-cons}
use mathlib.Core.Path.{fun_ext}
use Rattle.chr_semantics.specs.Program.{Atom, Occurrence, Program, Query, Rule, occurrence}
use Rattle.chr_semantics.specs.Match.{Row, fits}
use Rattle.chr_semantics.specs.Search.{History, RuleEntriesLaw, atom_of, can_fire, first, first_of, found_at, found_for, found_with, ids_found, ids_of, live_entries, passes_guard, rule_entries, tuples}
use Rattle.chr_semantics.specs.State.{State, resolved_atom, rows, start}
use Rattle.chr_semantics.specs.Step.{after}
use Rattle.chr_semantics.specs.Tasks.{Task, guest}
use Rattle.chr_semantics.specs.Footprint.{Ascends, IsSound, answer, with_guest}
use Rattle.chr_semantics.specs.Keys.{clashes}
use Rattle.chr_semantics.specs.Snapshot.{SnapshotLaw, SoundLaw, entries_at, found_in, occurrence_of, rows_at, snapshot_for_task, snapshot_of, with_last}
use Rattle.chr_semantics.proofs.Lists.{AllPairs-append, AllPairs-nil}
use Rattle.chr_semantics.proofs.Lookups.{Ascends-ends, Ascends-resolved, atom_of_part, atom_resolved, resolved_row}
use Rattle.chr_semantics.proofs.FirstTuple.{fired_before_entries}
use Rattle.chr_semantics.proofs.DeadEntriesLaw.{dead_entries_law}
use Rattle.chr_semantics.proofs.RowsLaw.{rows_law}
use Rattle.chr_semantics.proofs.Soundness.{sound_after, sound_start}
use Rattle.chr_semantics.proofs.TakenLaw.{taken_law}
use Rattle.chr_semantics.proofs.KeyLaw.{clash_law}
use Rattle.std.proofs.lemmas.Bool.{not-false}

-- entries of other rules
can_fire_entries : (h : History) (r : ℕ) (rule : Rule) → can_fire (rule_entries r h) r rule ≡ can_fire h r rule
can_fire_entries h r rule = fun_ext (λ t. ap (λ (b : Bool). passes_guard rule (fits rule.heads t) && not b) (sym (fired_before_entries h r (ids_of t))))

first_entries : (p : Program) (rows : List Row) (h : History) (i j f : ℕ) (o : Occurrence) (x : Option Atom) → ((a : Atom) → x ≡ Some a → a.sym ≡ f) → occurrence p f j ≡ Some o → atom_of rows i ≡ x
    → first_of p rows (rule_entries o.number h) i j x ≡ first_of p rows h i j x
first_entries p rows h i j f o None s e is = refl
first_entries p rows h i j f o (Some a) s e is =
    let at : occurrence p a.sym j ≡ Some o = ap (λ (g : ℕ). occurrence p g j) (s a refl) ∙ e in
    ap (λ (w : Option Occurrence). ids_found (found_at rows (rule_entries o.number h) i w)) at
    ∙ ap (λ (w : Option Atom). ids_found (found_for rows (rule_entries o.number h) o.number o.rule o.place i w)) is
    ∙ ap (λ (g : List Row → Bool). ids_found (found_with o.number o.rule o.place (find g (tuples rows o.rule o.place (i, a))))) (can_fire_entries h o.number o.rule)
    ∙ sym (ap (λ (w : Option Atom). ids_found (found_for rows h o.number o.rule o.place i w)) is)
    ∙ sym (ap (λ (w : Option Occurrence). ids_found (found_at rows h i w)) at)

pub rule_entries_law : RuleEntriesLaw
rule_entries_law p rows h i j f o s e = first_entries p rows h i j f o (atom_of rows i) s e refl

-- identities that ascend differ
all_above : (lo hi i : ℕ) (xs : List Row) → i < lo → Ascends lo xs hi → All (λ k. i ≢ k) (ids_of xs)
all_above lo hi i [] l h = All-nil (λ k. i ≢ k)
all_above lo hi i (x ∷ xs) l h = All-cons (λ k. i ≢ k) x.0 (ids_of xs) (λ e. absurd (omega (arith, e, l, h.0))) (all_above (x.0 + 1) hi i xs (omega (arith, l, h.0)) h.1)

pub different_ids : (lo hi : ℕ) (xs : List Row) → Ascends lo xs hi → AllPairs (λ i j. i ≢ j) (ids_of xs)
different_ids lo hi [] h = AllPairs-nil (λ i j. i ≢ j)
different_ids lo hi (x ∷ xs) h = AllPairs-cons (λ i j. i ≢ j) x.0 (ids_of xs) (all_above (x.0 + 1) hi x.0 xs (omega arith) h.1) (different_ids (x.0 + 1) hi xs h.1)

below_next : (lo hi : ℕ) (xs : List Row) → Ascends lo xs hi → All (λ k. All (λ j. k ≢ j) (hi ∷ [])) (ids_of xs)
below_next lo hi [] h = All-nil (λ k. All (λ j. k ≢ j) (hi ∷ []))
below_next lo hi (x ∷ xs) h =
    let up : x.0 + 1 ≤ hi = Ascends-ends (x.0 + 1) hi xs h.1 in
    All-cons (λ k. All (λ j. k ≢ j) (hi ∷ [])) x.0 (ids_of xs) (All-cons (λ j. x.0 ≢ j) hi [] (λ e. absurd (omega (arith, e, up))) (All-nil (λ j. x.0 ≢ j))) (below_next (x.0 + 1) hi xs h.1)

different_guest : (s : State) (g : Option Atom) → IsSound s → AllPairs (λ i j. i ≢ j) (ids_of (with_guest s g))
different_guest s None h = different_ids 0 s.next_id (rows s) (Ascends-resolved s.subst 0 s.next_id s.store h.ascends)
different_guest s (Some a) h =
    let up = Ascends-resolved s.subst 0 s.next_id s.store h.ascends in
    subst (AllPairs (λ i j. i ≢ j)) (sym (map-append (λ (row : Row). row.0) (rows s) ((s.next_id, resolved_atom s.subst a) ∷ [])))
    (AllPairs-append (λ i j. i ≢ j) (ids_of (rows s)) (s.next_id ∷ []) (different_ids 0 s.next_id (rows s) up) (AllPairs-cons (λ i j. i ≢ j) s.next_id [] (All-nil (λ k. s.next_id ≢ k)) (AllPairs-nil (λ i j. i ≢ j))) (below_next 0 s.next_id (rows s) up))

-- the published snapshot
guest_same : (s : State) (g : Option Atom) → with_last (rows s) s.next_id (option_map (resolved_atom s.subst) g) ≡ with_guest s g
guest_same s None = refl
guest_same s (Some a) = refl

published : (p : Program) (r : Query) (n : ℕ) (t : Task) → (let s = after p (start r) n in found_in p (snapshot_of p s) t ≡ answer p s t)
published p r n t =
    let s = after p (start r) n in
    ap (λ (xs : List Row). first p (cond (t.0 == s.next_id) xs (rows s)) (live_entries (rows s) s.history) t.0 t.1) (guest_same s (guest s))
    ∙ taken_law p r n t

-- a task's own snapshot
absent_at : (b : Bool) (m n : Option Atom) (a c : Atom) → cond b (Some a) m ≡ None → (m ≡ None → n ≡ None) → cond b (Some c) n ≡ None
absent_at true m n a c e h = cc
absent_at false m n a c e h = h e

absent_resolved : (s : State) (xs : List Row) (i : ℕ) → atom_of xs i ≡ None → atom_of (map (resolved_row s.subst) xs) i ≡ None
absent_resolved s [] i e = refl
absent_resolved s (x ∷ xs) i e = absent_at (x.0 == i) (atom_of xs i) (atom_of (map (resolved_row s.subst) xs) i) x.1 (resolved_atom s.subst x.1) e (absent_resolved s xs i)

same_symbol : (a c : Atom) → Some a ≡ Some c → c.sym ≡ a.sym
same_symbol a c e = let same : a ≡ c = cc in ap (λ (x : Atom). x.sym) (sym same)

own_occurrence : (p : Program) (s : State) (i j : ℕ) (a : Atom) (o : Option Occurrence) → IsSound s → atom_of s.store i ≡ Some a → occurrence p a.sym j ≡ o → first p (rows_at s o) (entries_at s o) i j ≡ first p (rows s) s.history i j
own_occurrence p s i j a None h lives is =
    sym (ap (first_of p (rows s) s.history i j) (atom_resolved s.subst s.store i a lives) ∙ ap (λ (w : Option Occurrence). ids_found (found_at (rows s) s.history i w)) is)
own_occurrence p s i j a (Some o) h lives is =
    let keep : Row → Bool = λ c. not (clashes o.rule c) in
    let up = Ascends-resolved s.subst 0 s.next_id s.store h.ascends in
    let here = atom_resolved s.subst s.store i a lives in
    let live = live_entries (rows s) s.history in
    rule_entries_law p (filter keep (rows s)) live i j a.sym o (λ c e. same_symbol (resolved_atom s.subst a) c (sym here ∙ atom_of_part keep 0 s.next_id (rows s) i c up e)) is
    ∙ rows_law p (rows s) keep live i j (resolved_atom s.subst a) o (different_ids 0 s.next_id (rows s) up) here is (λ c out. clash_law o.rule c (not-false (clashes o.rule c) out))
    ∙ dead_entries_law p (rows s) s.history i j

own_lives : (p : Program) (s : State) (i j : ℕ) (x : Option Atom) → IsSound s → atom_of s.store i ≡ x
    → (let o = option_and_then (λ (a : Atom). occurrence p a.sym j) x in first p (rows_at s o) (entries_at s o) i j ≡ first p (rows s) s.history i j)
own_lives p s i j None h is = sym (ap (first_of p (rows s) s.history i j) (absent_resolved s s.store i is))
own_lives p s i j (Some a) h is = own_occurrence p s i j a (occurrence p a.sym j) h is refl

same_twice : {X : Type 0} (b : Bool) (x : X) → cond b x x ≡ x
same_twice true x = refl
same_twice false x = refl

own : (p : Program) (s : State) (t : Task) → IsSound s → found_in p (snapshot_for_task p s t) t ≡ first p (rows s) s.history t.0 t.1
own p s t h =
    let o = occurrence_of p s t in
    ap (λ (xs : List Row). first p xs (entries_at s o) t.0 t.1) (same_twice (t.0 == s.next_id) (rows_at s o))
    ∙ own_lives p s t.0 t.1 (atom_of s.store t.0) h refl

pub snapshot_law : SnapshotLaw
snapshot_law = record { published = published; own = own; different = different_guest }

pub sound_law : SoundLaw
sound_law p r n = sound_after p n (start r) (sound_start r)
