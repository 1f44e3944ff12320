-- The guest's case: the Activate that gives the next identity is the only transition that touches.
use Rattle.std.proofs.Common.{Bool, Err, List, None, Ok, Option, Result, Some, [], ap, arith, cond, drop, false, inl, inr, map, not, refl, subst, suc, sym, true, true≢false, zero, ℕ, ℤ, ◌&&◌, ◌++◌, ◌+◌, ◌<◌, ◌==◌, ◌||◌, ◌∙◌, ◌∷◌, ◌≡◌, ◌≤◌, ◌⊎◌}
use Rattle.std.proofs.lemmas.Bool.{eq-eqb, or_parts}
use Rattle.std.proofs.lemmas.Bool.Decides.{Decides-eqb}
use Rattle.std.proofs.lemmas.List.{map-append}
use Rattle.std.proofs.lemmas.List.Elements.{filter-append}
use Rattle.std.specs.List.{list_any}
use Rattle.std.specs.Prelude.{filter}
use Rattle.chr_semantics.specs.Footprint.{Ascends, IsSound}
use Rattle.chr_semantics.specs.Guard.{comparison_holds}
use Rattle.chr_semantics.specs.Match.{Row}
use Rattle.chr_semantics.specs.Mgu.{mgu}
use Rattle.chr_semantics.specs.Program.{Atom, Comparison, Goal, Head, Program, compare, constraint, evaluate, fail, tell}
use Rattle.chr_semantics.specs.Search.{Found, atom_of, firing, has_number, ids_of, no_firing, no_occurrence, rule_entries}
use Rattle.chr_semantics.specs.State.{Element, State, Status, active, done, failed, faulted, goal, known, resolved_atom, rows, running}
use Rattle.chr_semantics.specs.Step.{after, compare_step, evaluate_step, search_at, search_step, solve, step, step_at, step_top, bind_step}
use Rattle.chr_semantics.specs.Subst.{Subst, apply}
use Rattle.chr_semantics.specs.Touch.{rule, Mark, goal_touches, symbol, touched_any, touches, touches_at, touches_top}
use Rattle.chr_semantics.specs.Tree.{Tree, int}
use Rattle.chr_semantics.specs.Value.{Fault, value}
use Rattle.chr_semantics.proofs.FirstTuple.{}
use Rattle.chr_semantics.proofs.FootprintLaw.{keeps_after, keeps_one, marks_of}
use Rattle.chr_semantics.proofs.KeptRows.{kept_rows}
use Rattle.chr_semantics.proofs.Lookups.{Ascends-ends, atom_of_part, Ascends-resolved, atom_kept, of_kept, resolved_row}
use Rattle.chr_semantics.proofs.Occurrences.{has_symbol}
use Rattle.chr_semantics.proofs.Soundness.{sound_step}

-- whether a constraint with the identity has a kept symbol
abbrev pub has_kept : (ℕ → Bool) → ℕ → List Row → Bool
has_kept keep i xs = list_any (λ (r : Row). r.0 == i && keep r.1.sym) xs

-- either a constraint enters, or none does
pub record Enters (touch : Mark → Bool) (s t : State) : Type 0 where
  pub atom : Atom
  pub touch_symbol : (f : ℕ) → touch (symbol f) ≡ (atom.sym == f)
  pub touch_rule : (r : ℕ) → touch (rule r) ≡ false
  pub store : t.store ≡ s.store ++ (s.next_id, atom) ∷ []
  pub subst_same : t.subst ≡ s.subst
  pub history_same : t.history ≡ s.history
  pub next : t.next_id ≡ s.next_id + 1

-- none enters, and one that is gone does not come again
pub record Stays (s t : State) : Type 0 where
  pub lacks : (keep : ℕ → Bool) (i : ℕ) → has_kept keep i s.store ≡ false → has_kept keep i t.store ≡ false
  pub next : t.next_id ≡ s.next_id

stays_told : (s : State) (rest : List Element) (m : Option Subst) → Stays s (bind_step s rest m)
stays_told s rest None = record { lacks = λ keep i h. h; next = refl }
stays_told s rest (Some r) = record { lacks = λ keep i h. h; next = refl }

stays_evaluated : (s : State) (rest : List Element) (x : Tree) (v : Result ℤ Fault) → Stays s (evaluate_step s rest x v)
stays_evaluated s rest x (Err e) = record { lacks = λ keep i h. h; next = refl }
stays_evaluated s rest x (Ok z) = stays_told s rest (mgu s.subst x (int z))

stays_either : (b : Bool) (s t u : State) → Stays s t → Stays s u → Stays s (cond b t u)
stays_either true s t u h k = h
stays_either false s t u h k = k

stays_decided : (s : State) (rest : List Element) (c : Comparison) (v w : Result ℤ Fault) → Stays s (compare_step s rest c v w)
stays_decided s rest c (Err e) w = record { lacks = λ keep i h. h; next = refl }
stays_decided s rest c (Ok x) (Err e) = record { lacks = λ keep i h. h; next = refl }
stays_decided s rest c (Ok x) (Ok y) = stays_either (comparison_holds c x y) s _ _ (record { lacks = λ keep i h. h; next = refl }) (record { lacks = λ keep i h. h; next = refl })

lacks_filter_at : (b c : Bool) (keep : ℕ → Bool) (i : ℕ) (x : Row) (ys : List Row) → (x.0 == i && keep x.1.sym) ≡ c → c ≡ false → has_kept keep i ys ≡ false → has_kept keep i (cond b (x ∷ ys) ys) ≡ false
lacks_filter_at true c keep i x ys is e h = rw (is ∙ e) h
lacks_filter_at false c keep i x ys is e h = h

lacks_filter : (test : Row → Bool) (keep : ℕ → Bool) (i : ℕ) (xs : List Row) → has_kept keep i xs ≡ false → has_kept keep i (filter test xs) ≡ false
lacks_filter test keep i [] h = h
lacks_filter test keep i (x ∷ xs) h = let r = or_parts (x.0 == i && keep x.1.sym) (has_kept keep i xs) h in lacks_filter_at (test x) _ keep i x (filter test xs) refl r.0 (lacks_filter test keep i xs r.1)

pub enters_or_stays_goal : (s : State) (rest : List Element) (g : Goal) → Enters (goal_touches s rest g) s (solve s rest g) ⊎ Stays s (solve s rest g)
enters_or_stays_goal s rest (constraint a) = inl (record { atom = a; touch_symbol = λ f. refl; touch_rule = λ r. refl; store = refl; subst_same = refl; history_same = refl; next = refl })
enters_or_stays_goal s rest (tell t u) = inr (stays_told s rest (mgu s.subst t u))
enters_or_stays_goal s rest (evaluate x t) = inr (stays_evaluated s rest x (value (apply s.subst t)))
enters_or_stays_goal s rest (compare c t u) = inr (stays_decided s rest c _ _)
enters_or_stays_goal s rest fail = inr (record { lacks = λ keep i h. h; next = refl })

stays_found : (s : State) (rest : List Element) (i j : ℕ) (a : Atom) (w : Found) → Stays s (search_step s rest i j a w)
stays_found s rest i j a no_occurrence = record { lacks = λ keep i h. h; next = refl }
stays_found s rest i j a no_firing = record { lacks = λ keep i h. h; next = refl }
stays_found s rest i j a (firing n r place t) = record { lacks = λ keep k h. lacks_filter (λ x. not (has_number (drop r.kept (ids_of t)) x.0)) keep k s.store h; next = refl }

enters_or_stays_top : (p : Program) (s : State) (es : List Element) → Enters (touches_top p s es) s (step_top p s es) ⊎ Stays s (step_top p s es)
enters_or_stays_top p s [] = inr (record { lacks = λ keep i h. h; next = refl })
enters_or_stays_top p s (goal g ∷ es) = enters_or_stays_goal s es g
enters_or_stays_top p s (known i a ∷ es) = inr (record { lacks = λ keep i h. h; next = refl })
enters_or_stays_top p s (active i j a ∷ es) = inr (stays_found s es i j a (search_at p s i j a))

enters_or_stays_at : (p : Program) (s : State) (w : Status) → Enters (touches_at p s w) s (step_at p s w) ⊎ Stays s (step_at p s w)
enters_or_stays_at p s running = enters_or_stays_top p s s.stack
enters_or_stays_at p s done = inr (record { lacks = λ keep i h. h; next = refl })
enters_or_stays_at p s failed = inr (record { lacks = λ keep i h. h; next = refl })
enters_or_stays_at p s (faulted f) = inr (record { lacks = λ keep i h. h; next = refl })

-- each step is one of both
pub enters_or_stays : (p : Program) (s : State) → Enters (touches p s) s (step p s) ⊎ Stays s (step p s)
enters_or_stays p s = enters_or_stays_at p s s.status

-- identities that are gone, or were never of a kept symbol, do not come again
push_at : (b : Bool) (c : Bool) → b ≡ false → (b && c || false) ≡ false
push_at true c h = absurd (true≢false h)
push_at false c h = refl

unequal : (b : Bool) (x y : ℕ) → (x == y) ≡ b → y < x → b ≡ false
unequal true x y is h = let e : x ≡ y = (Decides-eqb x y).0 is in absurd (omega (arith, e, h))
unequal false x y is h = refl

lacks_push : (keep : ℕ → Bool) (i n : ℕ) (a : Atom) (xs : List Row) → i < n → has_kept keep i xs ≡ false → has_kept keep i (xs ++ (n, a) ∷ []) ≡ false
lacks_push keep i n a [] h k = push_at (n == i) (keep a.sym) (unequal (n == i) n i refl h)
lacks_push keep i n a (x ∷ xs) h k = let r = or_parts (x.0 == i && keep x.1.sym) (has_kept keep i xs) k in rw r.0 (lacks_push keep i n a xs h r.1)

lacks_step : (p : Program) (keep : ℕ → Bool) (i : ℕ) (s : State) → i < s.next_id → has_kept keep i s.store ≡ false → (has_kept keep i (step p s).store ≡ false) × (i < (step p s).next_id)
lacks_step p keep i s h k = elim (enters_or_stays p s) [
  | inl e ↦ (ap (has_kept keep i) e.store ∙ lacks_push keep i s.next_id e.atom s.store h k, omega (arith, h, e.next))
  | inr e ↦ (e.lacks keep i k, omega (arith, h, e.next))
]

lacks_after : (p : Program) (keep : ℕ → Bool) (i n : ℕ) (s : State) → i < s.next_id → has_kept keep i s.store ≡ false → has_kept keep i (after p s n).store ≡ false
lacks_after p keep i zero s h k = k
lacks_after p keep i (suc n) s h k = let r = lacks_step p keep i s h k in lacks_after p keep i n (step p s) r.1 r.0

-- no constraint has an identity yet that is not below the next
pub lacks_above : (keep : ℕ → Bool) (lo i : ℕ) (xs : List Row) → Ascends lo xs i → has_kept keep i xs ≡ false
lacks_above keep lo i [] h = refl
lacks_above keep lo i (x ∷ xs) h = rw (below_at (x.0 == i) lo i x xs refl h) (lacks_above keep (x.0 + 1) i xs h.1)
  where
    below_at : (b : Bool) (lo i : ℕ) (x : Row) (xs : List Row) → (x.0 == i) ≡ b → Ascends lo (x ∷ xs) i → (x.0 == i) ≡ false
    below_at true lo i x xs is k = let e : x.0 ≡ i = (Decides-eqb x.0 i).0 is in let m : x.0 + 1 ≤ i = Ascends-ends (x.0 + 1) i xs k.1 in absurd (omega (arith, e, m))
    below_at false lo i x xs is k = is

-- the rows show whether there is one
rows_at : (k b d : Bool) (i : ℕ) (keep : ℕ → Bool) (s : Subst) (x : Row) (ys : List Row) → (x.0 == i) ≡ b → list_any (λ (r : Row). r.0 == i) ys ≡ d → list_any (λ (r : Row). r.0 == i) (cond k (resolved_row s x ∷ ys) ys) ≡ (b && k || d)
rows_at true true d i keep s x ys is h = rw is refl
rows_at true false d i keep s x ys is h = rw is h
rows_at false true d i keep s x ys is h = h
rows_at false false d i keep s x ys is h = h

has_rows : (keep : ℕ → Bool) (i : ℕ) (s : Subst) (xs : List Row) → list_any (λ (r : Row). r.0 == i) (filter (of_kept keep) (map (resolved_row s) xs)) ≡ has_kept keep i xs
has_rows keep i s [] = refl
has_rows keep i s (x ∷ xs) = rows_at (keep x.1.sym) (x.0 == i) (has_kept keep i xs) i keep s x _ refl (has_rows keep i s xs)

found_at_row : (b : Bool) (keep : ℕ → Bool) (s : Subst) (x : Row) (m : Option Atom) (a : Atom) (others : Bool) → cond b (Some (resolved_atom s x.1)) m ≡ Some a → keep a.sym ≡ true → (m ≡ Some a → others ≡ true) → (b && keep x.1.sym || others) ≡ true
found_at_row true keep s x m a others e k h = let same : resolved_atom s x.1 ≡ a = cc in rw (ap (λ (y : Atom). keep y.sym) same ∙ k) refl
found_at_row false keep s x m a others e k h = h e

found_has : (keep : ℕ → Bool) (s : Subst) (xs : List Row) (i : ℕ) (a : Atom) → keep a.sym ≡ true → atom_of (map (resolved_row s) xs) i ≡ Some a → has_kept keep i xs ≡ true
found_has keep s [] i a k e = cc
found_has keep s (x ∷ xs) i a k e = found_at_row (x.0 == i) keep s x (atom_of (map (resolved_row s) xs) i) a (has_kept keep i xs) e k (found_has keep s xs i a k)

-- the row that has entered
push_found_at : (b : Bool) (a : Atom) (m : Option Atom) (c : Atom) (d : Bool) → (b && true || d) ≡ false → (d ≡ false → m ≡ Some c) → cond b (Some a) m ≡ Some c
push_found_at true a m c d h k = absurd (true≢false h)
push_found_at false a m c d h k = k h

pub atom_pushed : (i : ℕ) (s : Subst) (c : Atom) (xs : List Row) → has_kept (λ f. true) i xs ≡ false → atom_of (map (resolved_row s) xs ++ (i, c) ∷ []) i ≡ Some c
atom_pushed i s c [] h = rw (eq-eqb i i refl) refl
atom_pushed i s c (x ∷ xs) h = push_found_at (x.0 == i) (resolved_atom s x.1) _ c (has_kept (λ f. true) i xs) h (atom_pushed i s c xs)

-- the step that gives the identity i to the constraint b
pub record HasEntered (touch : Mark → Bool) (keep : ℕ → Bool) (i : ℕ) (b : Atom) (s t : State) : Type 0 where
  pub touch_symbol : (f : ℕ) → touch (symbol f) ≡ (b.sym == f)
  pub touch_rule : (r : ℕ) → touch (rule r) ≡ false
  pub rows_more : kept_rows keep t ≡ kept_rows keep s ++ (i, b) ∷ []
  pub history_same : t.history ≡ s.history

-- a kept row after the others
pub kept_last : (keep : ℕ → Bool) (i : ℕ) (b : Atom) (xs : List Row) → keep b.sym ≡ true → filter (of_kept keep) (xs ++ (i, b) ∷ []) ≡ filter (of_kept keep) xs ++ (i, b) ∷ []
kept_last keep i b xs h = filter-append (of_kept keep) xs ((i, b) ∷ []) ∙ ap (λ (c : Bool). filter (of_kept keep) xs ++ cond c ((i, b) ∷ []) []) h

entered_rows : (touch : Mark → Bool) (keep : ℕ → Bool) (i : ℕ) (b : Atom) (s t : State) (e : Enters touch s t) → IsSound s → s.next_id ≡ i → keep b.sym ≡ true → atom_of (rows t) i ≡ Some b → HasEntered touch keep i b s t
entered_rows touch keep i b s t e h next k found =
    let stored : t.store ≡ s.store ++ (i, e.atom) ∷ [] = e.store ∙ ap (λ (x : ℕ). s.store ++ (x, e.atom) ∷ []) next in
    let shown : rows t ≡ rows s ++ (i, resolved_atom s.subst e.atom) ∷ [] =
    ap (λ (u : Subst). map (resolved_row u) t.store) e.subst_same ∙ ap (map (resolved_row s.subst)) stored ∙ map-append (resolved_row s.subst) s.store ((i, e.atom) ∷ []) in
    let last : atom_of (rows s ++ (i, resolved_atom s.subst e.atom) ∷ []) i ≡ Some (resolved_atom s.subst e.atom) =
    atom_pushed i s.subst (resolved_atom s.subst e.atom) s.store (lacks_above (λ f. true) 0 i s.store (subst (λ (x : ℕ). Ascends 0 s.store x) next h.ascends)) in
    let both : Some (resolved_atom s.subst e.atom) ≡ Some b = sym last ∙ ap (λ (x : List Row). atom_of x i) (sym shown) ∙ found in
    let same : resolved_atom s.subst e.atom ≡ b = cc in
    record {
      touch_symbol = λ f. e.touch_symbol f ∙ ap (λ (a : Atom). a.sym == f) same;
      touch_rule = e.touch_rule;
      rows_more = ap (filter (of_kept keep)) (shown ∙ ap (λ (a : Atom). rows s ++ (i, a) ∷ []) same) ∙ kept_last keep i b (rows s) k;
      history_same = e.history_same;
    }

-- where b has come to the identity i within one step, that step is its Activate
pub entered : (p : Program) (keep : ℕ → Bool) (i : ℕ) (b : Atom) (s : State) → IsSound s → s.next_id ≡ i → keep b.sym ≡ true → atom_of (rows (step p s)) i ≡ Some b → HasEntered (touches p s) keep i b s (step p s)
entered p keep i b s h next k found = elim (enters_or_stays p s) [
  | inl e ↦ entered_rows (touches p s) keep i b s (step p s) e h next k found
  | inr e ↦ absurd (true≢false (sym (found_has keep (step p s).subst (step p s).store i b k found) ∙ e.lacks keep i (lacks_above keep 0 i s.store (subst (λ (x : ℕ). Ascends 0 s.store x) next h.ascends))))
]

pub entered_next : (p : Program) (keep : ℕ → Bool) (i : ℕ) (b : Atom) (s : State) → IsSound s → s.next_id ≡ i → keep b.sym ≡ true → atom_of (rows (step p s)) i ≡ Some b → (step p s).next_id ≡ s.next_id + 1
entered_next p keep i b s h next k found = elim (enters_or_stays p s) [
  | inl e ↦ e.next
  | inr e ↦ absurd (true≢false (sym (found_has keep (step p s).subst (step p s).store i b k found) ∙ e.lacks keep i (lacks_above keep 0 i s.store (subst (λ (x : ℕ). Ascends 0 s.store x) next h.ascends))))
]

-- what n steps leave of which one alone touches
pub record KeepsGuest (keep : ℕ → Bool) (r i : ℕ) (b : Atom) (s t : State) : Type 0 where
  pub rows_more : kept_rows keep t ≡ kept_rows keep s ++ (i, b) ∷ []
  pub entries_same : rule_entries r t.history ≡ rule_entries r s.history
  pub sound : IsSound t

-- a kept row is found before where the kept rows are the same
pub found_kept : (keep : ℕ → Bool) (i : ℕ) (b : Atom) (s t : State) → IsSound s → kept_rows keep t ≡ kept_rows keep s → keep b.sym ≡ true → atom_of (rows t) i ≡ Some b → atom_of (rows s) i ≡ Some b
found_kept keep i b s t h same k found =
    atom_of_part (of_kept keep) 0 s.next_id (rows s) i b (Ascends-resolved s.subst 0 s.next_id s.store h.ascends)
    (ap (λ (x : List Row). atom_of x i) (sym same) ∙ atom_kept keep (rows t) i b k found)

-- where the identity i went to a constraint that is not kept, no kept one ever has it
pub never_again : (p : Program) (keep : ℕ → Bool) (i : ℕ) (b : Atom) (n : ℕ) (s t : State) → IsSound s → s.next_id ≡ i → kept_rows keep t ≡ kept_rows keep s → i < t.next_id → keep b.sym ≡ true → atom_of (rows (after p t n)) i ≡ Some b → ⊥
never_again p keep i b n s t h next same more k found =
    let before = lacks_above keep 0 i s.store (subst (λ (x : ℕ). Ascends 0 s.store x) next h.ascends) in
    let now : has_kept keep i t.store ≡ false = sym (has_rows keep i t.subst t.store) ∙ ap (list_any (λ (r : Row). r.0 == i)) same ∙ has_rows keep i s.subst s.store ∙ before in
    true≢false (sym (found_has keep (after p t n).subst (after p t n).store i b k found) ∙ lacks_after p keep i n t more now)

guest_at : (p : Program) (r : ℕ) (hs : List Head) (i : ℕ) (b : Atom) (n : ℕ) (s : State) (t : Bool) (m : ℕ) → list_any (touches p s) (marks_of r hs) ≡ t → touched_any p (step p s) n (marks_of r hs) ≡ m → IsSound s → s.next_id ≡ i → has_symbol hs b.sym ≡ true
    → atom_of (rows (after p (step p s) n)) i ≡ Some b → cond t 1 0 + m ≡ 1
    → ((step p s).next_id ≡ i → touched_any p (step p s) n (marks_of r hs) ≡ 1 → KeepsGuest (has_symbol hs) r i b (step p s) (after p (step p s) n))
    → KeepsGuest (has_symbol hs) r i b s (after p (step p s) n)
guest_at p r hs i b n s true m is rest h next k found e go =
    let l = keeps_after p r hs n (step p s) (sound_step p s h) (rest ∙ omega (arith, e)) in
    let w = entered p (has_symbol hs) i b s h next k (found_kept (has_symbol hs) i b (step p s) (after p (step p s) n) (sound_step p s h) l.rows_same k found) in
    record { rows_more = l.rows_same ∙ w.rows_more; entries_same = l.entries_same ∙ ap (rule_entries r) w.history_same; sound = l.sound }
guest_at p r hs i b n s false m is rest h next k found e go =
    let l = keeps_one p r hs s h is in
    elim (enters_or_stays p s) [
      | inl w ↦ absurd (never_again p (has_symbol hs) i b n s (step p s) h next l.rows_same (omega (arith, next, w.next)) k found)
      | inr w ↦
          let q = go (w.next ∙ next) (rest ∙ omega (arith, e)) in
          record { rows_more = q.rows_more ∙ ap (λ (x : List Row). x ++ (i, b) ∷ []) l.rows_same; entries_same = q.entries_same ∙ l.entries_same; sound = q.sound }
    ]

-- where one step alone touches, the kept rows are those from before and the new one
pub guest_after : (p : Program) (r : ℕ) (hs : List Head) (i : ℕ) (b : Atom) (n : ℕ) (s : State) → IsSound s → s.next_id ≡ i → has_symbol hs b.sym ≡ true → atom_of (rows (after p s n)) i ≡ Some b → touched_any p s n (marks_of r hs) ≡ 1
    → KeepsGuest (has_symbol hs) r i b s (after p s n)
guest_after p r hs i b zero s h next k found e = absurd (omega (arith, e))
guest_after p r hs i b (suc n) s h next k found e =
    guest_at p r hs i b n s (list_any (touches p s) (marks_of r hs)) (touched_any p (step p s) n (marks_of r hs)) refl refl h next k found e
    (λ next' e'. guest_after p r hs i b n (step p s) (sound_step p s h) next' k found e')
