-- Constraints that leave one after another.
use Rattle.std.proofs.Common.{◌≡◌, ◌∙◌, ◌≢◌, ◌<◌, ◌≤◌, ◌+◌, ◌==◌, ◌&&◌, ◌||◌, ℕ, zero, suc, Bool, true, false, true≢false, cond, List, [], ◌∷◌, ◌++◌, Option, Some, None, ap, refl, subst, sym, get_or, drop, length, map, min, nat_lt, arith}
use Rattle.std.specs.Prelude.{All, AllPairs, is_some, reverse}
use Rattle.std.specs.List.{list_all}
use Rattle.std.proofs.lemmas.Bool.{and_parts, eq-eqb, ne_eqb}
use Rattle.std.proofs.lemmas.List.{length-append, length-drop, length-map, length-reverse, reverse-append}
use Rattle.std.proofs.lemmas.List.Elements.{All-head, All-tail}
use Rattle.chr_semantics.proofs.Lists.{AllPairs-head, AllPairs-tail}
use Rattle.chr_semantics.specs.Changes.{Entries, Store, removed, removed_as}
use Rattle.chr_semantics.specs.Program.{Atom}
use Rattle.chr_semantics.specs.Search.{atom_of, has_number}
use Rattle.chr_semantics.specs.State.{resolved_atom}
use Rattle.chr_semantics.specs.Subst.{Subst}
use Rattle.chr_semantics.specs.declared.limits.TheConstants.{MAX_HEADS}
use Rattle.chr_store.specs.Rows.{row_atom}
use Rattle.chr_find.specs.TableView.{atoms_with}
use Rattle.chr_base.specs.Agreement.{Agrees, is_alive, under}
use Rattle.chr_base.specs.Leaving.{AreStanding, leaving_ids}
use Rattle.chr_base.specs.declared.firing.Leaving.{Leaving}

-- the test at a place of a list whose elements pass
pub passes_at : (test : ℕ → Bool) (ids : List ℕ) (k : ℕ) → k < length ids → list_all test ids ≡ true → test (get_or ids k 0) ≡ true
passes_at test [] k lt h = absurd (omega (arith, lt))
passes_at test (i ∷ ids) zero lt h = (and_parts (test i) (list_all test ids) h).0
passes_at test (i ∷ ids) (suc k) lt h = passes_at test ids k (omega (arith, lt)) (and_parts (test i) (list_all test ids) h).1

pub passes_drop : (test : ℕ → Bool) (k : ℕ) (ids : List ℕ) → list_all test ids ≡ true → list_all test (drop k ids) ≡ true
passes_drop test zero ids h = h
passes_drop test (suc k) [] h = h
passes_drop test (suc k) (i ∷ ids) h = passes_drop test k ids (and_parts (test i) (list_all test ids) h).1

among_more : (j : ℕ) (ids is : List ℕ) → list_all (has_number ids) is ≡ true → list_all (has_number (j ∷ ids)) is ≡ true
among_more j ids [] h = refl
among_more j ids (i ∷ is) h =
    let parts = and_parts (has_number ids i) (list_all (has_number ids) is) h in
    (λ k. or_right (i == j) (has_number ids i) parts.0 k && among_more j ids is parts.1 k)
  where
    or_right : (b d : Bool) → d ≡ true → (b || d) ≡ true
    or_right true d e = refl
    or_right false d e = e

-- each of a list is among them
pub all_among : (ids : List ℕ) → list_all (has_number ids) ids ≡ true
all_among [] = refl
all_among (i ∷ ids) = (λ k. (eq-eqb i i refl k || has_number ids i) && among_more i ids ids (all_among ids) k)

pub different_drop : (k : ℕ) (ids : List ℕ) → AllPairs (λ i j. i ≢ j) ids → AllPairs (λ i j. i ≢ j) (drop k ids)
different_drop zero ids h = h
different_drop (suc k) [] h = h
different_drop (suc k) (i ∷ ids) h = different_drop k ids (AllPairs-tail (λ i j. i ≢ j) i ids h)

-- what is in the store stands in the table
pub standing_alive : (m : Store) (h : Entries) (s : Subst) (at : ℕ → Option Atom) (stale : Bool) → Agrees m h s at stale → (i : ℕ) → is_alive m i ≡ true → at i ≡ None → ⊥
standing_alive m h s at stale agrees i alive e = by (atom_of m.rows i) alive (sym (agrees.shown i) ∙ ap (under s) e)
  where
    by : (o : Option Atom) → is_some o ≡ true → under s o ≡ None → ⊥
    by None some e = true≢false (sym some)
    by (Some a) some e = apart (resolved_atom s a) e
      where
        apart : (x : Atom) → ◌≡◌ {A = Option Atom} (Some x) None → ⊥
        apart x e = cc

module _ {A : Type 0} where
  reversed : (ls : List (Leaving A)) (x : Leaving A) → reverse (ls ++ x ∷ []) ≡ x ∷ reverse ls
  reversed ls x = reverse-append ls (x ∷ [])

  pub pushed_ids : (ls : List (Leaving A)) (x : Leaving A) → leaving_ids (ls ++ x ∷ []) ≡ x.id.0 ∷ leaving_ids ls
  pushed_ids ls x = ap (map (λ (l : Leaving A). l.id.0)) (reversed ls x)

  pub pushed_standing : (at : ℕ → Option Atom) (ls : List (Leaving A)) (x : Leaving A) → at x.id.0 ≡ Some (row_atom x.row) → AreStanding at (reverse ls) → AreStanding at (reverse (ls ++ x ∷ []))
  pushed_standing at ls x here h = subst (AreStanding at) (sym (reversed ls x)) (here, h)

  -- without the constraint of another identity
  pub standing_without : (at new : ℕ → Option Atom) (i : ℕ) (ls : List (Leaving A)) → ((j : ℕ) → new j ≡ atoms_with at i None j) → All (λ j. i ≢ j) (map (λ (l : Leaving A). l.id.0) ls) → AreStanding at ls → AreStanding new ls
  standing_without at new i [] same d h = tt
  standing_without at new i (l ∷ ls) same d h =
      let other : i ≢ l.id.0 = All-head (λ j. i ≢ j) l.id.0 (map (λ (l : Leaving A). l.id.0) ls) d in
      (same l.id.0 ∙ (ap (λ (b : Bool). cond b None (at l.id.0)) (ne_eqb l.id.0 i (λ e. other (sym e))) ∙ h.0), standing_without at new i ls same (All-tail (λ j. i ≢ j) l.id.0 (map (λ (l : Leaving A). l.id.0) ls) d) h.1)

  -- the last one is taken off
  module _ (all left : List (Leaving A)) (x : Leaving A) (is : all ≡ left ++ x ∷ []) where
    pub popped_ids : leaving_ids all ≡ x.id.0 ∷ leaving_ids left
    popped_ids = ap leaving_ids is ∙ pushed_ids left x

    pub one_more : length all ≡ length left + 1
    one_more = ap length is ∙ length-append left (x ∷ [])

    pub first_standing : (at : ℕ → Option Atom) → AreStanding at (reverse all) → (at x.id.0 ≡ Some (row_atom x.row)) × AreStanding at (reverse left)
    first_standing at h = subst (AreStanding at) (ap reverse is ∙ reversed left x) h

    pub first_different : AllPairs (λ i j. i ≢ j) (leaving_ids all) → All (λ j. x.id.0 ≢ j) (leaving_ids left) × AllPairs (λ i j. i ≢ j) (leaving_ids left)
    first_different h =
        let pairs = subst (AllPairs (λ i j. i ≢ j)) popped_ids h in
        (AllPairs-head (λ i j. i ≢ j) x.id.0 (leaving_ids left) pairs, AllPairs-tail (λ i j. i ≢ j) x.id.0 (leaving_ids left) pairs)

-- a removal is one change at most
pub changes_removed : (m : Store) (i : ℕ) → (removed m i).changes ≤ m.changes + 1
changes_removed m i = by (atom_of m.rows i)
  where
    by : (o : Option Atom) → (removed_as m i o).changes ≤ m.changes + 1
    by None = omega arith
    by (Some a) = omega arith

-- the end of a list of identities
drop_past : (k : ℕ) (ids : List ℕ) → length ids ≤ k → drop k ids ≡ []
drop_past zero [] h = refl
drop_past zero (i ∷ ids) h = absurd (omega (arith, h))
drop_past (suc k) [] h = refl
drop_past (suc k) (i ∷ ids) h = drop_past k ids (omega (arith, h))

pub drop_least : (k n : ℕ) (ids : List ℕ) → n ≡ min k (length ids) → drop n ids ≡ drop k ids
drop_least k n ids e = by (nat_lt k (length ids)) refl
  where
    by : (b : Bool) → nat_lt k (length ids) ≡ b → drop n ids ≡ drop k ids
    by true lt = let same : n ≡ k = grind (arith, e, lt) in ap (λ (m : ℕ). drop m ids) same
    by false ge =
        let same : n ≡ length ids = grind (arith, e, ge) in
        let past : length ids ≤ k = grind (arith, ge) in
        drop_past n ids (omega (arith, same)) ∙ sym (drop_past k ids past)

-- of a number of constraints no more than that leave
pub few_leave : {A : Type 0} (ls : List (Leaving A)) (ids : List ℕ) (k : ℕ) → leaving_ids ls ≡ drop k ids → length ids ≤ MAX_HEADS → length ls ≤ MAX_HEADS
few_leave ls ids k is few =
    let all : length (leaving_ids ls) ≡ length ls = length-map (reverse ls) (λ (l : Leaving _). l.id.0) ∙ length-reverse ls in
    omega (arith, all, ap length is, length-drop k ids, few)

-- in a table that shows the same
pub standing_same : {A : Type 0} (at new : ℕ → Option Atom) (ls : List (Leaving A)) → ((j : ℕ) → new j ≡ at j) → AreStanding at ls → AreStanding new ls
standing_same at new [] same h = tt
standing_same at new (l ∷ ls) same h = (same l.id.0 ∙ h.0, standing_same at new ls same h.1)
