-- Slots and the rows in them.
use Rattle.std.proofs.Common.{◌≡◌, ◌∙◌, ℕ, zero, suc, ◌+◌, ◌<◌, ◌≤◌, ◌++◌, List, [], ◌∷◌, length, refl, ap, sym, arith, true, false, ◌==◌, get_or, slice_set, Option, Some, None, option_map, add-zero}
use Rattle.std.specs.Option.{option_copied}
use Rattle.std.specs.Borrow.{Bor}
use Rattle.chr_semantics.specs.Footprint.{Ascends}
use Rattle.chr_semantics.specs.Search.{atom_of}
use Rattle.chr_semantics.proofs.Lookups.{Ascends-below}
use Rattle.chr_store.specs.Rows.{row_atom, rows_from, rows_without}
use Rattle.chr_store.specs.declared.row.Row.{Row}
use Rattle.std.proofs.lemmas.Bool.{eq-eqb}

-- one more slot
pub rows_from-put : {A : Type 0} (k : ℕ) (slots : List (Option (Row A))) (r : Row A) → rows_from k (slots ++ Some r ∷ []) ≡ rows_from k slots ++ (k + length slots, row_atom r) ∷ []
rows_from-put k [] r = rw add-zero
rows_from-put k (None ∷ slots) r =
    let e : (k + 1) + length slots ≡ k + suc (length slots) = omega arith in
    rows_from-put (k + 1) slots r ∙ rw e
rows_from-put k (Some q ∷ slots) r =
    let e : (k + 1) + length slots ≡ k + suc (length slots) = omega arith in
    ap (λ rows. (k, row_atom q) ∷ rows) (rows_from-put (k + 1) slots r ∙ rw e)

-- the rows ascend, from the first slot's identity to the next one
pub Ascends-rows : {A : Type 0} (k : ℕ) (slots : List (Option (Row A))) → Ascends k (rows_from k slots) (k + length slots)
Ascends-rows k [] = omega arith
Ascends-rows k (None ∷ slots) = let e : (k + 1) + length slots ≡ k + suc (length slots) = omega arith in Ascends-below k (k + 1) (k + suc (length slots)) _ (omega arith) (rw (← e) (Ascends-rows (k + 1) slots))
Ascends-rows k (Some r ∷ slots) = let e : (k + 1) + length slots ≡ k + suc (length slots) = omega arith in (omega arith, rw (← e) (Ascends-rows (k + 1) slots))

test_below : (k i : ℕ) → i < k → (k == i) ≡ false
test_below k i h = grind arith

test_past : (k i : ℕ) → k < i → (k == i) ≡ false
test_past k i h = grind arith

-- no identity below the first
pub atom_of-below : {A : Type 0} (k i : ℕ) (slots : List (Option (Row A))) → i < k → atom_of (rows_from k slots) i ≡ None
atom_of-below k i [] h = refl
atom_of-below k i (None ∷ slots) h = atom_of-below (k + 1) i slots (omega (arith, h))
atom_of-below k i (Some r ∷ slots) h = rw (test_below k i h) (atom_of-below (k + 1) i slots (omega (arith, h)))

-- the constraint in the j-th slot
pub atom_of-slot : {A : Type 0} (k j i : ℕ) (slots : List (Option (Row A))) (d : Option (Row A)) → i ≡ k + j → j < length slots → atom_of (rows_from k slots) i ≡ option_map row_atom (get_or slots j d)
atom_of-slot k j i [] d e h = absurd (omega (arith, h))
atom_of-slot k zero i (None ∷ slots) d e h = atom_of-below (k + 1) i slots (omega (arith, e))
atom_of-slot k zero i (Some r ∷ slots) d e h = rw (eq-eqb k i (omega (arith, e)))
atom_of-slot k (suc j) i (None ∷ slots) d e h = atom_of-slot (k + 1) j i slots d (omega (arith, e)) (omega (arith, h))
atom_of-slot k (suc j) i (Some r ∷ slots) d e h =
    rw (test_past k i (omega (arith, e))) (atom_of-slot (k + 1) j i slots d (omega (arith, e)) (omega (arith, h)))

-- a reference to what a slot holds
pub atom-copied : {A : Type 0} (o : Option (Bor (Row A))) (v : Option (Row A)) → option_copied o ≡ v → option_map (λ (r : Bor (Row A)). row_atom r.now) o ≡ option_map row_atom v
atom-copied None v e = rw (← e)
atom-copied (Some r) v e = rw (← e)

-- no identity past the last
pub atom_of-past : {A : Type 0} (k i : ℕ) (slots : List (Option (Row A))) → k + length slots ≤ i → atom_of (rows_from k slots) i ≡ None
atom_of-past k i [] h = refl
atom_of-past k i (None ∷ slots) h = atom_of-past (k + 1) i slots (omega (arith, h))
atom_of-past k i (Some r ∷ slots) h = rw (test_past k i (omega (arith, h))) (atom_of-past (k + 1) i slots (omega (arith, h)))

-- a filter that takes out an identity that is not there
pub without-below : {A : Type 0} (k i : ℕ) (slots : List (Option (Row A))) → i < k → rows_without i (rows_from k slots) ≡ rows_from k slots
without-below k i [] h = refl
without-below k i (None ∷ slots) h = without-below (k + 1) i slots (omega (arith, h))
without-below k i (Some r ∷ slots) h = rw (test_below k i h) (ap (λ rows. (k, row_atom r) ∷ rows) (without-below (k + 1) i slots (omega (arith, h))))

pub without-past : {A : Type 0} (k i : ℕ) (slots : List (Option (Row A))) → k + length slots ≤ i → rows_without i (rows_from k slots) ≡ rows_from k slots
without-past k i [] h = refl
without-past k i (None ∷ slots) h = without-past (k + 1) i slots (omega (arith, h))
without-past k i (Some r ∷ slots) h = rw (test_past k i (omega (arith, h))) (ap (λ rows. (k, row_atom r) ∷ rows) (without-past (k + 1) i slots (omega (arith, h))))

-- emptying the j-th slot takes its identity out
pub rows_from-emptied : {A : Type 0} (k j i : ℕ) (slots : List (Option (Row A))) → i ≡ k + j → j < length slots → rows_from k (slice_set slots j None) ≡ rows_without i (rows_from k slots)
rows_from-emptied k j i [] e h = absurd (omega (arith, h))
rows_from-emptied k zero i (None ∷ slots) e h = sym (without-below (k + 1) i slots (omega (arith, e)))
rows_from-emptied k zero i (Some r ∷ slots) e h = rw (eq-eqb k i (omega (arith, e))) (sym (without-below (k + 1) i slots (omega (arith, e))))
rows_from-emptied k (suc j) i (None ∷ slots) e h = rows_from-emptied (k + 1) j i slots (omega (arith, e)) (omega (arith, h))
rows_from-emptied k (suc j) i (Some r ∷ slots) e h =
    rw (test_past k i (omega (arith, e))) (ap (λ rows. (k, row_atom r) ∷ rows) (rows_from-emptied (k + 1) j i slots (omega (arith, e)) (omega (arith, h))))
