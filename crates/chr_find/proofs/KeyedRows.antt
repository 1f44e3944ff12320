-- The rows of a symbol and a key.
use Rattle.std.proofs.Common.{◌≡◌, ◌∙◌, ◌==◌, ◌||◌, ℕ, Bool, true, false, cond, List, [], ◌∷◌, ap, refl, sym}
use Rattle.std.proofs.lemmas.Bool.Decides.{Decides-eqb}
use Rattle.std.specs.List.Sorted.{IsStrictlyIncreasing}
use Rattle.std.specs.Prelude.{Option, Some, filter}
use Rattle.chr_keys.specs.Keyed.{is_keyed}
use Rattle.chr_semantics.specs.Keys as keys
use Rattle.chr_semantics.specs.Keys.{rows_keyed}
use Rattle.chr_semantics.specs.Match.{Row}
use Rattle.chr_semantics.specs.Search.{atom_of, has_number, ids_of}
use Rattle.chr_semantics.proofs.Tests.{eqb_sym}
use Rattle.chr_find.specs.LentKeysView.{is_keyed_at}
use Rattle.chr_find.specs.Shown.{AllOver, Rises}
use Rattle.chr_find.proofs.SameNumbers.{Over, Up, not_over, same_from_up}

module _ (f : ℕ) (k : Option keys.Key) where
  kept_over : (n : ℕ) (rows : List Row) → AllOver n rows → Over n (rows_keyed rows f k)
  kept_over n [] over = tt
  kept_over n (c ∷ rows) over = by_test (is_keyed c.1 f k) (kept_over n rows over.1)
    where
      by_test : (b : Bool) → Over n (rows_keyed rows f k) → Over n (ids_of (cond b (c ∷ filter (λ d. is_keyed d.1 f k) rows) (filter (λ d. is_keyed d.1 f k) rows)))
      by_test true go = (over.0, go)
      by_test false go = go

  kept_up : (rows : List Row) → Rises rows → Up (rows_keyed rows f k)
  kept_up [] up = tt
  kept_up (c ∷ rows) up = by_test (is_keyed c.1 f k) (kept_up rows up.1)
    where
      by_test : (b : Bool) → Up (rows_keyed rows f k) → Up (ids_of (cond b (c ∷ filter (λ d. is_keyed d.1 f k) rows) (filter (λ d. is_keyed d.1 f k) rows)))
      by_test true go = (kept_over c.0 rows up.0, go)
      by_test false go = go

  -- an identity is among them where its constraint is of the symbol and the key
  has_keyed : (rows : List Row) → Rises rows → (i : ℕ) → has_number (rows_keyed rows f k) i ≡ is_keyed_at (atom_of rows i) f k
  has_keyed [] up i = refl
  has_keyed (c ∷ rows) up i = by_test (is_keyed c.1 f k) (c.0 == i) (i == c.0) (eqb_sym c.0 i) refl refl (has_keyed rows up.1 i)
    where
      gone : i ≡ c.0 → has_number (rows_keyed rows f k) i ≡ false
      gone e = ap (has_number (rows_keyed rows f k)) e ∙ not_over c.0 (rows_keyed rows f k) (kept_over c.0 rows up.0)

      by_test : (b s t : Bool) → s ≡ t → is_keyed c.1 f k ≡ b → (i == c.0) ≡ t → has_number (rows_keyed rows f k) i ≡ is_keyed_at (atom_of rows i) f k
          → has_number (ids_of (cond b (c ∷ filter (λ d. is_keyed d.1 f k) rows) (filter (λ d. is_keyed d.1 f k) rows))) i ≡ is_keyed_at (cond s (Some c.1) (atom_of rows i)) f k
      by_test true true t same keyed here go = ap (λ (b : Bool). b || has_number (rows_keyed rows f k) i) (here ∙ sym same) ∙ sym keyed
      by_test true false t same keyed here go = ap (λ (b : Bool). b || has_number (rows_keyed rows f k) i) (here ∙ sym same) ∙ go
      by_test false true t same keyed here go = gone ((Decides-eqb i c.0).0 (here ∙ sym same)) ∙ sym keyed
      by_test false false t same keyed here go = go

  -- they are the ascending list that has these identities
  pub rows_keyed_are : (rows : List Row) → Rises rows → (ids : List ℕ) → IsStrictlyIncreasing ids → ((i : ℕ) → has_number ids i ≡ is_keyed_at (atom_of rows i) f k) → ids ≡ rows_keyed rows f k
  rows_keyed_are rows up ids ascending has = same_from_up ids (rows_keyed rows f k) ascending (kept_up rows up) (λ i. has i ∙ sym (has_keyed rows up i))
