-- The entries of a list by number, after one was written or the list was filled up.
use Rattle.std.proofs.Common.{◌≡◌, ◌∙◌, ℕ, zero, suc, ◌<◌, ◌==◌, ◌≢◌, ◌++◌, Bool, true, false, true≢false, if◌then◌else◌, List, [], ◌∷◌, Option, Some, None, Result, Ok, Err, is_ok, ◌≤◌, length, get_or, replicate, slice_set, take, refl, ap, sym, arith}
use Rattle.std.specs.Prelude.{slice_get}
use Rattle.std.proofs.lemmas.Bool.Decides.{Decides-eqb}
use Rattle.std.proofs.lemmas.List.{take_all}
use Rattle.std.proofs.lemmas.Option.{slice_get_past, slice_get_read}

module _ {X : Type 0} where
  -- an entry that was read
  pub read : (xs : List X) (n m : ℕ) (x : X) → n < length xs → x ≡ get_or xs n x → n ≡ m → slice_get xs m ≡ Some x
  read xs n m x inside is e = ap (slice_get xs) (sym e) ∙ slice_get_read xs (length xs) n x refl inside is

  -- the entry that was written
  pub slice_get-set_same : (xs : List X) (n m : ℕ) (y : X) → n < length xs → n ≡ m → slice_get (slice_set xs n y) m ≡ Some y
  slice_get-set_same [] n m y inside e = absurd (omega (arith, inside))
  slice_get-set_same (x ∷ xs) zero zero y inside e = refl
  slice_get-set_same (x ∷ xs) zero (suc m) y inside e = absurd (omega (arith, e))
  slice_get-set_same (x ∷ xs) (suc n) zero y inside e = absurd (omega (arith, e))
  slice_get-set_same (x ∷ xs) (suc n) (suc m) y inside e = slice_get-set_same xs n m y (omega (arith, inside)) (omega (arith, e))

  -- an entry that was not written
  slice_get-set_other : (xs : List X) (n m : ℕ) (y : X) → n ≢ m → slice_get (slice_set xs n y) m ≡ slice_get xs m
  slice_get-set_other [] n m y e = refl
  slice_get-set_other (x ∷ xs) zero zero y e = absurd (e refl)
  slice_get-set_other (x ∷ xs) zero (suc m) y e = refl
  slice_get-set_other (x ∷ xs) (suc n) zero y e = refl
  slice_get-set_other (x ∷ xs) (suc n) (suc m) y e = slice_get-set_other xs n m y (λ h. e (ap suc h))

  -- what holds of the entry that was written and of those that stay holds of each
  pub at_each : (P : Bool → Option X → Option X → Type 0) (xs : List X) (n m : ℕ) (old new : X) → n < length xs → old ≡ get_or xs n old → P true (Some old) (Some new) → ((o : Option X) → P false o o)
      → P (n == m) (slice_get xs m) (slice_get (slice_set xs n new) m)
  at_each P xs n m old new inside is written stays = by_test (n == m) refl
    where
      apart : (n == m) ≡ false → n ≢ m
      apart e h = true≢false (sym ((Decides-eqb n m).1 h) ∙ e)

      by_test : (b : Bool) → (n == m) ≡ b → P b (slice_get xs m) (slice_get (slice_set xs n new) m)
      by_test true e = let same : n ≡ m = (Decides-eqb n m).0 e in rw (read xs n m old inside is same, slice_get-set_same xs n m new inside same) written
      by_test false e = rw (slice_get-set_other xs n m new (apart e)) (stays (slice_get xs m))

  -- the same where there is no such entry
  pub at_missing : (P : Bool → Option X → Option X → Type 0) (xs : List X) (n m : ℕ) → length xs ≤ n → P true None None → ((o : Option X) → P false o o) → P (n == m) (slice_get xs m) (slice_get xs m)
  at_missing P xs n m past missing stays = by_test (n == m) refl
    where
      by_test : (b : Bool) → (n == m) ≡ b → P b (slice_get xs m) (slice_get xs m)
      by_test true e = let same : n ≡ m = (Decides-eqb n m).0 e in rw (slice_get_past xs m (omega (arith, same, past))) missing
      by_test false e = stays (slice_get xs m)

  -- what holds of the entries that stay, and of one in place of none, holds of each where a list is filled up
  pub at_filled : (P : Option X → Option X → Type 0) (xs : List X) (k m : ℕ) (x : X) → ((o : Option X) → P o o) → P None (Some x) → P (slice_get xs m) (slice_get (xs ++ replicate k x) m)
  at_filled P [] zero m x stays filled = stays None
  at_filled P [] (suc k) zero x stays filled = filled
  at_filled P [] (suc k) (suc m) x stays filled = at_filled P [] k m x stays filled
  at_filled P (y ∷ ys) k zero x stays filled = stays (Some y)
  at_filled P (y ∷ ys) k (suc m) x stays filled = at_filled P ys k m x stays filled

  -- the same where that may be refused
  pub at_resized : {T E : Type 0} (P : Option X → Option X → Type 0) (r : Result T E) (old new : List X) (n k m : ℕ) (x : X) → length old ≤ n → new ≡ (if is_ok r then take n old ++ replicate k x else old)
      → ((o : Option X) → P o o) → P None (Some x) → P (slice_get old m) (slice_get new m)
  at_resized P (Ok t) old new n k m x longer is stays filled = rw (is, take_all n old longer) (at_filled P old k m x stays filled)
  at_resized P (Err e) old new n k m x longer is stays filled = rw is (stays (slice_get old m))
