-- Identities are compared and hashed as their numbers are.
use Rattle.std.proofs.Common.{◌≡◌, ◌&&◌, ◌++◌, List, [], ◌∷◌, ap, length, nat_eq, refl, suc}
use Rattle.std.specs.List.{flat_map}
use Rattle.std.specs.Hash as fed
use Rattle.std.specs.Cmp.Lexicographic.{pointwise, slice_cmp}
use Rattle.std.specs.Ordering.{nat_cmp, ordering_then}
use Rattle.chr_store.specs.Numbers.{numbers}
use Rattle.chr_store.specs.contracts.id.IdHash.TheImpl.{ghosts as hashing}
use Rattle.chr_store.specs.contracts.id.IdOrd.TheImpl.{ghosts}
use Rattle.chr_store.specs.contracts.id.IdPartialEq.TheImpl.{ghosts as equality}
use Rattle.chr_store.specs.declared.id.Id.{Id}

pub equal_as : (xs ys : List Id) → pointwise equality.eq xs ys ≡ pointwise nat_eq (numbers xs) (numbers ys)
equal_as [] [] = refl
equal_as [] (y ∷ ys) = refl
equal_as (x ∷ xs) [] = refl
equal_as (x ∷ xs) (y ∷ ys) = λ i. nat_eq x.0 y.0 && equal_as xs ys i

pub ordered_as : (xs ys : List Id) → slice_cmp ghosts.cmp xs ys ≡ slice_cmp nat_cmp (numbers xs) (numbers ys)
ordered_as [] [] = refl
ordered_as [] (y ∷ ys) = refl
ordered_as (x ∷ xs) [] = refl
ordered_as (x ∷ xs) (y ∷ ys) = λ i. ordering_then (nat_cmp x.0 y.0) (ordered_as xs ys i)

same_length : (xs : List Id) → length xs ≡ length (numbers xs)
same_length [] = refl
same_length (x ∷ xs) = ap suc (same_length xs)

each_fed : (xs : List Id) → flat_map hashing.hash_input xs ≡ flat_map fed.u64 (numbers xs)
each_fed [] = refl
each_fed (x ∷ xs) = λ i. fed.u64 x.0 ++ each_fed xs i

pub fed_as : (xs : List Id) → fed.slice hashing.hash_input xs ≡ fed.slice fed.u64 (numbers xs)
fed_as xs = λ i. fed.usize (same_length xs i) ++ each_fed xs i
