-- Links that are changed at one place.
use Rattle.std.proofs.Common.{◌≡◌, ◌≢◌, ℕ, zero, suc, ◌+◌, ◌<◌, ◌≤◌, Some, List, [], ◌∷◌, ◌++◌, length, slice_get, set, ap, refl, sym, ◌∙◌, arith}
use Rattle.chr_bind.specs.Chains.{free_count, free_one, links_before}
use Rattle.chr_bind.specs.declared.chains.Link.{Link}

pub slice_get-set_same : {A : Type 0} (xs : List A) (i : ℕ) (a : A) → i < length xs → slice_get (set xs i a) i ≡ Some a
slice_get-set_same [] i a h = absurd (omega arith)
slice_get-set_same (x ∷ xs) zero a h = refl
slice_get-set_same (x ∷ xs) (suc i) a h = slice_get-set_same xs i a (omega arith)

pub slice_get-set_other : {A : Type 0} (xs : List A) (i j : ℕ) (a : A) → j ≢ i → slice_get (set xs i a) j ≡ slice_get xs j
slice_get-set_other [] i j a h = refl
slice_get-set_other (x ∷ xs) zero zero a h = absurd (h refl)
slice_get-set_other (x ∷ xs) zero (suc j) a h = refl
slice_get-set_other (x ∷ xs) (suc i) zero a h = refl
slice_get-set_other (x ∷ xs) (suc i) (suc j) a h = slice_get-set_other xs i j a (λ e. h (ap suc e))

pub slice_get-last : {A : Type 0} (xs : List A) (a : A) → slice_get (xs ++ a ∷ []) (length xs) ≡ Some a
slice_get-last [] a = refl
slice_get-last (x ∷ xs) a = slice_get-last xs a

pub slice_get-before : {A : Type 0} (xs : List A) (i : ℕ) (a b : A) → slice_get xs i ≡ Some b → slice_get (xs ++ a ∷ []) i ≡ Some b
slice_get-before [] i a b h = cc
slice_get-before (x ∷ xs) zero a b h = h
slice_get-before (x ∷ xs) (suc i) a b h = slice_get-before xs i a b h

pub set_back : {A : Type 0} (xs : List A) (i : ℕ) (a b : A) → slice_get xs i ≡ Some b → set (set xs i a) i b ≡ xs
set_back [] i a b h = cc
set_back (x ∷ xs) zero a b h = let same : x ≡ b = cc in ap (λ y. y ∷ xs) (sym same)
set_back (x ∷ xs) (suc i) a b h = ap (λ ys. x ∷ ys) (set_back xs i a b h)

-- one change of a link changes the number of free ones by what the two links count
pub free_count-set : (ls : List Link) (i : ℕ) (l k : Link) → slice_get ls i ≡ Some k → free_count (set ls i l) + free_one k ≡ free_count ls + free_one l
free_count-set [] i l k h = cc
free_count-set (m ∷ ls) zero l k h = let same : m ≡ k = cc in let e = ap free_one same in omega (arith, e)
free_count-set (m ∷ ls) (suc i) l k h = let r = free_count-set ls i l k h in omega (arith, r)

-- undoing takes the last change back first
pub links_before-last : (es : List (ℕ × Link)) (e : ℕ × Link) (links : List Link) → links_before (es ++ e ∷ []) links ≡ links_before es (set links e.0 e.1)
links_before-last [] e links = refl
links_before-last (f ∷ es) e links = ap (λ ls. set ls f.0 f.1) (links_before-last es e links)

-- and all later changes before the earlier ones
pub links_before-append : (es fs : List (ℕ × Link)) (links : List Link) → links_before (es ++ fs) links ≡ links_before es (links_before fs links)
links_before-append [] fs links = refl
links_before-append (e ∷ es) fs links = ap (λ ls. set ls e.0 e.1) (links_before-append es fs links)

-- two changes that are undone
pub two_undone : (old mid new : List Link) (e f : ℕ × Link) → set mid e.0 e.1 ≡ old → set new f.0 f.1 ≡ mid → links_before (e ∷ f ∷ []) new ≡ old
two_undone old mid new e f first second = ap (λ ls. set ls e.0 e.1) second ∙ first

pub set_beyond : {A : Type 0} (xs : List A) (i : ℕ) (a : A) → length xs ≤ i → set xs i a ≡ xs
set_beyond [] i a h = refl
set_beyond (x ∷ xs) zero a h = absurd (omega arith)
set_beyond (x ∷ xs) (suc i) a h = ap (λ ys. x ∷ ys) (set_beyond xs i a (omega arith))
