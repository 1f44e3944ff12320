-- Look-ups of identities in a store, and in its resolved rows.
use Rattle.std.proofs.Common.{Bool, List, None, Option, Some, [], ap, arith, cond, false, map, refl, sym, true, true≢false, ℕ, ◌++◌, ◌+◌, ◌<◌, ◌==◌, ◌∙◌, ◌∷◌, ◌≡◌, ◌≤◌}
use Rattle.std.proofs.lemmas.Bool.Decides.{Decides-eqb}
use Rattle.std.specs.Prelude.{filter}
use Rattle.chr_semantics.specs.Footprint.{Ascends}
use Rattle.chr_semantics.specs.Match.{Row}
use Rattle.chr_semantics.specs.Program.{Atom}
use Rattle.chr_semantics.specs.Search.{atom_of}
use Rattle.chr_semantics.specs.State.{resolved_atom}
use Rattle.chr_semantics.specs.Subst.{Subst}

-- the row under a substitution
abbrev pub resolved_row : Subst → Row → Row
resolved_row s r = (r.0, resolved_atom s r.1)

-- the symbol of the row is kept
abbrev pub of_kept : (ℕ → Bool) → Row → Bool
of_kept keep r = keep r.1.sym

-- ascending identities: from a lower one on, in a part, with one more, resolved, and at their end
pub Ascends-below : (lo lo' hi : ℕ) (xs : List Row) → lo ≤ lo' → Ascends lo' xs hi → Ascends lo xs hi
Ascends-below lo lo' hi [] h k = omega (arith, h, k)
Ascends-below lo lo' hi (x ∷ xs) h k = let l : lo' ≤ x.0 = k.0 in (omega (arith, h, l), k.1)

filter_at : (b : Bool) (lo hi : ℕ) (x : Row) (xs : List Row) → lo ≤ x.0 → Ascends (x.0 + 1) xs hi → Ascends lo (cond b (x ∷ xs) xs) hi
filter_at true lo hi x xs h k = (h, k)
filter_at false lo hi x xs h k = Ascends-below lo (x.0 + 1) hi xs (omega (arith, h)) k

pub Ascends-filter : (test : Row → Bool) (lo hi : ℕ) (xs : List Row) → Ascends lo xs hi → Ascends lo (filter test xs) hi
Ascends-filter test lo hi [] h = h
Ascends-filter test lo hi (x ∷ xs) h = filter_at (test x) lo hi x (filter test xs) h.0 (Ascends-filter test (x.0 + 1) hi xs h.1)

pub Ascends-push : (lo hi : ℕ) (xs : List Row) (a : Atom) → Ascends lo xs hi → Ascends lo (xs ++ (hi, a) ∷ []) (hi + 1)
Ascends-push lo hi [] a h = (h, omega arith)
Ascends-push lo hi (x ∷ xs) a h = (h.0, Ascends-push (x.0 + 1) hi xs a h.1)

pub Ascends-resolved : (s : Subst) (lo hi : ℕ) (xs : List Row) → Ascends lo xs hi → Ascends lo (map (resolved_row s) xs) hi
Ascends-resolved s lo hi [] h = h
Ascends-resolved s lo hi (x ∷ xs) h = (h.0, Ascends-resolved s (x.0 + 1) hi xs h.1)

pub Ascends-ends : (lo hi : ℕ) (ys : List Row) → Ascends lo ys hi → lo ≤ hi
Ascends-ends lo hi [] k = k
Ascends-ends lo hi (y ∷ ys) k = let l : lo ≤ y.0 = k.0 in let m : y.0 + 1 ≤ hi = Ascends-ends (y.0 + 1) hi ys k.1 in omega (arith, l, m)

-- identities and look-ups
cut_at : (b c : Bool) (x : Row) (xs ys : List Row) (i : ℕ) (a : Atom) → (x.0 == i) ≡ b → atom_of (cond c (x ∷ ys) ys) i ≡ Some a → (b ≡ true → atom_of ys i ≡ None) → (atom_of ys i ≡ Some a → atom_of xs i ≡ Some a) → cond b (Some x.1) (atom_of xs i) ≡ Some a
cut_at true true x xs ys i a is e none h = rw is at e
cut_at true false x xs ys i a is e none h = let n = none refl in cc
cut_at false true x xs ys i a is e none h = h (rw is at e)
cut_at false false x xs ys i a is e none h = h e

above_at : (b : Bool) (i : ℕ) (x : Row) (m : Option Atom) → (x.0 == i) ≡ b → i < x.0 → m ≡ None → cond b (Some x.1) m ≡ None
above_at true i x m is h e = let same : x.0 ≡ i = (Decides-eqb x.0 i).0 is in absurd (omega (arith, h, same))
above_at false i x m is h e = e

-- an identity below all others is not found
pub atom_above : (lo hi i : ℕ) (xs : List Row) → i < lo → Ascends lo xs hi → atom_of xs i ≡ None
atom_above lo hi i [] h k = refl
atom_above lo hi i (x ∷ xs) h k = let l : lo ≤ x.0 = k.0 in above_at (x.0 == i) i x (atom_of xs i) refl (omega (arith, h, l)) (atom_above (x.0 + 1) hi i xs (omega (arith, h, l)) k.1)

-- what is found in a part is what is found in the whole
pub atom_of_part : (test : Row → Bool) (lo hi : ℕ) (xs : List Row) (i : ℕ) (a : Atom) → Ascends lo xs hi → atom_of (filter test xs) i ≡ Some a → atom_of xs i ≡ Some a
atom_of_part test lo hi [] i a h e = e
atom_of_part test lo hi (x ∷ xs) i a h e =
    cut_at (x.0 == i) (test x) x xs (filter test xs) i a refl e
    (λ is. let same : x.0 ≡ i = (Decides-eqb x.0 i).0 is in atom_above (x.0 + 1) hi i (filter test xs) (omega (arith, same)) (Ascends-filter test (x.0 + 1) hi xs h.1))
    (atom_of_part test (x.0 + 1) hi xs i a h.1)

before_at : (b : Bool) (y : Option Atom) (m l : Option Atom) (a : Atom) → cond b y m ≡ Some a → (m ≡ Some a → l ≡ Some a) → cond b y l ≡ Some a
before_at true y m l a e h = e
before_at false y m l a e h = h e

other_at : (b : Bool) (n i : ℕ) (c a : Atom) (m : Option Atom) → (n == i) ≡ b → i < n → cond b (Some c) m ≡ Some a → m ≡ Some a
other_at true n i c a m is h e = let same : n ≡ i = (Decides-eqb n i).0 is in absurd (omega (arith, same, h))
other_at false n i c a m is h e = e

-- a constraint at the end hides no other
pub atom_before : (n i : ℕ) (c a : Atom) (xs : List Row) → i < n → atom_of (xs ++ (n, c) ∷ []) i ≡ Some a → atom_of xs i ≡ Some a
atom_before n i c a [] h e = other_at (n == i) n i c a None refl h e
atom_before n i c a (x ∷ xs) h e = before_at (x.0 == i) (Some x.1) (atom_of (xs ++ (n, c) ∷ []) i) (atom_of xs i) a e (atom_before n i c a xs h)

last_at : (b : Bool) (n : ℕ) (x : Row) (m : Option Atom) (c a : Atom) → (x.0 == n) ≡ b → x.0 < n → cond b (Some x.1) m ≡ Some a → (m ≡ Some a → a ≡ c) → a ≡ c
last_at true n x m c a is h e k = let same : x.0 ≡ n = (Decides-eqb x.0 n).0 is in absurd (omega (arith, same, h))
last_at false n x m c a is h e k = k e

only_at : (b : Bool) (c a : Atom) → cond b (Some c) None ≡ Some a → a ≡ c
only_at true c a e = cc
only_at false c a e = cc

-- the constraint at the end is found
pub atom_last : (lo n : ℕ) (c a : Atom) (xs : List Row) → Ascends lo xs n → atom_of (xs ++ (n, c) ∷ []) n ≡ Some a → a ≡ c
atom_last lo n c a [] h e = only_at (n == n) c a e
atom_last lo n c a (x ∷ xs) h e =
    let l : x.0 + 1 ≤ n = Ascends-ends (x.0 + 1) n xs h.1 in
    last_at (x.0 == n) n x (atom_of (xs ++ (n, c) ∷ []) n) c a refl (omega (arith, l)) e (atom_last (x.0 + 1) n c a xs h.1)

-- look-ups of rows
resolved_at : (b : Bool) (s : Subst) (a : Atom) (m : Option Atom) (n : Option Atom) (c : Atom) → cond b (Some a) m ≡ Some c → (m ≡ Some c → n ≡ Some (resolved_atom s c)) → cond b (Some (resolved_atom s a)) n ≡ Some (resolved_atom s c)
resolved_at true s a m n c e h = let same : a ≡ c = cc in ap (λ (x : Atom). Some (resolved_atom s x)) same
resolved_at false s a m n c e h = h e

-- what is found is found in the resolved rows
pub atom_resolved : (s : Subst) (xs : List Row) (i : ℕ) (a : Atom) → atom_of xs i ≡ Some a → atom_of (map (resolved_row s) xs) i ≡ Some (resolved_atom s a)
atom_resolved s [] i a e = cc
atom_resolved s (x ∷ xs) i a e = resolved_at (x.0 == i) s x.1 (atom_of xs i) (atom_of (map (resolved_row s) xs) i) a e (atom_resolved s xs i a)

kept_at : (b k : Bool) (keep : ℕ → Bool) (x : Row) (xs : List Row) (i : ℕ) (a : Atom) → (x.0 == i) ≡ b → keep x.1.sym ≡ k → keep a.sym ≡ true → cond b (Some x.1) (atom_of xs i) ≡ Some a → (atom_of xs i ≡ Some a → atom_of (filter (of_kept keep) xs) i ≡ Some a)
    → atom_of (cond k (x ∷ filter (of_kept keep) xs) (filter (of_kept keep) xs)) i ≡ Some a
kept_at true true keep x xs i a is ks ka e h = rw is e
kept_at true false keep x xs i a is ks ka e h = let same : x.1 ≡ a = cc in absurd (true≢false (sym ka ∙ ap (λ (y : Atom). keep y.sym) (sym same) ∙ ks))
kept_at false true keep x xs i a is ks ka e h = rw is (h e)
kept_at false false keep x xs i a is ks ka e h = h e

-- a kept row is found among the kept ones
pub atom_kept : (keep : ℕ → Bool) (xs : List Row) (i : ℕ) (a : Atom) → keep a.sym ≡ true → atom_of xs i ≡ Some a → atom_of (filter (of_kept keep) xs) i ≡ Some a
atom_kept keep [] i a k e = e
atom_kept keep (x ∷ xs) i a k e = kept_at (x.0 == i) (keep x.1.sym) keep x xs i a refl refl k e (atom_kept keep xs i a k)
