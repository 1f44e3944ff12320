-- The order of matching.
use Rattle.std.proofs.Common.{◌≡◌, ℕ, zero, suc, ◌+◌, Bool, true, false, cond, ◌==◌, List, [], ◌∷◌, Option, Some, None, option_and_then, slice_get, ap, refl, ◌∙◌, sym, true≢false, arith}
use Rattle.std.specs.Prelude.{unwrap_or}
use Rattle.std.proofs.lemmas.Bool.{eqb-true}
use mathlib.Core.Path.{fun_ext}
use Rattle.chr_semantics.specs.Tree.{Tree, var}
use Rattle.chr_semantics.specs.Subst.{Subst, apply, value_at, instance}
use Rattle.chr_semantics.specs.Program.{Head, Test, identical, not_unifiable, compares, is_integer, is_ground}
use Rattle.chr_semantics.specs.Match.{Row, match_at, fit_atom, fit_rows, fits}
use Rattle.chr_semantics.specs.Guard.{entailed, all_entailed}
use Rattle.chr_semantics.specs.Join.{SameLookups, SameMatch, fit_others, fit_own_first, OrderLaw}
use Rattle.chr_semantics.proofs.Makes.{from_same, some_same, Extends, Extends-through, MakesAtom, MakesAtom-more, fit_atom_makes, fit_atom_least}
use Rattle.std.proofs.lemmas.Option.{none-some}

abbrev pub MakesRows : Subst → List Head → List Row → Type 0
MakesRows m [] [] = Unit {0}
MakesRows m [] (c ∷ t) = ⊥
MakesRows m (h ∷ hs) [] = ⊥
MakesRows m (h ∷ hs) (c ∷ t) = MakesAtom m h.atom c.1 × MakesRows m hs t

abbrev pub MakesOthers : Subst → ℕ → ℕ → List Head → List Row → Type 0
MakesOthers m place k [] [] = Unit {0}
MakesOthers m place k [] (c ∷ t) = ⊥
MakesOthers m place k (h ∷ hs) [] = ⊥
MakesOthers m place k (h ∷ hs) (c ∷ t) = ((k == place) ≡ false → MakesAtom m h.atom c.1) × MakesOthers m place (k + 1) hs t

-- in head order
fit_rows_next : (x : Head) (hs : List Head) (c : Row) (t : List Row) (m n : Subst) (o : Option Subst) → ((k : Subst) → fit_rows hs t k ≡ Some n → Extends k n × MakesRows n hs t)
    → fit_atom x.atom c.1 m ≡ o → option_and_then (fit_rows hs t) o ≡ Some n → Extends m n × MakesRows n (x ∷ hs) (c ∷ t)
fit_rows_next x hs c t m n None f is h = absurd (none-some n h)
fit_rows_next x hs c t m n (Some k) f is h =
    let a = fit_atom_makes x.atom c.1 m k is in
    let b = f k h in
    (Extends-through m k n a.0 b.0, (MakesAtom-more k n x.atom c.1 b.0 a.1, b.1))

pub fit_rows_makes : (hs : List Head) (t : List Row) (m n : Subst) → fit_rows hs t m ≡ Some n → Extends m n × MakesRows n hs t
fit_rows_makes [] [] m n h = (from_same m n (some_same m n h), tt)
fit_rows_makes [] (c ∷ t) m n h = absurd (none-some n h)
fit_rows_makes (x ∷ hs) [] m n h = absurd (none-some n h)
fit_rows_makes (x ∷ hs) (c ∷ t) m n h = fit_rows_next x hs c t m n (fit_atom x.atom c.1 m) (λ k is. fit_rows_makes hs t k n is) refl h

pub fit_rows_least : (hs : List Head) (t : List Row) (m k : Subst) → Extends m k → MakesRows k hs t → (n : Subst) × (fit_rows hs t m ≡ Some n) × Extends n k
fit_rows_least [] [] m k f h = (m, refl, f)
fit_rows_least [] (c ∷ t) m k f h = absurd h
fit_rows_least (x ∷ hs) [] m k f h = absurd h
fit_rows_least (x ∷ hs) (c ∷ t) m k f h =
    let a = fit_atom_least x.atom c.1 m k f h.0 in
    let b = fit_rows_least hs t a.0 k a.2 h.1 in
    (b.0, ap (option_and_then (fit_rows hs t)) a.1 ∙ b.1, b.2)

-- the others
fit_others_at : (b : Bool) (place k : ℕ) (x : Head) (hs : List Head) (c : Row) (t : List Row) (m n : Subst) (o : Option Subst) → ((l : Subst) → fit_others place (k + 1) hs t l ≡ Some n → Extends l n × MakesOthers n place (k + 1) hs t)
    → (k == place) ≡ b → fit_atom x.atom c.1 m ≡ o → cond b (fit_others place (k + 1) hs t m) (option_and_then (fit_others place (k + 1) hs t) o) ≡ Some n → Extends m n × MakesOthers n place k (x ∷ hs) (c ∷ t)
fit_others_at true place k x hs c t m n o f here is h =
    let b = f m h in
    (b.0, ((λ e. absurd (true≢false (sym here ∙ e))), b.1))
fit_others_at false place k x hs c t m n None f here is h = absurd (none-some n h)
fit_others_at false place k x hs c t m n (Some l) f here is h =
    let a = fit_atom_makes x.atom c.1 m l is in
    let b = f l h in
    (Extends-through m l n a.0 b.0, ((λ e. MakesAtom-more l n x.atom c.1 b.0 a.1), b.1))

pub fit_others_makes : (place k : ℕ) (hs : List Head) (t : List Row) (m n : Subst) → fit_others place k hs t m ≡ Some n → Extends m n × MakesOthers n place k hs t
fit_others_makes place k [] [] m n h = (from_same m n (some_same m n h), tt)
fit_others_makes place k [] (c ∷ t) m n h = absurd (none-some n h)
fit_others_makes place k (x ∷ hs) [] m n h = absurd (none-some n h)
fit_others_makes place k (x ∷ hs) (c ∷ t) m n h = fit_others_at (k == place) place k x hs c t m n (fit_atom x.atom c.1 m) (λ l is. fit_others_makes place (k + 1) hs t l n is) refl refl h

fit_others_found : (b : Bool) (place k : ℕ) (x : Head) (hs : List Head) (c : Row) (t : List Row) (m l : Subst) → ((j : Subst) → Extends j l → (n : Subst) × (fit_others place (k + 1) hs t j ≡ Some n) × Extends n l)
    → (k == place) ≡ b → Extends m l → ((k == place) ≡ false → MakesAtom l x.atom c.1)
    → (n : Subst) × (cond b (fit_others place (k + 1) hs t m) (option_and_then (fit_others place (k + 1) hs t) (fit_atom x.atom c.1 m)) ≡ Some n) × Extends n l
fit_others_found true place k x hs c t m l g here f one = g m f
fit_others_found false place k x hs c t m l g here f one =
    let a = fit_atom_least x.atom c.1 m l f (one here) in
    let b = g a.0 a.2 in
    (b.0, ap (option_and_then (fit_others place (k + 1) hs t)) a.1 ∙ b.1, b.2)

pub fit_others_least : (place k : ℕ) (hs : List Head) (t : List Row) (m l : Subst) → Extends m l → MakesOthers l place k hs t → (n : Subst) × (fit_others place k hs t m ≡ Some n) × Extends n l
fit_others_least place k [] [] m l f h = (m, refl, f)
fit_others_least place k [] (c ∷ t) m l f h = absurd h
fit_others_least place k (x ∷ hs) [] m l f h = absurd h
fit_others_least place k (x ∷ hs) (c ∷ t) m l f h = fit_others_found (k == place) place k x hs c t m l (λ j g. fit_others_least place (k + 1) hs t j l g h.1) refl f h.0

-- the whole list, and its parts
others_of : (m : Subst) (place k : ℕ) (hs : List Head) (t : List Row) → MakesRows m hs t → MakesOthers m place k hs t
others_of m place k [] [] h = tt
others_of m place k [] (c ∷ t) h = absurd h
others_of m place k (x ∷ hs) [] h = absurd h
others_of m place k (x ∷ hs) (c ∷ t) h = ((λ e. h.0), others_of m place (k + 1) hs t h.1)

own_of : (m : Subst) (place : ℕ) (hs : List Head) (t : List Row) (own : Head) (a : Row) → slice_get hs place ≡ Some own → slice_get t place ≡ Some a → MakesRows m hs t → MakesAtom m own.atom a.1
own_of m place [] t own a e f h = absurd (none-some own e)
own_of m place (x ∷ hs) [] own a e f h = absurd (none-some a f)
own_of m zero (x ∷ hs) (c ∷ t) own a e f h = let same : x ≡ own = cc in let row : c ≡ a = cc in rw (sym same, sym row) h.0
own_of m (suc place) (x ∷ hs) (c ∷ t) own a e f h = own_of m place hs t own a e f h.1

all_of : (m : Subst) (place k : ℕ) (hs : List Head) (t : List Row) → ((j : ℕ) (h : Head) (c : Row) → k + j ≡ place → slice_get hs j ≡ Some h → slice_get t j ≡ Some c → MakesAtom m h.atom c.1) → MakesOthers m place k hs t → MakesRows m hs t
all_of m place k [] [] own h = tt
all_of m place k [] (c ∷ t) own h = absurd h
all_of m place k (x ∷ hs) [] own h = absurd h
all_of m place k (x ∷ hs) (c ∷ t) own h = (one_of (k == place) refl, all_of m place (k + 1) hs t (λ j y d e. own (suc j) y d (omega (arith, e))) h.1)
  where
    one_of : (b : Bool) → (k == place) ≡ b → MakesAtom m x.atom c.1
    one_of true is = own zero x c (omega (arith, eqb-true k place is)) refl refl
    one_of false is = h.0 is

-- least matches are the same at the level of look-ups
same_at : (o p : Option Tree) → ((u : Tree) → o ≡ Some u → p ≡ Some u) → ((u : Tree) → p ≡ Some u → o ≡ Some u) → o ≡ p
same_at None None f g = refl
same_at None (Some u) f g = g u refl
same_at (Some u) p f g = sym (f u refl)

lookups : (m n : Subst) → Extends m n → Extends n m → SameLookups m n
lookups m n f g x = same_at (match_at m x) (match_at n x) (f x) (g x)

nothing : (m : Subst) → Extends [] m
nothing m x u e = absurd (none-some u e)

-- both ways to fit
whole_first : (heads : List Head) (t : List Row) (place : ℕ) (own : Head) (a : Row) (m : Subst) → slice_get heads place ≡ Some own → slice_get t place ≡ Some a → fits heads t ≡ Some m
    → (n : Subst) × (fit_own_first place heads own a t ≡ Some n) × Extends n m
whole_first heads t place own a m e f h =
    let made = fit_rows_makes heads t [] m h in
    let first = fit_atom_least own.atom a.1 [] m (nothing m) (own_of m place heads t own a e f made.1) in
    let rest = fit_others_least place 0 heads t first.0 m first.2 (others_of m place 0 heads t made.1) in
    (rest.0, ap (option_and_then (fit_others place 0 heads t)) first.1 ∙ rest.1, rest.2)

own_whole_at : (heads : List Head) (t : List Row) (place : ℕ) (own : Head) (a : Row) (n : Subst) (o : Option Subst) → slice_get heads place ≡ Some own → slice_get t place ≡ Some a → fit_atom own.atom a.1 [] ≡ o
    → option_and_then (fit_others place 0 heads t) o ≡ Some n → (m : Subst) × (fits heads t ≡ Some m) × Extends m n
own_whole_at heads t place own a n None e f is h = absurd (none-some n h)
own_whole_at heads t place own a n (Some k) e f is h =
    let first = fit_atom_makes own.atom a.1 [] k is in
    let rest = fit_others_makes place 0 heads t k n h in
    fit_rows_least heads t [] n (nothing n)
    (all_of n place 0 heads t (λ j x c at ex ec. placed j x c at ex ec (MakesAtom-more k n own.atom a.1 rest.0 first.1)) rest.1)
  where
    placed : (j : ℕ) (x : Head) (c : Row) → 0 + j ≡ place → slice_get heads j ≡ Some x → slice_get t j ≡ Some c → MakesAtom n own.atom a.1 → MakesAtom n x.atom c.1
    placed j x c at ex ec made =
        let here : j ≡ place = omega (arith, at) in
        let same : own ≡ x = (let got : Some own ≡ Some x = sym e ∙ ap (slice_get heads) (sym here) ∙ ex in cc) in
        let row : a ≡ c = (let got : Some a ≡ Some c = sym f ∙ ap (slice_get t) (sym here) ∙ ec in cc) in
        rw (sym same, sym row) made

pub same_match : (heads : List Head) (t : List Row) (place : ℕ) (own : Head) (a : Row) → slice_get heads place ≡ Some own → slice_get t place ≡ Some a → SameMatch (fits heads t) (fit_own_first place heads own a t)
same_match heads t place own a e f = both (fits heads t) (fit_own_first place heads own a t) refl refl
  where
    both : (o p : Option Subst) → fits heads t ≡ o → fit_own_first place heads own a t ≡ p → SameMatch o p
    both None None is its = tt
    both None (Some n) is its = let r = own_whole_at heads t place own a n (fit_atom own.atom a.1 []) e f refl its in none-some r.0 (sym is ∙ r.1)
    both (Some m) None is its = let r = whole_first heads t place own a m e f is in none-some r.0 (sym its ∙ r.1)
    both (Some m) (Some n) is its =
        let r = whole_first heads t place own a m e f is in
        let q = own_whole_at heads t place own a n (fit_atom own.atom a.1 []) e f refl its in
        let one : r.0 ≡ n = some_same r.0 n (sym r.1 ∙ its) in
        let other : q.0 ≡ m = some_same q.0 m (sym q.1 ∙ is) in
        lookups m n (λ x u g. q.2 x u (ap (λ (k : Subst). match_at k x) other ∙ g)) (λ x u g. r.2 x u (ap (λ (k : Subst). match_at k x) one ∙ g))

-- what sees look-ups alone
pub value_is : (m : Subst) (x : ℕ) → value_at m x ≡ unwrap_or (match_at m x) (var x)
value_is [] x = refl
value_is (p ∷ m) x = value_is_at (p.0 == x) p.1 (value_is m x)
  where
    value_is_at : (b : Bool) (t : Tree) → value_at m x ≡ unwrap_or (match_at m x) (var x) → cond b t (value_at m x) ≡ unwrap_or (cond b (Some t) (match_at m x)) (var x)
    value_is_at true t e = refl
    value_is_at false t e = e

pub same_values : (m n : Subst) → SameLookups m n → (x : ℕ) → value_at m x ≡ value_at n x
same_values m n h x = value_is m x ∙ ap (λ (o : Option Tree). unwrap_or o (var x)) (h x) ∙ sym (value_is n x)

pub same_applied : (m n : Subst) → SameLookups m n → (t : Tree) → apply m t ≡ apply n t
same_applied m n h t = ap (λ (f : ℕ → Tree). instance f t) (fun_ext (same_values m n h))

same_entailed : (m n : Subst) → SameLookups m n → (g : Test) → entailed m g ≡ entailed n g
same_entailed m n h (identical s t) = rw (same_applied m n h s, same_applied m n h t) refl
same_entailed m n h (not_unifiable s t) = rw (same_applied m n h s, same_applied m n h t) refl
same_entailed m n h (compares c s t) = rw (same_applied m n h s, same_applied m n h t) refl
same_entailed m n h (is_integer t) = rw (same_applied m n h t) refl
same_entailed m n h (is_ground t) = rw (same_applied m n h t) refl

pub same_guard : (m n : Subst) → SameLookups m n → (g : List Test) → all_entailed m g ≡ all_entailed n g
same_guard m n h [] = refl
same_guard m n h (x ∷ g) = cc (same_entailed m n h x, same_guard m n h g)

pub order_law : OrderLaw
order_law = record { same = same_match; guards = same_guard; terms = same_applied; values = same_values }
