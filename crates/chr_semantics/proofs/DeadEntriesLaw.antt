-- Entries with an identity that no row has change no search.
use Rattle.std.proofs.Common.{Bool, sym, None, List, Option, Some, [], ap, cond, false, length, map, not, refl, suc, true, true≢false, zero, ℕ, ◌&&◌, ◌++◌, ◌+◌, ◌==◌, ◌||◌, ◌∙◌, ◌∷◌, ◌≡◌}
use Rattle.std.proofs.lemmas.Bool.{and_parts, and_from, or_left, or_right, eq-eqb}
use Rattle.std.proofs.lemmas.Bool.Decides.{Decides-eqb}
use Rattle.std.specs.List.{list_all}
use Rattle.std.specs.Prelude.{filter, find, flat_map}
use Rattle.chr_semantics.specs.Match.{Row, fits}
use Rattle.chr_semantics.specs.Program.{Atom, Occurrence, Rule, Program, occurrence}
use Rattle.chr_semantics.specs.Search.{atom_of, live_entries, found_at, found_for, found_with, first_of, ids_found, DeadEntriesLaw, History, can_fire, fired_before, first_tuple, has_number, ids_of, passes_guard, same_ids, tuples_from}
use Rattle.chr_semantics.proofs.Lists.{list_all-more}

-- each element of each tuple passes
abbrev pub AllRows : (Row → Bool) → List (List Row) → Type 0
AllRows test [] = Unit {0}
AllRows test (t ∷ ts) = (list_all test t ≡ true) × AllRows test ts

rows_append : (test : Row → Bool) (ts us : List (List Row)) → AllRows test ts → AllRows test us → AllRows test (ts ++ us)
rows_append test [] us h k = k
rows_append test (t ∷ ts) us h k = (h.0, rows_append test ts us h.1 k)

rows_cons : (test : Row → Bool) (c : Row) (ts : List (List Row)) → test c ≡ true → AllRows test ts → AllRows test (map (λ r. c ∷ r) ts)
rows_cons test c [] h k = tt
rows_cons test c (t ∷ ts) h k = (rw h k.0, rows_cons test c ts h k.1)

piece_at : (b : Bool) (test : Row → Bool) (c : Row) (ts : List (List Row)) → test c ≡ true → AllRows test ts → AllRows test (elim b [ true ↦ [] | false ↦ map (λ r. c ∷ r) ts ])
piece_at true test c ts h k = tt
piece_at false test c ts h k = rows_cons test c ts h k

rows_flat : (test : Row → Bool) (g : Row → List (List Row)) (xs : List Row) → ((c : Row) → test c ≡ true → AllRows test (g c)) → list_all test xs ≡ true → AllRows test (flat_map g xs)
rows_flat test g [] h k = tt
rows_flat test g (x ∷ xs) h k = let r = and_parts (test x) (list_all test xs) k in rows_append test (g x) (flat_map g xs) (h x r.0) (rows_flat test g xs h r.1)

one_of : (b : Bool) (test : Row → Bool) (a : Row) (rows : List Row) → test a ≡ true → list_all test rows ≡ true → list_all test (cond b (a ∷ []) rows) ≡ true
one_of true test a rows h k = rw h refl
one_of false test a rows h k = k

-- what holds of the rows holds of each element of each tuple
pub tuples_all : (test : Row → Bool) (rows : List Row) (a : Row) (place n : ℕ) (used : List ℕ) (k : ℕ) → test a ≡ true → list_all test rows ≡ true → AllRows test (tuples_from rows a place n used k)
tuples_all test rows a place zero used k h l = (refl, tt)
tuples_all test rows a place (suc n) used k h l =
    rows_flat test (λ c. elim (has_number used c.0) [ true ↦ [] | false ↦ map (λ r. c ∷ r) (tuples_from rows a place n (c.0 ∷ used) (k + 1)) ]) (cond (k == place) (a ∷ []) rows)
    (λ c e. piece_at (has_number used c.0) test c _ e (tuples_all test rows a place n (c.0 ∷ used) (k + 1) h l))
    (one_of (k == place) test a rows h l)

same_find_at : (b c : Bool) (t : List Row) (m n : Option (List Row)) → b ≡ c → m ≡ n → cond b (Some t) m ≡ cond c (Some t) n
same_find_at b c t m n e f = cc

-- searches with tests that agree on such tuples find the same
pub find_agree : (test : Row → Bool) (f g : List Row → Bool) (ts : List (List Row)) → ((t : List Row) → list_all test t ≡ true → f t ≡ g t) → AllRows test ts → find f ts ≡ find g ts
find_agree test f g [] h k = refl
find_agree test f g (t ∷ ts) h k = same_find_at (f t) (g t) t _ _ (h t k.0) (find_agree test f g ts h k.1)

-- an entry whose identities are all those of rows that pass
abbrev pub lives_in : (ℕ → Bool) → ℕ × List ℕ → Bool
lives_in live f = list_all live f.1

same_live : (live : ℕ → Bool) (xs : List ℕ) (t : List Row) → list_all (λ (r : Row). live r.0) t ≡ true → list_all live xs ≡ false → same_ids xs (ids_of t) ≡ false
same_live live [] t h k = absurd (true≢false k)
same_live live (x ∷ xs) [] h k = refl
same_live live (x ∷ xs) (r ∷ t) h k = let w = and_parts (live r.0) _ h in same_at (x == r.0) live x r.0 (list_all live xs) _ (Decides-eqb x r.0).0 w.0 k (λ e. same_live live xs t w.1 e)
  where
    same_at : (b : Bool) (live : ℕ → Bool) (x y : ℕ) (all rest : Bool) → (b ≡ true → x ≡ y) → live y ≡ true → (live x && all) ≡ false → (all ≡ false → rest ≡ false) → (b && rest) ≡ false
    same_at true live x y all rest is h k go = go (let e : live x ≡ true = ap live (is refl) ∙ h in rw e at k)
    same_at false live x y all rest is h k go = refl

before_at : (l : Bool) (r : ℕ) (f : ℕ × List ℕ) (h : History) (t : List Row) → (l ≡ false → same_ids f.1 (ids_of t) ≡ false) → (f.0 == r && same_ids f.1 (ids_of t) || fired_before h r (ids_of t)) ≡ fired_before (cond l (f ∷ h) h) r (ids_of t)
before_at true r f h t k = refl
before_at false r f h t k = rw (k refl) (drop_at (f.0 == r) _)
  where
    drop_at : (b c : Bool) → (b && false || c) ≡ c
    drop_at true c = refl
    drop_at false c = refl

fired_live : (live : ℕ → Bool) (h : History) (r : ℕ) (t : List Row) → list_all (λ (x : Row). live x.0) t ≡ true → fired_before h r (ids_of t) ≡ fired_before (filter (lives_in live) h) r (ids_of t)
fired_live live [] r t k = refl
fired_live live (f ∷ h) r t k =
    ap (λ (b : Bool). f.0 == r && same_ids f.1 (ids_of t) || b) (fired_live live h r t k)
    ∙ before_at (lives_in live f) r f (filter (lives_in live) h) t (same_live live f.1 t k)

-- entries with an identity that no row has change nothing
pub first_tuple_live : (live : ℕ → Bool) (rows : List Row) (h : History) (r : ℕ) (rule : Rule) (place : ℕ) (a : Row) → live a.0 ≡ true → list_all (λ (x : Row). live x.0) rows ≡ true
    → first_tuple rows h r rule place a ≡ first_tuple rows (filter (lives_in live) h) r rule place a
first_tuple_live live rows h r rule place a k l =
    find_agree (λ (x : Row). live x.0) (can_fire h r rule) (can_fire (filter (lives_in live) h) r rule) (tuples_from rows a place (length rule.heads) [] 0)
    (λ t e. ap (λ (b : Bool). passes_guard rule (fits rule.heads t) && not b) (fired_live live h r t e))
    (tuples_all (λ (x : Row). live x.0) rows a place (length rule.heads) [] 0 k l)

-- the identities of rows, for a search over them
all_have : (xs : List Row) → list_all (λ (x : Row). has_number (ids_of xs) x.0) xs ≡ true
all_have [] = refl
all_have (x ∷ xs) =
    and_from (x.0 == x.0 || has_number (ids_of xs) x.0) _ (or_left (x.0 == x.0) (has_number (ids_of xs) x.0) (eq-eqb x.0 x.0 refl))
    (list_all-more (λ (y : Row). has_number (ids_of xs) y.0) (λ (y : Row). has_number (ids_of (x ∷ xs)) y.0) xs (λ y h. or_right (y.0 == x.0) (has_number (ids_of xs) y.0) h) (all_have xs))

has_row_at : (b : Bool) (x : Row) (m : Option Atom) (others : Bool) (i : ℕ) (a : Atom) → (x.0 == i) ≡ b → cond b (Some x.1) m ≡ Some a → (m ≡ Some a → others ≡ true) → (i == x.0 || others) ≡ true
has_row_at true x m others i a is e go = or_left (i == x.0) others (eq-eqb i x.0 (sym ((Decides-eqb x.0 i).0 is)))
has_row_at false x m others i a is e go = or_right (i == x.0) others (go e)

has_row : (xs : List Row) (i : ℕ) (a : Atom) → atom_of xs i ≡ Some a → has_number (ids_of xs) i ≡ true
has_row [] i a e = cc
has_row (x ∷ xs) i a e = has_row_at (x.0 == i) x (atom_of xs i) (has_number (ids_of xs) i) i a refl e (has_row xs i a)

found_live : (rows : List Row) (h : History) (i : ℕ) (a : Atom) (o : Option Occurrence) → atom_of rows i ≡ Some a → found_at rows (live_entries rows h) i o ≡ found_at rows h i o
found_live rows h i a None e = refl
found_live rows h i a (Some o) e =
    ap (found_for rows (live_entries rows h) o.number o.rule o.place i) e
    ∙ ap (found_with o.number o.rule o.place) (sym (first_tuple_live (has_number (ids_of rows)) rows h o.number o.rule o.place (i, a) (has_row rows i a e) (all_have rows)))
    ∙ sym (ap (found_for rows h o.number o.rule o.place i) e)

first_live : (p : Program) (rows : List Row) (h : History) (i j : ℕ) (x : Option Atom) → atom_of rows i ≡ x → first_of p rows (live_entries rows h) i j x ≡ first_of p rows h i j x
first_live p rows h i j None e = refl
first_live p rows h i j (Some a) e = ap ids_found (found_live rows h i a (occurrence p a.sym j) e)

pub dead_entries_law : DeadEntriesLaw
dead_entries_law p rows h i j = first_live p rows h i j (atom_of rows i) refl
