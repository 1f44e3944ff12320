-- How many lists the join tries.
use Rattle.std.proofs.Common.{◌≡◌, ℕ, suc, ◌+◌, ◌*◌, ◌≤◌, ◌<◌, length, Bool, true, false, cond, not, ◌&&◌, ◌==◌, List, [], ◌∷◌, map, Option, Some, None, slice_get, ap, refl, ◌∙◌, sym, subst, arith, length-append}
use Rattle.std.proofs.lemmas.List.{length-map}
use Rattle.std.proofs.lemmas.List.Elements.{All-head, All-tail, All-weaker}
use Rattle.std.specs.Prelude.{All, is_some, filter, flat_map}
use Rattle.std.specs.List.{filter_map, cons_option}
use Rattle.std.proofs.Math.Nat.{suc-mul}
use Rattle.chr_semantics.specs.Subst.{Subst}
use Rattle.chr_semantics.specs.Program.{Head, Rule}
use Rattle.chr_semantics.specs.Match.{Row, fit_atom, fits}
use Rattle.chr_semantics.specs.Guard.{all_entailed}
use Rattle.chr_semantics.specs.Search.{History, has_number, ids_of, fired_before, passes_guard, can_fire, tuples, IsTuple}
use Rattle.chr_semantics.proofs.Lists.{got_below}
use Rattle.chr_semantics.proofs.TuplesLaw.{tuples_law}
use Rattle.chr_semantics.specs.Keys.{is_of}
use Rattle.chr_semantics.specs.Join.{SameMatch, fit_own_first, Joined, after_row, branch, joined, after_own, own_joined, enters}
use Rattle.chr_semantics.specs.Tries.{tried, fits_some, count_of, product_from, tried_tuples, TriesLaw}
use Rattle.chr_semantics.proofs.KeyLaw.{root_law}
use Rattle.chr_semantics.proofs.SearchedLists.{flat_map-filter}
use Rattle.chr_semantics.proofs.MatchOrder.{same_match, same_guard}
use Rattle.chr_semantics.proofs.JoinLaw.{tagged, paired_behind, branch_none}

tried_at : (b : Bool) (n m : ℕ) → n ≤ m → cond b 1 (n + 1) ≤ suc m
tried_at true n m h = omega arith
tried_at false n m h = omega (arith, h)

tried_least : {X : Type 0} (p : X → Bool) (xs : List X) → tried p xs ≤ length xs
tried_least p [] = omega arith
tried_least p (x ∷ xs) = tried_at (p x) (tried p xs) (length xs) (tried_least p xs)

both_most : (a b n m : ℕ) → a ≤ n → b ≤ m → a + b ≤ m + n
both_most a b n m h k = omega (arith, h, k)

-- at most n from each
flat_map_most : {X Y : Type 0} (f : X → List Y) (n : ℕ) (xs : List X) → ((x : X) → length (f x) ≤ n) → length (flat_map f xs) ≤ length xs * n
flat_map_most f n [] h = omega arith
flat_map_most f n (x ∷ xs) h = rw (length-append (f x) (flat_map f xs), suc-mul (length xs) n) (both_most (length (f x)) (length (flat_map f xs)) n (length xs * n) (h x) (flat_map_most f n xs h))

-- and nothing from those that a test leaves out
flat_map_most_kept : {X Y : Type 0} (f : X → List Y) (p : X → Bool) (n : ℕ) (xs : List X) → ((x : X) → p x ≡ false → f x ≡ []) → ((x : X) → length (f x) ≤ n) → length (flat_map f xs) ≤ length (filter p xs) * n
flat_map_most_kept f p n xs none h = rw (sym (flat_map-filter f p xs none)) (flat_map_most f n (filter p xs) h)

branch_most : (further : Subst → List Joined) (c : Row) (n : ℕ) (b : Bool) (e : Option Subst) → ((m : Subst) → length (further m) ≤ n) → length (branch further c b e) ≤ n
branch_most further c n true e h = omega arith
branch_most further c n false None h = omega arith
branch_most further c n false (Some m) h = rw (length-map (further m) (after_row c)) (h m)

one_times : (n m : ℕ) → n ≤ m → n ≤ 1 * m
one_times n m h = omega (arith, h)

most_at : (b : Bool) (a : Row) (xs ys : List Joined) (n m : ℕ) → length xs ≤ n → length ys ≤ m * n → length (cond b (map (after_row a) xs) ys) ≤ cond b 1 m * n
most_at true a xs ys n m h k = rw (length-map xs (after_row a)) (one_times (length xs) n h)
most_at false a xs ys n m h k = k

pub joined_most : (rows : List Row) (a : Row) (place : ℕ) (heads : List Head) (used : List ℕ) (k : ℕ) (m : Subst) → length (joined rows a place heads used k m) ≤ product_from rows place k heads
joined_most rows a place [] used k m = omega arith
joined_most rows a place (h ∷ hs) used k m =
    most_at (k == place) a (joined rows a place hs (a.0 ∷ used) (k + 1) m) _ (product_from rows place (k + 1) hs) (count_of rows h.atom.sym) (joined_most rows a place hs (a.0 ∷ used) (k + 1) m)
    (flat_map_most_kept _ (is_of h.atom.sym) (product_from rows place (k + 1) hs) rows
    (λ c out. branch_none (λ n. joined rows a place hs (c.0 ∷ used) (k + 1) n) c (has_number (a.0 ∷ used) c.0) (fit_atom h.atom c.1 m) (root_law.symbols h m c out))
    (λ c. branch_most (λ n. joined rows a place hs (c.0 ∷ used) (k + 1) n) c (product_from rows place (k + 1) hs) (has_number (a.0 ∷ used) c.0) (fit_atom h.atom c.1 m) (λ n. joined_most rows a place hs (c.0 ∷ used) (k + 1) n)))

product_some : (rows : List Row) (rule : Rule) (place : ℕ) (a : Row) (o : Option Subst) → length (after_own (joined rows a place rule.heads [] 0) o) ≤ product_from rows place 0 rule.heads
product_some rows rule place a None = omega arith
product_some rows rule place a (Some m) = joined_most rows a place rule.heads [] 0 m

-- the tries are those of the lists that fit
tried_one : (h : History) (r : ℕ) (rule : Rule) (t : List Row) (o p : Option Subst) (n : ℕ) (ps : List Joined) → SameMatch o p → tried (enters h r rule) ps ≡ n
    → tried (enters h r rule) (cons_option (tagged t p) ps) ≡ cond (is_some o) (cond (passes_guard rule o && not (fired_before h r (ids_of t))) 1 (n + 1)) n
tried_one h r rule t None None n ps s e = e
tried_one h r rule t None (Some m) n ps s e = absurd s
tried_one h r rule t (Some m) None n ps s e = absurd s
tried_one h r rule t (Some m) (Some l) n ps s e =
    ap (λ (b : Bool). cond (b && not (fired_before h r (ids_of t))) 1 (tried (enters h r rule) ps + 1)) (sym (same_guard m l s rule.guard))
    ∙ ap (λ (k : ℕ). cond (all_entailed m rule.guard && not (fired_before h r (ids_of t))) 1 (k + 1)) e

pub tried_kept : (p : List Row → Bool) (t : List Row) (b : Bool) (ts : List (List Row)) → tried p (cond b (t ∷ ts) ts) ≡ cond b (cond (p t) 1 (tried p ts + 1)) (tried p ts)
tried_kept p t true ts = refl
tried_kept p t false ts = refl

tried_paired : (h : History) (r : ℕ) (rule : Rule) (place : ℕ) (own : Head) (a : Row) (ts : List (List Row)) → slice_get rule.heads place ≡ Some own → All (λ t. slice_get t place ≡ Some a) ts
    → tried (enters h r rule) (filter_map (λ t. tagged t (fit_own_first place rule.heads own a t)) ts) ≡ tried (can_fire h r rule) (filter (fits_some rule) ts)
tried_paired h r rule place own a [] is at = refl
tried_paired h r rule place own a (t ∷ ts) is at =
    tried_one h r rule t (fits rule.heads t) (fit_own_first place rule.heads own a t) (tried (can_fire h r rule) (filter (fits_some rule) ts)) (filter_map (λ u. tagged u (fit_own_first place rule.heads own a u)) ts)
    (same_match rule.heads t place own a is (All-head (λ u. slice_get u place ≡ Some a) t ts at))
    (tried_paired h r rule place own a ts is (All-tail (λ u. slice_get u place ≡ Some a) t ts at))
    ∙ sym (tried_kept (can_fire h r rule) t (fits_some rule t) (filter (fits_some rule) ts))

tries : (rows : List Row) (h : History) (r : ℕ) (rule : Rule) (place : ℕ) (own : Head) (a : Row) → slice_get rule.heads place ≡ Some own
    → tried (enters h r rule) (own_joined rows rule place own a) ≡ tried_tuples rows h r rule place a
tries rows h r rule place own a is =
    let inside : place < length rule.heads = got_below rule.heads place own is in
    ap (tried (enters h r rule)) (sym (paired_behind rows rule place a (fit_atom own.atom a.1 []) inside))
    ∙ tried_paired h r rule place own a (tuples rows rule place a) is
    (All-weaker (IsTuple rows rule place a) (λ t. slice_get t place ≡ Some a) (λ t w. w.at_place inside) (tuples rows rule place a) (tuples_law.are_tuples rows rule place a))

le_trans : (a b c : ℕ) → a ≤ b → b ≤ c → a ≤ c
le_trans a b c h k = omega (arith, h, k)

pub tries_law : TriesLaw
tries_law = record {
  tries = tries;
  most = λ rows h r rule place own a is.
      subst (λ (n : ℕ). n ≤ product_from rows place 0 rule.heads) (tries rows h r rule place own a is)
      (le_trans (tried (enters h r rule) (own_joined rows rule place own a)) (length (own_joined rows rule place own a)) (product_from rows place 0 rule.heads) (tried_least (enters h r rule) (own_joined rows rule place own a)) (product_some rows rule place a (fit_atom own.atom a.1 [])));
}
