-- What passes a threshold.
use Rattle.std.proofs.Common.{◌≡◌, ℕ, ◌<◌, ◌≤◌, Bool, true, false, cond, ◌&&◌, ◌||◌, ◌==◌, nat_lt, List, [], ◌∷◌, ◌++◌, map, ap, refl, ◌∙◌, arith}
use Rattle.std.specs.Prelude.{flat_map}
use Rattle.std.specs.List.{list_any}
use Rattle.std.proofs.lemmas.Bool.{eq-eqb, ne_eqb}
use Rattle.std.proofs.lemmas.Bool.Decides.{nat_tests}
use Rattle.chr_semantics.specs.Match.{Row}
use Rattle.chr_semantics.specs.Search.{ids_of}
use Rattle.chr_semantics.specs.Join.{Joined, after_row}
use Rattle.chr_semantics.specs.Cursor.{is_new, lex_lt}
use Rattle.chr_find.specs.Threshold.{Threshold, admits, before, free, threshold_bound, next_threshold, on, passed}
use Rattle.std.proofs.Math.Bool.{or-true}

end_at : (from : ℕ) (b : Bool) (t : List ℕ) → (b || list_any (is_new from) t) ≡ admits from (cond b free before) t
end_at from true t = refl
end_at from false t = refl

on_at : (from : ℕ) (b less same : Bool) (ls t : List ℕ) → ((less || (same && lex_lt ls t)) || (b || list_any (is_new from) t)) ≡ admits from (cond b free (cond less free (cond same (on ls) before))) t
on_at from true less same ls t = or-true (less || (same && lex_lt ls t))
on_at from false true same ls t = refl
on_at from false false true ls t = refl
on_at from false false false ls t = refl

pub admits_next : (from : ℕ) (g : Threshold) (c : ℕ) (t : List ℕ) → admits from g (c ∷ t) ≡ admits from (next_threshold from g c) t
admits_next from free c t = refl
admits_next from (on []) c t = refl
admits_next from (on (l ∷ ls)) c t = on_at from (is_new from c) (nat_lt l c) (l == c) ls t
admits_next from before c t = end_at from (is_new from c) t

after_at : (c : Row) (p : Joined) (b d : Bool) (xs ys : List Joined) → b ≡ d → xs ≡ map (after_row c) ys → cond b (after_row c p ∷ xs) xs ≡ map (after_row c) (cond d (p ∷ ys) ys)
after_at c p true true xs ys e h = ap (λ l. after_row c p ∷ l) h
after_at c p true false xs ys e h = cc
after_at c p false true xs ys e h = cc
after_at c p false false xs ys e h = h

pub passed-after : (from : ℕ) (g : Threshold) (c : Row) (ps : List Joined) → passed from g (map (after_row c) ps) ≡ map (after_row c) (passed from (next_threshold from g c.0) ps)
passed-after from g c [] = refl
passed-after from g c (p ∷ ps) = after_at c p (admits from g (c.0 ∷ ids_of p.0)) (admits from (next_threshold from g c.0) (ids_of p.0)) (passed from g (map (after_row c) ps)) (passed from (next_threshold from g c.0) ps) (admits_next from g c.0 (ids_of p.0)) (passed-after from g c ps)

append_at : (p : Joined) (b : Bool) (xs ys zs : List Joined) → zs ≡ xs ++ ys → cond b (p ∷ zs) zs ≡ cond b (p ∷ xs) xs ++ ys
append_at p true xs ys zs e = ap (λ l. p ∷ l) e
append_at p false xs ys zs e = e

pub passed-append : (from : ℕ) (g : Threshold) (xs ys : List Joined) → passed from g (xs ++ ys) ≡ passed from g xs ++ passed from g ys
passed-append from g [] ys = refl
passed-append from g (p ∷ xs) ys = append_at p (admits from g (ids_of p.0)) (passed from g xs) (passed from g ys) (passed from g (xs ++ ys)) (passed-append from g xs ys)

pub passed-flat_map : {X : Type 0} (from : ℕ) (g : Threshold) (f : X → List Joined) (xs : List X) → passed from g (flat_map f xs) ≡ flat_map (λ x. passed from g (f x)) xs
passed-flat_map from g f [] = refl
passed-flat_map from g f (x ∷ xs) = passed-append from g (f x) (flat_map f xs) ∙ ap (λ l. passed from g (f x) ++ l) (passed-flat_map from g f xs)

pub new_id : (from c : ℕ) → from ≤ c → is_new from c ≡ true
new_id from c le = let e : nat_lt c from ≡ false = grind (arith, nat_tests, le) in rw e refl

pub old_id : (from c : ℕ) → c < from → is_new from c ≡ false
old_id from c lt = let e : nat_lt c from ≡ true = grind (arith, nat_tests) in rw e refl

-- after a row that is not new
pub on_later : (from b c : ℕ) (rest : List ℕ) → c < from → b < c → next_threshold from (on (b ∷ rest)) c ≡ free
on_later from b c rest old lt = let e : nat_lt b c ≡ true = grind (arith, nat_tests) in rw (old_id from c old, e) refl

pub on_same : (from b c : ℕ) (rest : List ℕ) → c < from → b ≡ c → next_threshold from (on (b ∷ rest)) c ≡ on rest
on_same from b c rest old same =
    let e : nat_lt b c ≡ false = grind (arith, nat_tests, same) in
    rw (old_id from c old, e, eq-eqb b c same) refl

pub on_before : (from b c : ℕ) (rest : List ℕ) → c < from → c < b → next_threshold from (on (b ∷ rest)) c ≡ before
on_before from b c rest old lt =
    let e : nat_lt b c ≡ false = grind (arith, nat_tests, lt) in
    let d : (b == c) ≡ false = ne_eqb b c (λ same. omega (arith, same, lt)) in
    rw (old_id from c old, e, d) refl

pub below_bound : (from : ℕ) (g : Threshold) (c : ℕ) → c < threshold_bound from g → next_threshold from g c ≡ before
below_bound from free c lt = absurd (omega (arith, lt))
below_bound from before c lt = let e : is_new from c ≡ false = old_id from c lt in rw e refl
below_bound from (on []) c lt = absurd (omega (arith, lt))
below_bound from (on (l ∷ ls)) c lt = let e : is_new from c ≡ false = old_id from c (omega (arith, lt)) in let less : nat_lt l c ≡ false = grind (arith, nat_tests, lt) in let same : (l == c) ≡ false = grind (arith, nat_tests, lt) in rw (e, less, same) refl

-- the beginning of a list is not after it
pub on_end : (from : ℕ) (rest : List ℕ) → false ≡ admits from (on rest) []
on_end from [] = refl
on_end from (l ∷ ls) = refl
