-- What is found in lists that are put together.
use Rattle.std.proofs.Common.{◌≡◌, ◌^◌, ◌<◌, ℕ, ◌+◌, Bool, true, false, cond, not, ◌&&◌, List, [], ◌∷◌, ◌++◌, map, Option, Some, None, option_map, ap, refl, ◌∙◌, sym, append_assoc, arith, subst}
use Rattle.std.specs.Prelude.{is_some, find}
use Rattle.std.specs.Option.{option_or}
use Rattle.std.proofs.lemmas.List.Folds.{find-append}
use Rattle.chr_semantics.specs.Guard.{all_entailed}
use Rattle.chr_semantics.specs.Join.{Joined, after_row}
use Rattle.chr_semantics.specs.Match.{Row}
use Rattle.chr_semantics.specs.Program.{Test}
use Rattle.chr_semantics.specs.Search.{History, fired_before, ids_of}
use Rattle.chr_semantics.specs.Tries.{capped, tried}
use Rattle.chr_find.specs.Finds.{Finds, best, entering}

best-append_at : (prefix : List ℕ) (x y : Option Joined) → option_map (λ (p : Joined). prefix ++ ids_of p.0) (option_or x y) ≡ option_or (option_map (λ (p : Joined). prefix ++ ids_of p.0) x) (option_map (λ (p : Joined). prefix ++ ids_of p.0) y)
best-append_at prefix None y = refl
best-append_at prefix (Some p) y = refl

best-append : (h : History) (r : ℕ) (guard : List Test) (prefix : List ℕ) (xs ys : List Joined) → best h r guard prefix (xs ++ ys) ≡ option_or (best h r guard prefix xs) (best h r guard prefix ys)
best-append h r guard prefix xs ys = ap (option_map (λ (p : Joined). prefix ++ ids_of p.0)) (find-append (entering h r guard prefix) xs ys) ∙ best-append_at prefix (find (entering h r guard prefix) xs) (find (entering h r guard prefix) ys)

best_after_at : (prefix : List ℕ) (c : Row) (p : Joined) (b d : Bool) (x y : Option Joined) → b ≡ d → option_map (λ (q : Joined). prefix ++ ids_of q.0) x ≡ option_map (λ (q : Joined). (prefix ++ c.0 ∷ []) ++ ids_of q.0) y
    → option_map (λ (q : Joined). prefix ++ ids_of q.0) (cond b (Some (c ∷ p.0, p.1)) x) ≡ option_map (λ (q : Joined). (prefix ++ c.0 ∷ []) ++ ids_of q.0) (cond d (Some p) y)
best_after_at prefix c p true true x y e h = ap Some (sym (append_assoc prefix (c.0 ∷ []) (ids_of p.0)))
best_after_at prefix c p true false x y e h = cc
best_after_at prefix c p false true x y e h = cc
best_after_at prefix c p false false x y e h = h

best-after : (h : History) (r : ℕ) (guard : List Test) (prefix : List ℕ) (c : Row) (ps : List Joined) → best h r guard prefix (map (after_row c) ps) ≡ best h r guard (prefix ++ c.0 ∷ []) ps
best-after h r guard prefix c [] = refl
best-after h r guard prefix c (p ∷ ps) =
    best_after_at prefix c p (entering h r guard prefix (c ∷ p.0, p.1)) (entering h r guard (prefix ++ c.0 ∷ []) p) (find (entering h r guard prefix) (map (after_row c) ps)) (find (entering h r guard (prefix ++ c.0 ∷ [])) ps)
    (ap (λ (l : List ℕ). all_entailed p.1 guard && not (fired_before h r l)) (sym (append_assoc prefix (c.0 ∷ []) (ids_of p.0))))
    (best-after h r guard prefix c ps)

-- the tries over lists
tried-append_at : (b : Bool) (n m k : ℕ) (x : Option Joined) (p : Joined) → n ≡ cond (is_some x) m (m + k) → cond b 1 (n + 1) ≡ cond (is_some (cond b (Some p) x)) (cond b 1 (m + 1)) (cond b 1 (m + 1) + k)
tried-append_at true n m k x p e = refl
tried-append_at false n m k None p e = omega (arith, e)
tried-append_at false n m k (Some q) p e = omega (arith, e)

tried-append : (p : Joined → Bool) (xs ys : List Joined) → tried p (xs ++ ys) ≡ cond (is_some (find p xs)) (tried p xs) (tried p xs + tried p ys)
tried-append p [] ys = omega arith
tried-append p (x ∷ xs) ys = tried-append_at (p x) (tried p (xs ++ ys)) (tried p xs) (tried p ys) (find p xs) x (tried-append p xs ys)

tried-after : (h : History) (r : ℕ) (guard : List Test) (prefix : List ℕ) (c : Row) (ps : List Joined) → tried (entering h r guard prefix) (map (after_row c) ps) ≡ tried (entering h r guard (prefix ++ c.0 ∷ [])) ps
tried-after h r guard prefix c [] = refl
tried-after h r guard prefix c (p ∷ ps) =
    let e : entering h r guard prefix (c ∷ p.0, p.1) ≡ entering h r guard (prefix ++ c.0 ∷ []) p = ap (λ (l : List ℕ). all_entailed p.1 guard && not (fired_before h r l)) (sym (append_assoc prefix (c.0 ∷ []) (ids_of p.0))) in
    cc (e, tried-after h r guard prefix c ps)

option_or_some : (x y : Option (List ℕ)) (l : List ℕ) → x ≡ Some l → option_or x y ≡ x
option_or_some None y l e = cc
option_or_some (Some k) y l e = refl

is_found : (prefix : List ℕ) (x : Option Joined) (l : List ℕ) → option_map (λ (p : Joined). prefix ++ ids_of p.0) x ≡ Some l → is_some x ≡ true
is_found prefix None l e = cc
is_found prefix (Some p) l e = refl

is_not_found : (prefix : List ℕ) (x : Option Joined) → option_map (λ (p : Joined). prefix ++ ids_of p.0) x ≡ None → is_some x ≡ false
is_not_found prefix None e = refl
is_not_found prefix (Some p) e = cc

capped_more : (a b c d : ℕ) → b ≡ capped (a + c) → capped (b + d) ≡ capped (a + (c + d))
capped_more a b c d e = omega (arith, e)

capped_self : (n : ℕ) → n < 2 ^ 64 → n ≡ capped (n + 0)
capped_self n h = omega (arith, h)

module _ (h : History) (r : ℕ) (guard : List Test) (prefix : List ℕ) where
  -- nothing to look at
  pub finds_none : (told : ℕ) → told < 2 ^ 64 → Finds h r guard prefix [] None told told
  finds_none told small = record { found = refl; tries = capped_self told small }

  -- where one was found in the first span, the second is not looked at
  pub finds_first_part : (xs ys : List Joined) (l : List ℕ) (told now : ℕ) → Finds h r guard prefix xs (Some l) told now → Finds h r guard prefix (xs ++ ys) (Some l) told now
  finds_first_part xs ys l told now f =
      let there : is_some (find (entering h r guard prefix) xs) ≡ true = is_found prefix (find (entering h r guard prefix) xs) l (sym f.found) in
      record {
        found = f.found ∙ (sym (option_or_some (best h r guard prefix xs) (best h r guard prefix ys) l (sym f.found)) ∙ sym (best-append h r guard prefix xs ys));
        tries = f.tries ∙ ap (λ (k : ℕ). capped (told + k)) (sym (tried-append (entering h r guard prefix) xs ys ∙ ap (λ (b : Bool). cond b (tried (entering h r guard prefix) xs) (tried (entering h r guard prefix) xs + tried (entering h r guard prefix) ys)) there));
      }

  -- and where none was, it is what is found in the second
  pub finds_second_part : (xs ys : List Joined) (result : Option (List ℕ)) (told mid now : ℕ) → Finds h r guard prefix xs None told mid → Finds h r guard prefix ys result mid now → Finds h r guard prefix (xs ++ ys) result told now
  finds_second_part xs ys result told mid now f g =
      let out : is_some (find (entering h r guard prefix) xs) ≡ false = is_not_found prefix (find (entering h r guard prefix) xs) (sym f.found) in
      record {
        found = g.found ∙ (ap (λ (x : Option (List ℕ)). option_or x (best h r guard prefix ys)) f.found ∙ sym (best-append h r guard prefix xs ys));
        tries = g.tries ∙ (capped_more told mid (tried (entering h r guard prefix) xs) (tried (entering h r guard prefix) ys) f.tries
            ∙ ap (λ (k : ℕ). capped (told + k)) (sym (tried-append (entering h r guard prefix) xs ys ∙ ap (λ (b : Bool). cond b (tried (entering h r guard prefix) xs) (tried (entering h r guard prefix) xs + tried (entering h r guard prefix) ys)) out)));
      }

  -- lists that are equal
  pub finds_same : (xs ps : List Joined) (result : Option (List ℕ)) (told now : ℕ) → xs ≡ ps → Finds h r guard prefix ps result told now → Finds h r guard prefix xs result told now
  finds_same xs ps result told now e f = subst (λ (x : List Joined). Finds h r guard prefix x result told now) (sym e) f

  -- one row in front
  pub finds_after : (c : Row) (longer : List ℕ) (ps : List Joined) (result : Option (List ℕ)) (told now : ℕ) → longer ≡ prefix ++ c.0 ∷ [] → Finds h r guard longer ps result told now → Finds h r guard prefix (map (after_row c) ps) result told now
  finds_after c longer ps result told now at f = record {
    found = f.found ∙ (ap (λ (l : List ℕ). best h r guard l ps) at ∙ sym (best-after h r guard prefix c ps));
    tries = f.tries ∙ (ap (λ (l : List ℕ). capped (told + tried (entering h r guard l) ps)) at ∙ ap (λ (k : ℕ). capped (told + k)) (sym (tried-after h r guard prefix c ps)));
  }
