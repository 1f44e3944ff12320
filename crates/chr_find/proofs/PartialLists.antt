-- How many partial lists there are in trails that are put together.
use Rattle.std.proofs.Common.{◌≡◌, ◌^◌, ◌<◌, ℕ, ◌+◌, Bool, true, false, cond, not, ◌&&◌, ◌||◌, List, [], ◌∷◌, ◌++◌, Some, None, ap, refl, ◌∙◌, sym, append_assoc, arith, subst}
use Rattle.std.specs.List.{list_any}
use Rattle.std.proofs.lemmas.List.Folds.{list_any-append}
use Rattle.chr_semantics.proofs.TrailLaw.{wholes-append}
use Rattle.chr_semantics.specs.Guard.{all_entailed}
use Rattle.chr_semantics.specs.Join.{Joined, after_row}
use Rattle.chr_semantics.specs.Match.{Row}
use Rattle.chr_semantics.specs.Program.{Test}
use Rattle.chr_semantics.specs.Search.{History, fired_before, ids_of}
use Rattle.chr_semantics.specs.Trail.{Trail, after_each, partial, wholes}
use Rattle.chr_semantics.specs.Tries.{capped}
use Rattle.chr_find.specs.Finds.{entering}
use Rattle.chr_find.specs.Partial.{Counts}

-- one of the whole lists passes
abbrev any_whole : (Joined → Bool) → Trail → Bool
any_whole p t = list_any p (wholes t)

any-append : (p : Joined → Bool) (s t : Trail) → any_whole p (s ++ t) ≡ (any_whole p s || any_whole p t)
any-append p s t = ap (list_any p) (wholes-append s t) ∙ list_any-append p (wholes s) (wholes t)

one_more : (b : Bool) (n m k : ℕ) → n ≡ cond b m (m + k) → n + 1 ≡ cond b (m + 1) (m + 1 + k)
one_more true n m k e = ap (λ (x : ℕ). x + 1) e
one_more false n m k e = omega (arith, e)

whole_one : (d b : Bool) (n m k : ℕ) → n ≡ cond b m (m + k) → cond d 0 n ≡ cond (d || b) (cond d 0 m) (cond d 0 m + k)
whole_one true b n m k e = refl
whole_one false b n m k e = e

partial-append : (p : Joined → Bool) (s t : Trail) → partial p (s ++ t) ≡ cond (any_whole p s) (partial p s) (partial p s + partial p t)
partial-append p [] t = omega arith
partial-append p (None ∷ s) t = one_more (any_whole p s) (partial p (s ++ t)) (partial p s) (partial p t) (partial-append p s t)
partial-append p (Some x ∷ s) t = whole_one (p x) (any_whole p s) (partial p (s ++ t)) (partial p s) (partial p t) (partial-append p s t)

entering-after : (h : History) (r : ℕ) (guard : List Test) (prefix : List ℕ) (c : Row) (p : Joined) → entering h r guard prefix (after_row c p) ≡ entering h r guard (prefix ++ c.0 ∷ []) p
entering-after h r guard prefix c p = ap (λ (l : List ℕ). all_entailed p.1 guard && not (fired_before h r l)) (sym (append_assoc prefix (c.0 ∷ []) (ids_of p.0)))

any-after : (h : History) (r : ℕ) (guard : List Test) (prefix : List ℕ) (c : Row) (t : Trail) → any_whole (entering h r guard prefix) (after_each c t) ≡ any_whole (entering h r guard (prefix ++ c.0 ∷ [])) t
any-after h r guard prefix c [] = refl
any-after h r guard prefix c (None ∷ t) = any-after h r guard prefix c t
any-after h r guard prefix c (Some p ∷ t) = cc (entering-after h r guard prefix c p, any-after h r guard prefix c t)

partial-after : (h : History) (r : ℕ) (guard : List Test) (prefix : List ℕ) (c : Row) (t : Trail) → partial (entering h r guard prefix) (after_each c t) ≡ partial (entering h r guard (prefix ++ c.0 ∷ [])) t
partial-after h r guard prefix c [] = refl
partial-after h r guard prefix c (None ∷ t) = ap (λ (n : ℕ). n + 1) (partial-after h r guard prefix c t)
partial-after h r guard prefix c (Some p ∷ t) = cc (entering-after h r guard prefix c p, partial-after h r guard prefix c t)

capped_more : (a b c d : ℕ) → b ≡ capped (a + c) → capped (b + d) ≡ capped (a + (c + d))
capped_more a b c d e = omega (arith, e)

capped_turned : (a c d : ℕ) → capped (a + (c + d)) ≡ capped (a + (d + c))
capped_turned a c d = omega arith

capped_self : (n : ℕ) → n < 2 ^ 64 → n ≡ capped (n + 0)
capped_self n h = omega (arith, h)

no_count : (b : Bool) → ◌≡◌ {A = ℕ} (cond b 0 0) 0
no_count true = refl
no_count false = refl

alone : (b : Bool) → b ≡ (b || false)
alone true = refl
alone false = refl

module _ (h : History) (r : ℕ) (guard : List Test) (prefix : List ℕ) where
  -- nothing to look at
  pub counts_none : (told : ℕ) → told < 2 ^ 64 → Counts h r guard prefix [] false told told
  counts_none told small = record { found = refl; partial = capped_self told small }

  -- a whole list
  pub counts_whole : (p : Joined) (b : Bool) (told : ℕ) → told < 2 ^ 64 → b ≡ entering h r guard prefix p → Counts h r guard prefix (Some p ∷ []) b told told
  counts_whole p b told small e = record {
    found = e ∙ alone (entering h r guard prefix p);
    partial = capped_self told small ∙ ap (λ (n : ℕ). capped (told + n)) (sym (no_count (entering h r guard prefix p)));
  }

  -- one partial list more
  pub counts_more : (t : Trail) (b : Bool) (told mid now : ℕ) → mid ≡ capped (told + 1) → Counts h r guard prefix t b mid now → Counts h r guard prefix (None ∷ t) b told now
  counts_more t b told mid now one f = record {
    found = f.found;
    partial = f.partial ∙ (capped_more told mid 1 (partial (entering h r guard prefix) t) one ∙ capped_turned told 1 (partial (entering h r guard prefix) t));
  }

  -- where one was found in the first part, the second is not looked at
  pub counts_first : (s t : Trail) (told now : ℕ) → Counts h r guard prefix s true told now → Counts h r guard prefix (s ++ t) true told now
  counts_first s t told now f =
      let p = entering h r guard prefix in
      record {
        found = ap (λ (b : Bool). b || any_whole p t) f.found ∙ sym (any-append p s t);
        partial = f.partial ∙ ap (λ (k : ℕ). capped (told + k)) (sym (partial-append p s t ∙ ap (λ (b : Bool). cond b (partial p s) (partial p s + partial p t)) (sym f.found)));
      }

  -- and where none was, it is what is found in the second
  pub counts_second : (s t : Trail) (b : Bool) (told mid now : ℕ) → Counts h r guard prefix s false told mid → Counts h r guard prefix t b mid now → Counts h r guard prefix (s ++ t) b told now
  counts_second s t b told mid now f g =
      let p = entering h r guard prefix in
      record {
        found = g.found ∙ (ap (λ (x : Bool). x || any_whole p t) f.found ∙ sym (any-append p s t));
        partial = g.partial ∙ (capped_more told mid (partial p s) (partial p t) f.partial
            ∙ ap (λ (k : ℕ). capped (told + k)) (sym (partial-append p s t ∙ ap (λ (x : Bool). cond x (partial p s) (partial p s + partial p t)) (sym f.found))));
      }

  -- trails that are equal
  pub counts_same : (s t : Trail) (b : Bool) (told now : ℕ) → s ≡ t → Counts h r guard prefix t b told now → Counts h r guard prefix s b told now
  counts_same s t b told now e f = subst (λ (x : Trail). Counts h r guard prefix x b told now) (sym e) f

  -- one row in front
  pub counts_after : (c : Row) (longer : List ℕ) (t : Trail) (b : Bool) (told now : ℕ) → longer ≡ prefix ++ c.0 ∷ [] → Counts h r guard longer t b told now → Counts h r guard prefix (after_each c t) b told now
  counts_after c longer t b told now at f =
      let g : Counts h r guard (prefix ++ c.0 ∷ []) t b told now = subst (λ (l : List ℕ). Counts h r guard l t b told now) at f in
      record {
        found = g.found ∙ sym (any-after h r guard prefix c t);
        partial = g.partial ∙ ap (λ (k : ℕ). capped (told + k)) (sym (partial-after h r guard prefix c t));
      }
