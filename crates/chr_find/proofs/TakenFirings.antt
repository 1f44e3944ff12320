-- The entries of a history that are taken, one after the other.
use Rattle.std.proofs.Common.{◌≡◌, ◌∙◌, ◌==◌, ◌&&◌, ◌||◌, ℕ, Bool, true, false, cond, List, [], ◌∷◌, ◌++◌, ap, refl, sym}
use Rattle.std.proofs.lemmas.Bool.{and_parts}
use Rattle.std.proofs.lemmas.List.Elements.{filter-append}
use Rattle.std.specs.List.{list_all, list_any}
use Rattle.std.specs.Prelude.{Some, filter, is_some}
use Rattle.chr_semantics.proofs.Tests.{eqb_sym}
use Rattle.chr_semantics.specs.Match as semantics
use Rattle.chr_semantics.specs.Search.{History, atom_of, fired_before, has_number, ids_of, live_entries, same_ids}
use Rattle.chr_semantics.specs.Subst.{Subst}
use Rattle.chr_find.specs.ScopeView.{entries_kept, keeps_rule, rows_under, takes}
use Rattle.chr_find.specs.declared.scope.Scope.{Scope}
use Rattle.chr_find.proofs.FiredHistory.{same_ids_Decides}
use Rattle.std.proofs.Math.Bool.{or-false}
use Rattle.chr_store.proofs.FiredRows.{same_ids_sym}

-- who lives has its identity among those of the rows
pub lives_has : (rows : List semantics.Row) (i : ℕ) → is_some (atom_of rows i) ≡ has_number (ids_of rows) i
lives_has [] i = refl
lives_has (c ∷ rows) i = by_test (c.0 == i) (i == c.0) (eqb_sym c.0 i) (lives_has rows i)
  where
    by_test : (b d : Bool) → b ≡ d → is_some (atom_of rows i) ≡ has_number (ids_of rows) i → is_some (cond b (Some c.1) (atom_of rows i)) ≡ (d || has_number (ids_of rows) i)
    by_test true true e go = refl
    by_test true false e go = cc
    by_test false true e go = cc
    by_test false false e go = go

pub live_all : (rows : List semantics.Row) (ids : List ℕ) → list_all (λ i. is_some (atom_of rows i)) ids ≡ list_all (has_number (ids_of rows)) ids
live_all rows [] = refl
live_all rows (i ∷ ids) = cc (lives_has rows i, live_all rows ids)

pub ids_under : (s : Subst) (rows : List semantics.Row) → ids_of (rows_under s rows) ≡ ids_of rows
ids_under s [] = refl
ids_under s (c ∷ rows) = ap (λ (l : List ℕ). c.0 ∷ l) (ids_under s rows)

any_append : (p : ℕ × List ℕ → Bool) (xs ys : History) → list_any p (xs ++ ys) ≡ (list_any p xs || list_any p ys)
any_append p [] ys = refl
any_append p (x ∷ xs) ys = by_test (p x) (any_append p xs ys)
  where
    by_test : (b : Bool) → list_any p (xs ++ ys) ≡ (list_any p xs || list_any p ys) → (b || list_any p (xs ++ ys)) ≡ ((b || list_any p xs) || list_any p ys)
    by_test true e = refl
    by_test false e = e

pub all_kept : {X : Type 0} (p : X → Bool) (xs : List X) → ((x : X) → p x ≡ true) → filter p xs ≡ xs
all_kept p [] h = refl
all_kept {X = X} p (x ∷ xs) h = ap (λ (b : Bool). cond b (x ∷ filter p xs) (filter p xs)) (h x) ∙ ap (λ (l : List X). x ∷ l) (all_kept p xs h)

and_no : (b c : Bool) → c ≡ false → (b && c) ≡ false
and_no true c h = h
and_no false c h = refl

-- an entry is among the living ones where its identities all live
pub fired_live : (rs : List semantics.Row) (h : History) (r : ℕ) (ids : List ℕ) → fired_before (live_entries rs h) r ids ≡ (fired_before h r ids && list_all (has_number (ids_of rs)) ids)
fired_live rs [] r ids = refl
fired_live rs (f ∷ h) r ids = by (list_all (has_number (ids_of rs)) f.1) (f.0 == r && same_ids f.1 ids) refl refl (fired_live rs h r ids)
  where
    alike : (f.0 == r && same_ids f.1 ids) ≡ true → list_all (has_number (ids_of rs)) f.1 ≡ list_all (has_number (ids_of rs)) ids
    alike e = ap (list_all (has_number (ids_of rs))) ((same_ids_Decides f.1 ids).0 (and_parts (f.0 == r) (same_ids f.1 ids) e).1)

    by : (a t : Bool) → list_all (has_number (ids_of rs)) f.1 ≡ a → (f.0 == r && same_ids f.1 ids) ≡ t
        → fired_before (live_entries rs h) r ids ≡ (fired_before h r ids && list_all (has_number (ids_of rs)) ids)
        → fired_before (cond a (f ∷ live_entries rs h) (live_entries rs h)) r ids ≡ ((t || fired_before h r ids) && list_all (has_number (ids_of rs)) ids)
    by true true ea et go = ap (λ (b : Bool). b || fired_before (live_entries rs h) r ids) et ∙ sym (sym (alike et) ∙ ea)
    by true false ea et go = ap (λ (b : Bool). b || fired_before (live_entries rs h) r ids) et ∙ go
    by false true ea et go = let none = sym (alike et) ∙ ea in go ∙ and_no (fired_before h r ids) _ none ∙ sym none
    by false false ea et go = go

module _ {A : Type 0} (scope : Scope A) (rows : List semantics.Row) where
  one_entry : (f : ℕ × List ℕ) (r : ℕ) (ids : List ℕ) → fired_before (entries_kept scope rows (f ∷ [])) r ids ≡ (takes scope rows f && (r == f.0 && same_ids ids f.1))
  one_entry f r ids = by_test (list_all (has_number (ids_of rows)) f.1) (list_all (λ i. is_some (atom_of rows i)) f.1) (sym (live_all rows f.1)) (keeps_rule scope f.0) refl
    where
      is_it : (b c d e : Bool) → b ≡ d → c ≡ e → ((b && c) || false) ≡ (d && e)
      is_it b c d e x y = or-false (b && c) ∙ cc (x, y)

      by_test : (l m : Bool) → l ≡ m → (k : Bool) → keeps_rule scope f.0 ≡ k → fired_before (filter (λ (g : ℕ × List ℕ). keeps_rule scope g.0) (cond l (f ∷ []) [])) r ids ≡ ((k && m) && (r == f.0 && same_ids ids f.1))
      by_test true true e true kept = ap (λ (b : Bool). fired_before (cond b (f ∷ []) []) r ids) kept ∙ is_it (f.0 == r) (same_ids f.1 ids) (r == f.0) (same_ids ids f.1) (eqb_sym f.0 r) (same_ids_sym f.1 ids)
      by_test true true e false kept = ap (λ (b : Bool). fired_before (cond b (f ∷ []) []) r ids) kept
      by_test true false e k kept = cc
      by_test false true e k kept = cc
      by_test false false e true kept = refl
      by_test false false e false kept = refl

  -- one entry more
  pub entries_next : (h : History) (f : ℕ × List ℕ) (r : ℕ) (ids : List ℕ) → fired_before (entries_kept scope rows (h ++ f ∷ [])) r ids ≡ (fired_before (entries_kept scope rows h) r ids || (takes scope rows f && (r == f.0 && same_ids ids f.1)))
  entries_next h f r ids =
      ap (λ (l : History). fired_before l r ids)
      (ap (filter (λ (g : ℕ × List ℕ). keeps_rule scope g.0)) (filter-append (λ (g : ℕ × List ℕ). list_all (has_number (ids_of rows)) g.1) h (f ∷ []))
      ∙ filter-append (λ (g : ℕ × List ℕ). keeps_rule scope g.0) (live_entries rows h) (live_entries rows (f ∷ [])))
      ∙ (any_append (λ (g : ℕ × List ℕ). g.0 == r && same_ids g.1 ids) (entries_kept scope rows h) (entries_kept scope rows (f ∷ []))
      ∙ ap (λ (b : Bool). fired_before (entries_kept scope rows h) r ids || b) (one_entry f r ids))

  -- the next one of a list, whatever is noted with it
  module _ (h : History) (f : ℕ × List ℕ) (r : ℕ) (ids : List ℕ) (old before now : Bool) (so_far : before ≡ (old || fired_before (entries_kept scope rows h) r ids)) where
    pub entry_taken : takes scope rows f ≡ true → now ≡ (before || r == f.0 && same_ids ids f.1) → now ≡ (old || fired_before (entries_kept scope rows (h ++ f ∷ [])) r ids)
    entry_taken t e = by_test old (fired_before (entries_kept scope rows h) r ids) (takes scope rows f) (r == f.0 && same_ids ids f.1) t (e ∙ ap (λ (b : Bool). b || r == f.0 && same_ids ids f.1) so_far) ∙ ap (λ (b : Bool). old || b) (sym (entries_next h f r ids))
      where
        by_test : (o w t x : Bool) → t ≡ true → now ≡ ((o || w) || x) → now ≡ (o || (w || (t && x)))
        by_test true w t x et e = e
        by_test false w t x et e = cc

    pub entry_left : takes scope rows f ≡ false → now ≡ before → now ≡ (old || fired_before (entries_kept scope rows (h ++ f ∷ [])) r ids)
    entry_left t e = by_test old (fired_before (entries_kept scope rows h) r ids) (takes scope rows f) (r == f.0 && same_ids ids f.1) t (e ∙ so_far) ∙ ap (λ (b : Bool). old || b) (sym (entries_next h f r ids))
      where
        by_test : (o w t x : Bool) → t ≡ false → now ≡ (o || w) → now ≡ (o || (w || (t && x)))
        by_test true w t x et e = e
        by_test false true t x et e = e
        by_test false false t x et e = cc
