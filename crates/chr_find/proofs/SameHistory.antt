-- Histories that agree on the identities of the rows: a search comes to the same with either.
use Rattle.std.proofs.Common.{◌≡◌, ◌∙◌, ◌+◌, ℕ, zero, suc, Bool, true, false, not, cond, ◌&&◌, List, [], ◌∷◌, ap, refl, sym, subst, arith, length, ◌⊎◌, inl, inr, Option, Some}
use Rattle.std.specs.List.{list_all}
use Rattle.std.specs.Prelude.{Contains, filter, find, option_map}
use Rattle.std.proofs.lemmas.Bool.{and_from, and_parts}
use Rattle.chr_semantics.specs.Cursor.{IsSpent}
use Rattle.chr_semantics.specs.Match.{Row, fits}
use Rattle.chr_semantics.specs.Program.{Rule}
use Rattle.chr_semantics.specs.Search.{History, can_fire, fired_before, first_tuple, ids_of, passes_guard, tuples}
use Rattle.chr_semantics.specs.Tries.{capped, fits_some, tried, tried_tuples}
use Rattle.chr_find.specs.First.{IsFirst}
use Rattle.chr_semantics.proofs.DeadEntriesLaw.{AllRows, tuples_all}
use Rattle.chr_semantics.proofs.Lists.{contains_cases}

contains_later : {X : Type 0} (x y : X) (xs : List X) → Contains xs y → Contains (x ∷ xs) y
contains_later x y xs (k, lt, e) = (suc k, omega (arith, lt), e)

same_find_at : {X : Type 0} (b c : Bool) (t : X) (m n : Option X) → b ≡ c → m ≡ n → cond b (Some t) m ≡ cond c (Some t) n
same_find_at b c t m n e f = cc

find_alike : {X : Type 0} (f g : X → Bool) (ts : List X) → ((t : X) → Contains ts t → f t ≡ g t) → find f ts ≡ find g ts
find_alike f g [] h = refl
find_alike f g (t ∷ ts) h = same_find_at (f t) (g t) t _ _ (h t (zero, omega arith, refl)) (find_alike f g ts (λ u c. h u (contains_later t u ts c)))

ids_live : (live : ℕ → Bool) (t : List Row) → list_all (λ (c : Row). live c.0) t ≡ true → list_all live (ids_of t) ≡ true
ids_live live [] e = refl
ids_live live (c ∷ t) e = let w = and_parts (live c.0) _ e in and_from (live c.0) (list_all live (ids_of t)) w.0 (ids_live live t w.1)

tried_if : (b c : Bool) (m n : ℕ) → b ≡ c → m ≡ n → cond b 1 (m + 1) ≡ cond c 1 (n + 1)
tried_if b c m n e f = cc

tried_kept : {X : Type 0} (p q : X → Bool) (b : Bool) (t : X) (ts : List X) → p t ≡ q t → tried p ts ≡ tried q ts → tried p (cond b (t ∷ ts) ts) ≡ tried q (cond b (t ∷ ts) ts)
tried_kept p q true t ts e f = tried_if (p t) (q t) (tried p ts) (tried q ts) e f
tried_kept p q false t ts e f = f

tried_same : {X : Type 0} (p q s : X → Bool) (ts : List X) → ((t : X) → Contains ts t → p t ≡ q t) → tried p (filter s ts) ≡ tried q (filter s ts)
tried_same p q s [] h = refl
tried_same p q s (t ∷ ts) h = tried_kept p q (s t) t (filter s ts) (h t (zero, omega arith, refl)) (tried_same p q s ts (λ u c. h u (contains_later t u ts c)))

rows_contained : (test : Row → Bool) (ts : List (List Row)) (t : List Row) → AllRows test ts → Contains ts t → list_all test t ≡ true
rows_contained test [] t h c = absurd (omega (arith, c.1))
rows_contained test (x ∷ ts) t h c = by_case (rows_contained test ts t h.1) (contains_cases x t ts c)
  where
    by_case : (Contains ts t → list_all test t ≡ true) → (x ≡ t) ⊎ Contains ts t → list_all test t ≡ true
    by_case go (inl e) = subst (λ (l : List Row). list_all test l ≡ true) e h.0
    by_case go (inr d) = go d

module _ (rows : List Row) (h k : History) (r : ℕ) (rule : Rule) (place : ℕ) (a : Row) (live : ℕ → Bool) (own : live a.0 ≡ true) (all : list_all (λ (c : Row). live c.0) rows ≡ true)
    (same : (ids : List ℕ) → list_all live ids ≡ true → fired_before h r ids ≡ fired_before k r ids) where
  all_live : AllRows (λ (c : Row). live c.0) (tuples rows rule place a)
  all_live = tuples_all (λ (c : Row). live c.0) rows a place (length rule.heads) [] 0 own all

  can_alike : (t : List Row) → Contains (tuples rows rule place a) t → can_fire h r rule t ≡ can_fire k r rule t
  can_alike t c =
      ap (λ (b : Bool). passes_guard rule (fits rule.heads t) && not b)
      (same (ids_of t) (ids_live live t (rows_contained (λ (d : Row). live d.0) (tuples rows rule place a) t all_live c)))

  pub first_alike : first_tuple rows h r rule place a ≡ first_tuple rows k r rule place a
  first_alike = find_alike (can_fire h r rule) (can_fire k r rule) (tuples rows rule place a) can_alike

  pub tried_alike : tried_tuples rows h r rule place a ≡ tried_tuples rows k r rule place a
  tried_alike = tried_same (can_fire h r rule) (can_fire k r rule) (fits_some rule) (tuples rows rule place a) can_alike

  pub spent_alike : (l : List ℕ) (from : ℕ) → IsSpent rows h r rule place a l from → IsSpent rows k r rule place a l from
  spent_alike l from spent t c e = spent t c (can_alike t c ∙ e)

  -- what is found with the one is found with the other
  pub first_too : (result : Option (List ℕ)) → IsFirst rows k r rule place a result → IsFirst rows h r rule place a result
  first_too result e = e ∙ ap (option_map ids_of) (sym first_alike)

  pub tried_too : (told now : ℕ) → now ≡ capped (told + tried_tuples rows k r rule place a) → now ≡ capped (told + tried_tuples rows h r rule place a)
  tried_too told now e = e ∙ ap (λ (m : ℕ). capped (told + m)) (sym tried_alike)
