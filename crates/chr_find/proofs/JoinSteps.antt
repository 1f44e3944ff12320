-- The steps of the join.
use Rattle.std.proofs.Common.{◌≡◌, ◌^◌, ◌<◌, append-nil, ℕ, ◌+◌, Bool, true, false, ◌||◌, ◌==◌, List, [], ◌∷◌, ◌++◌, map, Option, Some, None, drop, subst, ap, refl, ◌∙◌, sym, ◌⊎◌, inl, inr}
use Rattle.std.specs.Prelude.{flat_map}
use Rattle.std.proofs.lemmas.List.Concat.{flat_map-append}
use Rattle.std.proofs.lemmas.List.Folds.{list_any-append}
use Rattle.chr_bind.specs.Matching.{AgreesWith, IsSame}
use Rattle.chr_bind.specs.declared.matching.Match.{Match}
use Rattle.chr_semantics.specs.Join.{Joined, after_row, joined}
use Rattle.chr_semantics.specs.Match.{Row, fit_atom}
use Rattle.chr_semantics.specs.Program.{Atom, Head, Rule}
use Rattle.chr_semantics.specs.Search.{History, has_number}
use Rattle.chr_semantics.specs.Subst.{Subst}
use Rattle.chr_find.specs.Enough.{TakesAs}
use Rattle.chr_find.specs.Threshold.{Threshold, next_threshold, passed}
use Rattle.chr_find.specs.Joins.{JoinIs, WalkIs, step_of}
use Rattle.chr_find.specs.SearchIs.{if_found}
use Rattle.chr_find.proofs.FoundLists.{finds_after, finds_first_part, finds_none, finds_same, finds_second_part}
use Rattle.chr_find.proofs.Thresholds.{passed-after}
use Rattle.chr_semantics.proofs.JoinLaw.{branch_none}

step_used : (rows : List Row) (a : Row) (place : ℕ) (hs : List Head) (used : List ℕ) (k : ℕ) (m : Subst) (h : Atom) (c : Row) → has_number (a.0 ∷ used) c.0 ≡ true → step_of rows a place hs used k m h c ≡ []
step_used rows a place hs used k m h c e = rw e refl

pub step_misfit : (rows : List Row) (a : Row) (place : ℕ) (hs : List Head) (used : List ℕ) (k : ℕ) (m : Subst) (h : Atom) (c : Row) → fit_atom h c.1 m ≡ None → step_of rows a place hs used k m h c ≡ []
step_misfit rows a place hs used k m h c e = branch_none (λ n. joined rows a place hs (c.0 ∷ used) (k + 1) n) c (has_number (a.0 ∷ used) c.0) (fit_atom h c.1 m) e

step_fits : (rows : List Row) (a : Row) (place : ℕ) (hs : List Head) (used : List ℕ) (k : ℕ) (m n : Subst) (h : Atom) (c : Row) → has_number (a.0 ∷ used) c.0 ≡ false → fit_atom h c.1 m ≡ Some n
    → step_of rows a place hs used k m h c ≡ map (after_row c) (joined rows a place hs (c.0 ∷ used) (k + 1) n)
step_fits rows a place hs used k m n h c u e = rw (u, e) refl

-- one more partner
or_turned : (a b c : Bool) → a ≡ b → (c || a) ≡ (b || (c || false))
or_turned true b true h = cc
or_turned true b false h = cc
or_turned false true c h = cc
or_turned false false true h = refl
or_turned false false false h = refl

pub used_next : (used prefix longer : List ℕ) (c : ℕ) → longer ≡ prefix ++ c ∷ [] → ((d : ℕ) → has_number used d ≡ has_number prefix d) → (d : ℕ) → has_number (c ∷ used) d ≡ has_number longer d
used_next used prefix longer c is h d = or_turned (has_number used d) (has_number prefix d) (d == c) (h d) ∙ (sym (list_any-append (λ (j : ℕ). d == j) prefix (c ∷ [])) ∙ ap (λ (l : List ℕ). has_number l d) (sym is))

left_out : (rows : List Row) (a : Row) (place : ℕ) (hs : List Head) (used : List ℕ) (k : ℕ) (m : Subst) (h : Atom) (c : Row) (known : List ℕ) → has_number (a.0 ∷ used) c.0 ≡ has_number known c.0
    → (has_number known c.0 ≡ true) ⊎ (fit_atom h c.1 m ≡ None) → step_of rows a place hs used k m h c ≡ []
left_out rows a place hs used k m h c known same (inl e) = step_used rows a place hs used k m h c (same ∙ e)
left_out rows a place hs used k m h c known same (inr e) = step_misfit rows a place hs used k m h c e

-- the own identity and the partners so far
pub known_as : (a : Row) (own : ℕ) (used prefix : List ℕ) → a.0 ≡ own → ((c : ℕ) → has_number used c ≡ has_number prefix c) → (c : ℕ) → has_number (a.0 ∷ used) c ≡ has_number (own ∷ prefix) c
known_as a own used prefix e h c = cc (e, h c)

module _ {A : Type 0} (rows : List Row) (h : History) (r : ℕ) (rule : Rule) (place own level : ℕ) (partners : List ℕ) (matching : Match A) (from quiet : ℕ) (threshold : Threshold) (head : Atom) where
  -- no rows
  pub walk_none : (told : ℕ) → told < 2 ^ 64 → WalkIs rows h r rule place own level partners matching from quiet threshold head [] None told told
  walk_none told small a used m owns known agrees q = finds_none h r rule.guard partners told small

  -- found among the first rows
  pub walk_first : (xs ys : List Row) (l : List ℕ) (told now : ℕ) → WalkIs rows h r rule place own level partners matching from quiet threshold head xs (Some l) told now → WalkIs rows h r rule place own level partners matching from quiet threshold head (xs ++ ys) (Some l) told now
  walk_first xs ys l told now w a used m owns known agrees q =
      let f : Row → List Joined = λ c. passed from threshold (step_of rows a place (drop (level + 1) rule.heads) used level m head c) in
      finds_same h r rule.guard partners (flat_map f (xs ++ ys)) (flat_map f xs ++ flat_map f ys) (Some l) told now (flat_map-append f xs ys)
      (finds_first_part h r rule.guard partners (flat_map f xs) (flat_map f ys) l told now (w a used m owns known agrees q))

  -- not found there
  pub walk_second : (xs ys : List Row) (result : Option (List ℕ)) (told mid now : ℕ) → WalkIs rows h r rule place own level partners matching from quiet threshold head xs None told mid → WalkIs rows h r rule place own level partners matching from quiet threshold head ys result mid now
      → WalkIs rows h r rule place own level partners matching from quiet threshold head (xs ++ ys) result told now
  walk_second xs ys result told mid now v w a used m owns known agrees q =
      let f : Row → List Joined = λ c. passed from threshold (step_of rows a place (drop (level + 1) rule.heads) used level m head c) in
      finds_same h r rule.guard partners (flat_map f (xs ++ ys)) (flat_map f xs ++ flat_map f ys) result told now (flat_map-append f xs ys)
      (finds_second_part h r rule.guard partners (flat_map f xs) (flat_map f ys) result told mid now (v a used m owns known agrees q) (w a used m owns known agrees q))

  -- the same for a match that is the same
  pub walk_same : (old : Match A) (xs : List Row) (result : Option (List ℕ)) (told now : ℕ) → IsSame old matching → WalkIs rows h r rule place own level partners matching from quiet threshold head xs result told now
      → WalkIs rows h r rule place own level partners old from quiet threshold head xs result told now
  walk_same old xs result told now same w a used m owns known agrees q = w a used m owns known (λ x. same x ∙ agrees x) q

  -- the same of a walk that is made of both
  pub walk_found : (walked xs ys : List Row) (b : Bool) (l : List ℕ) (told now : ℕ) → walked ≡ xs ++ ys → b ≡ true → WalkIs rows h r rule place own level partners matching from quiet threshold head xs (if_found b l) told now
      → WalkIs rows h r rule place own level partners matching from quiet threshold head walked (Some l) told now
  walk_found walked xs ys true l told now is e w = subst (λ (cs : List Row). WalkIs rows h r rule place own level partners matching from quiet threshold head cs (Some l) told now) (sym is) (walk_first xs ys l told now w)
  walk_found walked xs ys false l told now is e w = absurd (let no : false ≡ true = e in cc)

  pub walk_on : (walked xs ys : List Row) (b : Bool) (l : List ℕ) (result : Option (List ℕ)) (told mid now : ℕ) → walked ≡ xs ++ ys → b ≡ false → WalkIs rows h r rule place own level partners matching from quiet threshold head xs (if_found b l) told mid
      → WalkIs rows h r rule place own level partners matching from quiet threshold head ys result mid now → WalkIs rows h r rule place own level partners matching from quiet threshold head walked result told now
  walk_on walked xs ys true l result told mid now is e v w = absurd (let no : true ≡ false = e in cc)
  walk_on walked xs ys false l result told mid now is e v w = subst (λ (cs : List Row). WalkIs rows h r rule place own level partners matching from quiet threshold head cs result told now) (sym is) (walk_second xs ys result told mid now v w)

  -- a row that is left out
  pub row_out : (c : Row) (next : Match A) (told : ℕ) → told < 2 ^ 64 → TakesAs false (own ∷ partners) head c matching next → WalkIs rows h r rule place own level partners matching from quiet threshold head (c ∷ []) None told told
  row_out c next told small t a used m owns known agrees q =
      let e : step_of rows a place (drop (level + 1) rule.heads) used level m head c ≡ [] = left_out rows a place (drop (level + 1) rule.heads) used level m head c (own ∷ partners) (known_as a own used partners owns known c.0) (t m agrees) in
      finds_same h r rule.guard partners (passed from threshold (step_of rows a place (drop (level + 1) rule.heads) used level m head c) ++ []) [] None told told (ap (λ (l : List Joined). passed from threshold l ++ []) e)
      (finds_none h r rule.guard partners told small)

  -- a row that is taken
  pub row_taken : (c : Row) (longer : List ℕ) (next : Match A) (result : Option (List ℕ)) (told now : ℕ) → longer ≡ partners ++ c.0 ∷ [] → TakesAs true (own ∷ partners) head c matching next
      → JoinIs rows h r rule place own (level + 1) longer next from quiet (next_threshold from threshold c.0) result told now → WalkIs rows h r rule place own level partners matching from quiet threshold head (c ∷ []) result told now
  row_taken c longer next result told now at t j a used m owns known agrees q =
      let hs : List Head = drop (level + 1) rule.heads in
      let n : (n : Subst) × (has_number (own ∷ partners) c.0 ≡ false) × (fit_atom head c.1 m ≡ Some n) × AgreesWith next n = t m agrees in
      let further : List Joined = joined rows a place hs (c.0 ∷ used) (level + 1) n.0 in
      let e : step_of rows a place hs used level m head c ≡ map (after_row c) further = step_fits rows a place hs used level m n.0 head c (known_as a own used partners owns known c.0 ∙ n.1) n.2 in
      finds_same h r rule.guard partners (passed from threshold (step_of rows a place hs used level m head c) ++ []) (map (after_row c) (passed from (next_threshold from threshold c.0) further)) result told now
      (append-nil (passed from threshold (step_of rows a place hs used level m head c)) ∙ (ap (passed from threshold) e ∙ passed-after from threshold c further))
      (finds_after h r rule.guard partners c longer (passed from (next_threshold from threshold c.0) further) result told now at
      (j a (c.0 ∷ used) n.0 owns (used_next used partners longer c.0 at known) n.3 q))
