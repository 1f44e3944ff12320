-- The end of the join, its own head, and what it looks at.
use Rattle.std.proofs.Common.{◌≡◌, ◌^◌, ◌<◌, ◌≤◌, ℕ, ◌+◌, Bool, true, false, cond, not, ◌&&◌, ◌==◌, List, [], ◌∷◌, ◌++◌, map, Option, Some, None, option_map, length, drop, ap, refl, ◌∙◌, sym, append-nil, arith}
use Rattle.std.specs.Prelude.{filter, flat_map, slice_get}
use Rattle.std.proofs.lemmas.List.{drop_all}
use Rattle.chr_bind.specs.Matching.{AgreesWith}
use Rattle.chr_bind.specs.declared.matching.Match.{Match}
use Rattle.chr_semantics.specs.Guard.{all_entailed}
use Rattle.chr_semantics.specs.Join.{Joined, after_row, joined}
use Rattle.chr_semantics.specs.Match.{Row, fit_atom}
use Rattle.chr_semantics.specs.Program.{Head, Rule, Test}
use Rattle.chr_semantics.specs.Search.{History, fired_before, ids_of}
use Rattle.chr_semantics.specs.Subst.{Subst}
use Rattle.chr_semantics.specs.Tries.{capped}
use Rattle.chr_find.specs.Finds.{Finds, best, entering}
use Rattle.chr_find.specs.Threshold.{Threshold, admits, next_threshold, passed}
use Rattle.chr_find.specs.Joins.{JoinIs, WalkIs, step_of}
use Rattle.chr_find.proofs.FoundLists.{finds_after, finds_same}
use Rattle.chr_find.proofs.Thresholds.{passed-after, passed-flat_map}
use Rattle.chr_find.proofs.JoinSteps.{step_misfit, used_next}
use Rattle.chr_find.proofs.SearchParts.{drop_at}
use Rattle.chr_semantics.proofs.SearchedLists.{flat_map-filter}

end_picked : (t : Bool) (prefix : List ℕ) (m : Subst) → option_map (λ (p : Joined). prefix ++ ids_of p.0) (cond t (Some ([], m)) None) ≡ cond t (Some prefix) None
end_picked true prefix m = ap (λ (l : List ℕ). Some l) (append-nil prefix)
end_picked false prefix m = refl

end_at : (b d : Bool) (h : History) (r : ℕ) (guard : List Test) (prefix : List ℕ) (m : Subst) → all_entailed m guard ≡ b → fired_before h r prefix ≡ d → best h r guard prefix (([], m) ∷ []) ≡ cond (b && not d) (Some prefix) None
end_at b d h r guard prefix m e f =
    end_picked (all_entailed m guard && not (fired_before h r (prefix ++ []))) prefix m
    ∙ (ap (λ (x : Bool). cond (x && not (fired_before h r (prefix ++ []))) (Some prefix) None) e
    ∙ (ap (λ (l : List ℕ). cond (b && not (fired_before h r l)) (Some prefix) None) (append-nil prefix)
    ∙ ap (λ (x : Bool). cond (b && not x) (Some prefix) None) f))

joined_end : (rows : List Row) (a : Row) (place : ℕ) (hs : List Head) (used : List ℕ) (k : ℕ) (m : Subst) → hs ≡ [] → joined rows a place hs used k m ≡ ([], m) ∷ []
joined_end rows a place hs used k m e = rw e refl

capped_plain : (n : ℕ) → n < 2 ^ 64 → n ≡ capped (n + 0)
capped_plain n small = omega (arith, small)

passed_one : (from : ℕ) (threshold : Threshold) (b : Bool) (p : Joined) → admits from threshold (ids_of p.0) ≡ b → passed from threshold (p ∷ []) ≡ cond b (p ∷ []) []
passed_one from threshold b p e = ap (λ (x : Bool). cond x (p ∷ []) []) e

tried_alone : (b : Bool) → cond b 1 (0 + 1) ≡ 1
tried_alone true = refl
tried_alone false = omega arith

module _ {A : Type 0} (rows : List Row) (h : History) (r : ℕ) (rule : Rule) (place own level : ℕ) (partners : List ℕ) (matching : Match A) (from quiet : ℕ) (threshold : Threshold) (told : ℕ) (past : length rule.heads ≤ level) where
  end_is : (b d : Bool) → fired_before h r partners ≡ d → (m : Subst) → all_entailed m rule.guard ≡ b → best h r rule.guard partners (([], m) ∷ []) ≡ cond (b && not d) (Some partners) None
  end_is b d fired m e = end_at b d h r rule.guard partners m e fired

  whole_is : (b : Bool) → admits from threshold [] ≡ b → (a : Row) (used : List ℕ) (m : Subst) → passed from threshold (joined rows a place (drop level rule.heads) used level m) ≡ cond b (([], m) ∷ []) []
  whole_is b opens a used m = ap (passed from threshold) (joined_end rows a place (drop level rule.heads) used level m (drop_all level rule.heads past)) ∙ passed_one from threshold b ([], m) opens

  -- the threshold does not admit the list
  pub end_closed : told < 2 ^ 64 → admits from threshold [] ≡ false → JoinIs rows h r rule place own level partners matching from quiet threshold None told told
  end_closed small closed a used m owns known agrees q =
      finds_same h r rule.guard partners _ [] None told told (whole_is false closed a used m) (record { found = refl; tries = capped_plain told small })

  open_end : admits from threshold [] ≡ true → (a : Row) (used : List ℕ) (m : Subst) (result : Option (List ℕ)) (now : ℕ) → now ≡ capped (told + 1) → result ≡ best h r rule.guard partners (([], m) ∷ [])
      → Finds h r rule.guard partners (passed from threshold (joined rows a place (drop level rule.heads) used level m)) result told now
  open_end opens a used m result now one e =
      finds_same h r rule.guard partners _ (([], m) ∷ []) result told now (whole_is true opens a used m)
      (record { found = e; tries = one ∙ ap (λ (k : ℕ). capped (told + k)) (sym (tried_alone (entering h r rule.guard partners ([], m)))) })

  and_fired : (b : Bool) → ◌≡◌ {A = Option (List ℕ)} (cond (b && not true) (Some partners) None) None
  and_fired true = refl
  and_fired false = refl

  pub end_fired : (now : ℕ) → admits from threshold [] ≡ true → now ≡ capped (told + 1) → fired_before h r partners ≡ true → JoinIs rows h r rule place own level partners matching from quiet threshold None told now
  end_fired now opens one fired a used m owns known agrees q = open_end opens a used m None now one (sym (end_is (all_entailed m rule.guard) true fired m refl ∙ and_fired (all_entailed m rule.guard)))

  pub end_found : (now : ℕ) → admits from threshold [] ≡ true → now ≡ capped (told + 1) → fired_before h r partners ≡ false → ((m : Subst) → AgreesWith matching m → true ≡ all_entailed m rule.guard)
      → JoinIs rows h r rule place own level partners matching from quiet threshold (Some partners) told now
  end_found now opens one fired holds a used m owns known agrees q =
      open_end opens a used m (Some partners) now one (sym (end_is true false fired m (sym (holds m agrees))))

  pub end_unguarded : (now : ℕ) → admits from threshold [] ≡ true → now ≡ capped (told + 1) → ((m : Subst) → AgreesWith matching m → false ≡ all_entailed m rule.guard) → JoinIs rows h r rule place own level partners matching from quiet threshold None told now
  end_unguarded now opens one holds a used m owns known agrees q = open_end opens a used m None now one (sym (end_is false (fired_before h r partners) refl m (sym (holds m agrees))))

-- at the own place the join goes on with the own row
joined_own : (rows : List Row) (a : Row) (place : ℕ) (x : Head) (hs : List Head) (used : List ℕ) (k : ℕ) (m : Subst) (all : List Head) → all ≡ x ∷ hs → (k == place) ≡ true
    → joined rows a place all used k m ≡ map (after_row a) (joined rows a place hs (a.0 ∷ used) (k + 1) m)
joined_own rows a place x hs used k m all is here = rw (is, here) refl

-- and elsewhere with each row
joined_here : (rows : List Row) (a : Row) (place : ℕ) (x : Head) (hs : List Head) (used : List ℕ) (k : ℕ) (m : Subst) (all : List Head) → all ≡ x ∷ hs → (k == place) ≡ false
    → joined rows a place all used k m ≡ flat_map (λ c. step_of rows a place hs used k m x.atom c) rows
joined_here rows a place x hs used k m all is other = rw (is, other) refl

module _ {A : Type 0} (rows : List Row) (h : History) (r : ℕ) (rule : Rule) (place own level : ℕ) (partners : List ℕ) (matching : Match A) (from quiet : ℕ) (threshold : Threshold) (x : Head) (at : slice_get rule.heads level ≡ Some x) where
  pub at_own : (longer : List ℕ) (result : Option (List ℕ)) (told now : ℕ) → longer ≡ partners ++ own ∷ [] → (level == place) ≡ true
      → JoinIs rows h r rule place own (level + 1) longer matching from quiet (next_threshold from threshold own) result told now → JoinIs rows h r rule place own level partners matching from quiet threshold result told now
  at_own longer result told now next here j a used m owns known agrees q =
      let hs : List Head = drop (level + 1) rule.heads in
      let longer_is : longer ≡ partners ++ a.0 ∷ [] = next ∙ ap (λ (i : ℕ). partners ++ i ∷ []) (sym owns) in
      let further : List Joined = joined rows a place hs (a.0 ∷ used) (level + 1) m in
      finds_same h r rule.guard partners (passed from threshold (joined rows a place (drop level rule.heads) used level m)) (map (after_row a) (passed from (next_threshold from threshold own) further)) result told now
      (ap (passed from threshold) (joined_own rows a place x hs used level m (drop level rule.heads) (drop_at rule.heads level x at) here) ∙ (passed-after from threshold a further ∙ ap (λ (i : ℕ). map (after_row a) (passed from (next_threshold from threshold i) further)) owns))
      (finds_after h r rule.guard partners a longer (passed from (next_threshold from threshold own) further) result told now longer_is
      (j a (a.0 ∷ used) m owns (used_next used partners longer a.0 longer_is known) agrees q))

  -- the rows that some test keeps are enough
  pub from_walk : (keep : Row → Bool) (result : Option (List ℕ)) (told now : ℕ) → (level == place) ≡ false → ((m : Subst) → AgreesWith matching m → (c : Row) → keep c ≡ false → fit_atom x.atom c.1 m ≡ None)
      → WalkIs rows h r rule place own level partners matching from quiet threshold x.atom (filter keep rows) result told now → JoinIs rows h r rule place own level partners matching from quiet threshold result told now
  from_walk keep result told now other enough w a used m owns known agrees q =
      let hs : List Head = drop (level + 1) rule.heads in
      let step : Row → List Joined = λ c. step_of rows a place hs used level m x.atom c in
      let f : Row → List Joined = λ c. passed from threshold (step c) in
      finds_same h r rule.guard partners (passed from threshold (joined rows a place (drop level rule.heads) used level m)) (flat_map f (filter keep rows)) result told now
      (ap (passed from threshold) (joined_here rows a place x hs used level m (drop level rule.heads) (drop_at rule.heads level x at) other)
      ∙ (passed-flat_map from threshold step rows ∙ sym (flat_map-filter f keep rows (λ c out. ap (passed from threshold) (step_misfit rows a place hs used level m x.atom c (enough m agrees c out))))))
      (w a used m owns known agrees q)
