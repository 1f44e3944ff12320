-- How many partial lists a join comes to behind the partners so far.
use Rattle.std.specs.Prelude.{◌≡◌, ℕ, ◌+◌, Bool, List, ◌∷◌, flat_map, drop}
use Rattle.std.specs.List.{list_any}
use Rattle.chr_bind.specs.Matching.{AgreesWith}
use Rattle.chr_bind.specs.declared.matching.Match.{Match}
use Rattle.chr_semantics.specs.Match.{Row, fit_atom}
use Rattle.chr_semantics.specs.Program.{Atom, Head, Rule, Test}
use Rattle.chr_semantics.specs.Search.{History, has_number}
use Rattle.chr_semantics.specs.Subst.{Subst}
use Rattle.chr_semantics.specs.Trail.{Trail, branch, partial, trail, wholes}
use Rattle.chr_semantics.specs.Tries.{capped}
use Rattle.chr_find.specs.Finds.{entering}

-- It is known whether one that can fire is found, and each partial list before it counts one.
pub record Counts (h : History) (r : ℕ) (guard : List Test) (prefix : List ℕ) (t : Trail) (is_found : Bool) (told now : ℕ) : Type 0 where
  pub found : is_found ≡ list_any (entering h r guard prefix) (wholes t)
  pub partial : now ≡ capped (told + partial (entering h r guard prefix) t)

-- what lies after one row
abbrev pub trail_after : List Row → Row → ℕ → List Head → List ℕ → ℕ → Subst → Atom → Row → Trail
trail_after rows a place hs used k m h c = branch (λ n. trail rows a place hs (c.0 ∷ used) (k + 1) n) c (has_number (a.0 ∷ used) c.0) (fit_atom h c.1 m)

-- for each match that agrees with the code's, whose partners so far are the prefix
abbrev pub ForPrefix : {A : Type 0} → ℕ → List ℕ → Match A → (Row → List ℕ → Subst → Type 0) → Type 0
ForPrefix own partners matching P = (a : Row) (used : List ℕ) (m : Subst) → a.0 ≡ own → ((c : ℕ) → has_number used c ≡ has_number partners c) → AgreesWith matching m → P a used m

-- for the heads from the level on
abbrev pub JoinCounts : {A : Type 0} → List Row → History → ℕ → Rule → ℕ → ℕ → ℕ → List ℕ → Match A → Bool → ℕ → ℕ → Type 0
JoinCounts rows h r rule place own level partners matching found told now =
    ForPrefix own partners matching (λ a used m. Counts h r rule.guard partners (trail rows a place (drop level rule.heads) used level m) found told now)

-- with these rows alone for a head at the level
abbrev pub WalkCounts : {A : Type 0} → List Row → History → ℕ → Rule → ℕ → ℕ → ℕ → List ℕ → Match A → Atom → List Row → Bool → ℕ → ℕ → Type 0
WalkCounts rows h r rule place own level partners matching head walked found told now =
    ForPrefix own partners matching (λ a used m. Counts h r rule.guard partners (flat_map (λ (c : Row). trail_after rows a place (drop (level + 1) rule.heads) used level m head c) walked) found told now)
