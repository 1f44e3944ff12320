-- What the join finds for the heads from a level on.
use Rattle.std.specs.Prelude.{◌≡◌, ◌<◌, ℕ, ◌+◌, true, false, ◌==◌, List, [], ◌∷◌, Option, flat_map, drop}
use Rattle.chr_bind.specs.Matching.{AgreesWith}
use Rattle.chr_bind.specs.declared.matching.Match.{Match}
use Rattle.chr_semantics.specs.Cursor.{is_new}
use Rattle.chr_semantics.specs.Join.{Joined, branch, joined}
use Rattle.chr_semantics.specs.Keys.{is_of}
use Rattle.chr_semantics.specs.Match.{Row, fit_atom}
use Rattle.chr_semantics.specs.Program.{Atom, Head, Rule}
use Rattle.chr_semantics.specs.Search.{History, has_number}
use Rattle.chr_semantics.specs.Subst.{Subst}
use Rattle.chr_find.specs.Finds.{Finds}
use Rattle.chr_find.specs.Threshold.{Threshold, passed}

-- what lies after one row
abbrev pub step_of : List Row → Row → ℕ → List Head → List ℕ → ℕ → Subst → Atom → Row → List Joined
step_of rows a place hs used k m h c = branch (λ n. joined rows a place hs (c.0 ∷ used) (k + 1) n) c (has_number (a.0 ∷ used) c.0) (fit_atom h c.1 m)

-- no row of the symbol is new
abbrev pub AreOld : ℕ → ℕ → List Row → Type 0
AreOld from f [] = Unit {0}
AreOld from f (c ∷ rows) = (is_of f c ≡ true → is_new from c.0 ≡ false) × AreOld from f rows

-- for the k-th head there is no new row, and at the own place the own one is not
abbrev pub IsQuietAt : List Row → ℕ → ℕ → ℕ → ℕ → Head → Type 0
IsQuietAt rows place own from k h = ((k == place) ≡ true → is_new from own ≡ false) × ((k == place) ≡ false → AreOld from h.atom.sym rows)

-- nor for those after it
abbrev pub QuietFrom : List Row → ℕ → ℕ → ℕ → ℕ → List Head → Type 0
QuietFrom rows place own from k [] = Unit {0}
QuietFrom rows place own from k (h ∷ hs) = IsQuietAt rows place own from k h × QuietFrom rows place own from (k + 1) hs

-- from each head on that is at least the quiet one no row is new
abbrev pub IsQuiet : List Row → List Head → ℕ → ℕ → ℕ → ℕ → Type 0
IsQuiet rows heads place own from quiet = (k : ℕ) → quiet < k + 1 → QuietFrom rows place own from k (drop k heads)

-- For each match that agrees with the code's, whose partners so far are the prefix, that is what lies behind them.
abbrev pub ForMatches : {A : Type 0} → List Row → Rule → ℕ → ℕ → ℕ → List ℕ → Match A → ℕ → ℕ → (Row → List ℕ → Subst → Type 0) → Type 0
ForMatches rows rule place own level partners matching from quiet P =
    (a : Row) (used : List ℕ) (m : Subst) → a.0 ≡ own → ((c : ℕ) → has_number used c ≡ has_number partners c) → AgreesWith matching m → IsQuiet rows rule.heads place own from quiet → P a used m

-- The partners so far are the prefix, and the list is what the join finds behind it.
abbrev pub JoinIs : {A : Type 0} → List Row → History → ℕ → Rule → ℕ → ℕ → ℕ → List ℕ → Match A → ℕ → ℕ → Threshold → Option (List ℕ) → ℕ → ℕ → Type 0
JoinIs rows h r rule place own level partners matching from quiet threshold result told now =
    ForMatches rows rule place own level partners matching from quiet
    (λ a used m. Finds h r rule.guard partners (passed from threshold (joined rows a place (drop level rule.heads) used level m)) result told now)

-- the same among the rows of a walk, for a head
abbrev pub WalkIs : {A : Type 0} → List Row → History → ℕ → Rule → ℕ → ℕ → ℕ → List ℕ → Match A → ℕ → ℕ → Threshold → Atom → List Row → Option (List ℕ) → ℕ → ℕ → Type 0
WalkIs rows h r rule place own level partners matching from quiet threshold head walked result told now =
    ForMatches rows rule place own level partners matching from quiet
    (λ a used m. Finds h r rule.guard partners
    (flat_map (λ (c : Row). passed from threshold (step_of rows a place (drop (level + 1) rule.heads) used level m head c)) walked) result told now)
