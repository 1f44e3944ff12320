-- What a match of the code is as a match of the definitions, and what matching does to it.
use Rattle.std.specs.Prelude.{◌≡◌, ℕ, Bool, true, false, cond, Option, Some, None, MatchBool, is_some}
use Rattle.chr_semantics.specs.Tree.{Tree, Trees}
use Rattle.chr_semantics.specs.Subst.{Subst}
use Rattle.chr_semantics.specs.Match.{match_at, fit, fit_all}
use Rattle.chr_bind.specs.MatchedTerms.{is_marked, tree_at}
use Rattle.chr_bind.specs.declared.matching.Marks.{Marks}
use Rattle.chr_bind.specs.declared.matching.Match.{Match}

module _ {A : Type 0} where
  -- what a variable is matched to, if it is
  abbrev pub matched_tree : Match A → ℕ → Option Tree
  matched_tree h x = cond (is_marked h.marks.marks x) (tree_at h.matched.terms x) None

  -- the match is that of the definitions
  abbrev pub AgreesWith : Match A → Subst → Type 0
  AgreesWith h m = (x : ℕ) → matched_tree h x ≡ match_at m x

  -- both match the same variables to the same
  abbrev pub IsSame : Match A → Match A → Type 0
  IsSame g h = (x : ℕ) → matched_tree h x ≡ matched_tree g x

  -- what was matched is matched to the same
  abbrev pub Keeps : Match A → Match A → Type 0
  Keeps old new = (x : ℕ) (t : Tree) → matched_tree old x ≡ Some t → matched_tree new x ≡ Some t

  -- these are the variables that are matched
  abbrev pub AreMarksOf : Marks → Match A → Type 0
  AreMarksOf marks h = marks ≡ h.marks

  -- all variables with a mark are matched
  abbrev pub Covers : Match A → Marks → Type 0
  Covers h marks = (x : ℕ) → is_marked marks.marks x ≡ true → is_some (matched_tree h x) ≡ true

  -- where the marks are those of an earlier match, the new one is the same as that
  abbrev pub GoesBack : Marks → Match A → Match A → Type 0
  GoesBack marks old new = (h : Match A) → AreMarksOf marks h → Keeps h old → IsSame h new

  -- Where the old match is one of the definitions, the new one is its extension, or there is none.
  abbrev pub FitsTermTo : Bool → Tree → Tree → Match A → Match A → Type 0
  FitsTermTo result p t old new = (m : Subst) → AgreesWith old m → MatchBool result ((n : Subst) × (fit p t m ≡ Some n) × AgreesWith new n) (fit p t m ≡ None)

  -- the same for patterns and terms
  abbrev pub FitsOrSpoils : Bool → Trees → Trees → Match A → Match A → Type 0
  FitsOrSpoils result ps ts old new = (m : Subst) → AgreesWith old m → MatchBool result ((n : Subst) × (fit_all ps ts m ≡ Some n) × AgreesWith new n) (fit_all ps ts m ≡ None)

  -- the same, and where there is none, the match is as it was
  abbrev pub FitsAs : Bool → Trees → Trees → Match A → Match A → Type 0
  FitsAs result ps ts old new = FitsOrSpoils result ps ts old new × (result ≡ false → IsSame old new)
