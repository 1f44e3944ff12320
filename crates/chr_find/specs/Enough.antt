-- Which rows a list has for a head, and which of them are taken.
use Rattle.std.specs.List.{list_any}
use Rattle.std.specs.Prelude.{◌≡◌, ◌⊎◌, ℕ, Bool, true, false, List, Some, None, MatchBool}
use Rattle.chr_bind.specs.Matching.{AgreesWith}
use Rattle.chr_bind.specs.declared.matching.Match.{Match}
use Rattle.chr_semantics.specs.Match.{Row, fit_atom}
use Rattle.chr_semantics.specs.Program.{Atom}
use Rattle.chr_semantics.specs.Search.{has_number}
use Rattle.chr_semantics.specs.Subst.{Subst}
use Rattle.chr_find.specs.IndexKeys.{in_bucket}
use Rattle.chr_find.specs.PlanView.{is_lookup}
use Rattle.chr_find.specs.declared.bucket.Bucket.{Bucket}
use Rattle.chr_find.specs.declared.plan.Lookup.{Lookup}

-- each row that fits the head under the match is in the list
abbrev pub IsEnough : (ℕ → List Lookup) → Atom → Subst → Bucket → Type 0
IsEnough ps head m l = (c : Row) → in_bucket (ps c.1.sym) c.1 l ≡ false → fit_atom head c.1 m ≡ None

-- where both lists have rows enough, so has that one
abbrev pub IsOneOf : Bucket → Bucket → Bucket → Type 0
IsOneOf one other l = (ps : ℕ → List Lookup) (head : Atom) (m : Subst) → IsEnough ps head m one → IsEnough ps head m other → IsEnough ps head m l

-- the list has rows enough, if rows are found by the index
abbrev pub IsEnoughBy : {A : Type 0} → Match A → Atom → Lookup → Bucket → Type 0
IsEnoughBy matching head x l = (ps : ℕ → List Lookup) (m : Subst) → list_any (is_lookup x) (ps head.sym) ≡ true → AgreesWith matching m → IsEnough ps head m l

-- where the one list has rows enough, so has the other, if rows are found by the index
abbrev pub StaysEnough : {A : Type 0} → Match A → Atom → Lookup → Bucket → Bucket → Type 0
StaysEnough matching head x old new = (ps : ℕ → List Lookup) (m : Subst) → list_any (is_lookup x) (ps head.sym) ≡ true → AgreesWith matching m → IsEnough ps head m old → IsEnough ps head m new

-- the constraint fits the head and the match is the longer one, or it does not fit
abbrev pub FitsHead : {A : Type 0} → Bool → Atom → Atom → Match A → Match A → Type 0
FitsHead result head a old new =
    (m : Subst) → AgreesWith old m → MatchBool result ((n : Subst) × (fit_atom head a m ≡ Some n) × AgreesWith new n) (fit_atom head a m ≡ None)

-- the row was not used and fits, and the match is the longer one, or the row is left out
abbrev pub TakesAs : {A : Type 0} → Bool → List ℕ → Atom → Row → Match A → Match A → Type 0
TakesAs result used head c old new =
    (m : Subst) → AgreesWith old m → MatchBool result ((n : Subst) × (has_number used c.0 ≡ false) × (fit_atom head c.1 m ≡ Some n) × AgreesWith new n)
    ((has_number used c.0 ≡ true) ⊎ (fit_atom head c.1 m ≡ None))
