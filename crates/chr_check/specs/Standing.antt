-- What may stand behind the front of a text.
use Rattle.std.specs.Prelude.{◌≡◌, ◌⊎◌, ℕ, List, [], ◌∷◌, ◌++◌, Option, Some, None, codes}
use Rattle.std.specs.Str.{chars}
use Rattle.chr_semantics.specs.Grammar.{IsProgram, IsQuery}
use Rattle.chr_semantics.specs.Reading.{Begins, IsRead}
use Rattle.chr_semantics.specs.Tokens.{Place, Placed, at, over, tokens}
use Rattle.chr_read.specs.Refusals.{IsRefusal}
use Rattle.chr_read.specs.declared.error.ReadError.{ReadError}
use Rattle.chr_check.specs.declared.candidate.Candidate.{Candidate}
use Rattle.chr_check.specs.declared.candidate.Candidate.TheVariants as is
use Rattle.chr_check.specs.declared.expecting.Language.{Language}
use Rattle.chr_check.specs.declared.expecting.Language.TheVariants as language

-- a token that a candidate stands for
abbrev pub example : Candidate → List ℕ
example is.Variable = codes "X"
example is.Name = codes "a"
example is.Number = codes "1"
example is.Open = codes "("
example is.Close = codes ")"
example is.OpenList = codes "["
example is.CloseList = codes "]"
example is.Comma = codes ","
example is.Bar = codes "|"
example is.Label = codes "@"
example is.Backslash = codes "\\"
example is.Hash = codes "#"
example is.Simplifies = codes "<=>"
example is.Propagates = codes "==>"
example is.Slash = codes "/"
example is.Stop = codes "."
example is.Relation = codes "="
example is.Operator = codes "*"
example is.Minus = codes "-"
example is.Passive = codes "passive"
example is.ChrConstraint = codes "chr_constraint"
example is.UseModule = codes "use_module"
example is.Library = codes "library"
example is.Chr = codes "chr"

-- the tokens of the text end at a place, with no fault
abbrev pub EndsAt : List ℕ → Place → Type 0
EndsAt text p = (ts : List Placed) × (tokens (chars text) ≡ ts ++ at p over ∷ [])

-- some text of a language begins with the tokens of this one
abbrev pub GoesOn : {S : Type 0} → (List Placed → S → Type 0) → List ℕ → Type 0
GoesOn Spells text = (ts : List Placed) × (p : Place) × (tokens (chars text) ≡ ts ++ at p over ∷ []) × Begins Spells ts

abbrev pub GoesOnIn : Language → List ℕ → Type 0
GoesOnIn language.Program text = GoesOn IsProgram text
GoesOnIn language.Query text = GoesOn IsQuery text

-- the text is read, or refused so
abbrev pub IsAnswer : {S : Type 0} → (List Placed → S → Type 0) → List ℕ → Option ReadError → Type 0
IsAnswer {S = S} Spells text None = (s : S) × IsRead Spells text s
IsAnswer Spells text (Some e) = IsRefusal Spells text e

abbrev pub IsAnswerIn : Language → List ℕ → Option ReadError → Type 0
IsAnswerIn language.Program text e = IsAnswer IsProgram text e
IsAnswerIn language.Query text e = IsAnswer IsQuery text e

-- the text is the front of one, parted from what is to stand behind it by a blank, or by nothing
abbrev pub IsParted : List ℕ → List ℕ → Type 0
IsParted front text = (text ≡ front ++ []) ⊎ (text ≡ front ++ codes " ")

-- the candidate may stand behind the front of a text, with a blank before it or none
abbrev pub Stands : Language → List ℕ → Candidate → Type 0
Stands l front c = (text : List ℕ) × IsParted front text × GoesOnIn l (text ++ example c)

abbrev pub AreStanding : Language → List ℕ → List Candidate → Type 0
AreStanding l front [] = Unit {0}
AreStanding l front (c ∷ cs) = Stands l front c × AreStanding l front cs
