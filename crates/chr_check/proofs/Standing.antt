-- Why some text begins with tokens.
use Rattle.std.proofs.Common.{◌≡◌, ◌∙◌, ℕ, List, [], ◌∷◌, ◌++◌, Option, Some, sym, ap, subst, refl}
use Rattle.std.specs.Str.{chars}
use Rattle.chr_semantics.specs.Grammar.{IsProgram, IsQuery}
use Rattle.chr_semantics.specs.Reading.{IsRefused, ReadErrorKind, expected}
use Rattle.chr_semantics.specs.Tokens.{Place, Placed, at, Token, over, tokens}
use Rattle.chr_read.specs.Refusals.{IsRefusal, IsRefusedAs, kind_view, place_of}
use Rattle.chr_read.specs.declared.error.ReadError.{ReadError}
use Rattle.chr_read.specs.declared.error.ReadErrorKind.TheVariants.{Expected}
use Rattle.chr_check.specs.Standing.{AreStanding, EndsAt, GoesOn, GoesOnIn, IsAnswerIn, Stands}
use Rattle.chr_check.specs.declared.candidate.Candidate.{Candidate}
use Rattle.chr_check.specs.declared.expecting.Language.{Language}
use Rattle.chr_check.specs.declared.expecting.Language.TheVariants as language
use Rattle.chr_check.proofs.Places.{at_the_end}

-- the last token of a list
abbrev last_token : Token → List Placed → Token
last_token t [] = t
last_token t (at p u ∷ ts) = last_token u ts

last_token_is : (t u : Token) (p : Place) (ts : List Placed) → last_token t (ts ++ at p u ∷ []) ≡ u
last_token_is t u p [] = refl
last_token_is t u p (at q v ∷ ts) = last_token_is v u p ts

refused_at : {S : Type 0} (Spells : List Placed → S → Type 0) (text : List ℕ) (e : ReadError) (p : Place) → IsRefusal Spells text e → e.kind ≡ Expected → place_of e ≡ p → IsRefused Spells text expected p
refused_at Spells text e p h kind place =
    subst (IsRefused Spells text expected) place (subst (λ (k : Option ReadErrorKind). IsRefusedAs Spells text (place_of e) k) (ap kind_view kind) h)

-- some text begins with the tokens of one whose first fault is that it ends
pub end_goes_on : {S : Type 0} (Spells : List Placed → S → Type 0) (text : List ℕ) (p : Place) → EndsAt text p → IsRefused Spells text expected p → GoesOn Spells text
end_goes_on Spells text p (ts, e) (utf8, short, (t, kind, h)) =
    let none : h.rest ≡ [] = at_the_end (chars text) h.front ts h.rest p p t over h.split e refl in
    let whole : tokens (chars text) ≡ h.front ++ at p t ∷ [] = subst (λ (us : List Placed). tokens (chars text) ≡ h.front ++ at p t ∷ us) none h.split in
    let last : t ≡ over = sym (last_token_is over t p h.front) ∙ ap (last_token over) (sym whole ∙ e) ∙ last_token_is over over p ts in
    (h.front, p, subst (λ (u : Token). tokens (chars text) ≡ h.front ++ at p u ∷ []) last whole, h.begun)

-- the same, of a text of a language, and of an error as it is answered
pub end_goes_on_in : (l : Language) (text : List ℕ) (e : ReadError) (p : Place) → EndsAt text p → IsAnswerIn l text (Some e) → e.kind ≡ Expected → place_of e ≡ p → GoesOnIn l text
end_goes_on_in language.Program text e p ends h kind place = end_goes_on IsProgram text p ends (refused_at IsProgram text e p h kind place)
end_goes_on_in language.Query text e p ends h kind place = end_goes_on IsQuery text p ends (refused_at IsQuery text e p h kind place)

-- one candidate more
pub one_more_stands : (l : Language) (front : List ℕ) (c : Candidate) (cs : List Candidate) → AreStanding l front cs → Stands l front c → AreStanding l front (cs ++ c ∷ [])
one_more_stands l front c [] h s = (s, tt)
one_more_stands l front c (d ∷ cs) h s = (h.0, one_more_stands l front c cs h.1 s)
