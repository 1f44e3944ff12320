-- How a text is read: what it spells within the limits, or what is wrong with it and where (this project's own choice of errors).
use Rattle.std.specs.Prelude.{◌≡◌, ℕ, suc, pred, ◌<◌, ◌≤◌, if◌then◌else◌, List, [], ◌∷◌, ◌++◌, length}
use Rattle.std.specs.Str.{IsUtf8, chars}
use Rattle.chr_semantics.specs.Tokens.{Place, opens, closes, opens_list, closes_list, Token, numeral, sign, fault, bad_character, unclosed_comment, too_large, Placed, at, tokens}
use Rattle.chr_semantics.specs.Grammar.{is_number}
use Rattle.chr_semantics.specs.declared.limits.TheConstants.{MAX_OPEN_BRACKETS, MAX_TEXT_BYTES}

-- a `(` or `[` opens a bracket
abbrev pub Opens : Token → Type 0
Opens (sign opens) = Unit {0}
Opens (sign opens_list) = Unit {0}
Opens _ = ⊥

-- how many brackets are open after a token, and after several
abbrev pub next : ℕ → Token → ℕ
next d (sign opens) = suc d
next d (sign opens_list) = suc d
next d (sign closes) = pred d
next d (sign closes_list) = pred d
next d _ = d

abbrev pub level : ℕ → List Placed → ℕ
level d [] = d
level d (at p t ∷ ts) = level (next d t) ts

-- no bracket opens where as many are open as may be
abbrev pub Within : ℕ → List Placed → Type 0
Within d [] = Unit {0}
Within d (at p t ∷ ts) = (Opens t → d < MAX_OPEN_BRACKETS) × Within (next d t) ts

-- the kinds of errors, besides `Memory`
pub data ReadErrorKind : Type 0 where
  not_utf8 : ReadErrorKind
  too_long : ReadErrorKind
  bad_char : ReadErrorKind
  open_comment : ReadErrorKind
  number_too_large : ReadErrorKind
  expected : ReadErrorKind
  too_deep : ReadErrorKind

-- what is wrong where no text goes on with a token
abbrev pub kind_of : Token → ReadErrorKind
kind_of (fault bad_character) = bad_char
kind_of (fault unclosed_comment) = open_comment
kind_of (fault too_large) = number_too_large
kind_of (numeral signed n) = if is_number n then expected else number_too_large
kind_of _ = expected

-- Of the texts that a language has, by their tokens and with what they spell: how its texts are refused.
module _ {S : Type 0} (Spells : List Placed → S → Type 0) where
  -- some text begins with these tokens
  abbrev pub Begins : List Placed → Type 0
  Begins ts = (more : List Placed) × (s : S) × Spells (ts ++ more) s

  -- No text begins with the tokens up to this one, and some begins with those before it, whose brackets are within the limit.
  pub record IsUnexpected (ts : List Placed) (place : Place) (t : Token) : Type 0 where
    pub front : List Placed
    pub rest : List Placed
    pub split : ts ≡ front ++ at place t ∷ rest
    pub before : Within 0 front
    pub none : Begins (front ++ at place t ∷ []) → ⊥
    pub begun : Begins front

  -- The first bracket that opens where as many are open as may be is this one, and some text begins with the tokens up to it.
  pub record IsTooDeep (ts : List Placed) (place : Place) : Type 0 where
    pub front : List Placed
    pub bracket : Token
    pub rest : List Placed
    pub split : ts ≡ front ++ at place bracket ∷ rest
    pub before : Within 0 front
    pub is_bracket : Opens bracket
    pub full : MAX_OPEN_BRACKETS ≤ level 0 front
    pub begun : Begins (front ++ at place bracket ∷ [])

  -- the text spells this within the limits
  pub record IsRead (text : List ℕ) (s : S) : Type 0 where
    pub is_utf8 : IsUtf8 text
    pub is_short : length text ≤ MAX_TEXT_BYTES
    pub spells : Spells (tokens (chars text)) s
    pub within : Within 0 (tokens (chars text))

  -- The text is refused so: that it is not UTF-8 comes first, then that it is too long, then the earliest place; those two have no place.
  abbrev pub IsRefused : List ℕ → ReadErrorKind → Place → Type 0
  IsRefused text not_utf8 p = (IsUtf8 text → ⊥) × (p ≡ record { line = 0; column = 0 })
  IsRefused text too_long p = IsUtf8 text × (MAX_TEXT_BYTES < length text) × (p ≡ record { line = 0; column = 0 })
  IsRefused text too_deep p = IsUtf8 text × (length text ≤ MAX_TEXT_BYTES) × IsTooDeep (tokens (chars text)) p
  IsRefused text kind p = IsUtf8 text × (length text ≤ MAX_TEXT_BYTES) × ((t : Token) × (kind ≡ kind_of t) × IsUnexpected (tokens (chars text)) p t)
