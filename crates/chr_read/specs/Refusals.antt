-- What callers learn of texts that are not read.
use Rattle.std.specs.Prelude.{◌≡◌, ◌<◌, ℕ, List, Option, Some, None, Result, Ok, Err, length, ◌∷◌}
use Rattle.chr_semantics.specs.Tokens as token
use Rattle.chr_semantics.specs.Tokens.{Placed}
use Rattle.chr_semantics.specs.Reading.{ReadErrorKind, IsRefused, bad_char, expected, kind_of, not_utf8, number_too_large, open_comment, too_deep, too_long}
use Rattle.chr_tokens.specs.TokenView.{placed_views}
use Rattle.chr_tokens.specs.declared.text.Unread.{Unread}
use Rattle.chr_tokens.specs.declared.text.Unread.TheVariants as Bytes
use Rattle.chr_read.specs.declared.error.ReadError.{ReadError}
use Rattle.chr_read.specs.declared.error.ReadErrorKind as written
use Rattle.chr_read.specs.declared.error.ReadErrorKind.TheVariants as Written
use Rattle.chr_read.specs.declared.halt.Halt.{Halt}
use Rattle.chr_read.specs.declared.halt.Halt.TheVariants.{Memory, Expected, TooDeep}

-- the kind of an error; refused memory is none of the definitions
abbrev pub kind_view : written.ReadErrorKind → Option ReadErrorKind
kind_view Written.NotUtf8 = Some not_utf8
kind_view Written.TooLong = Some too_long
kind_view Written.BadChar = Some bad_char
kind_view Written.UnclosedComment = Some open_comment
kind_view Written.NumberTooLarge = Some number_too_large
kind_view Written.Expected = Some expected
kind_view Written.TooDeep = Some too_deep
kind_view Written.Memory = None

abbrev pub place_of : ReadError → token.Place
place_of e = record { line = e.line; column = e.column }

-- the place of an error that has none
abbrev pub no_place : token.Place
no_place = record { line = 0; column = 0 }

abbrev pub IsRefusedAs : {S : Type 0} → (List Placed → S → Type 0) → List ℕ → token.Place → Option ReadErrorKind → Type 0
IsRefusedAs Spells text p None = p ≡ no_place
IsRefusedAs Spells text p (Some kind) = IsRefused Spells text kind p

-- the text is refused so, or memory was
abbrev pub IsRefusal : {S : Type 0} → (List Placed → S → Type 0) → List ℕ → ReadError → Type 0
IsRefusal Spells text e = IsRefusedAs Spells text (place_of e) (kind_view e.kind)

-- the answer is this, or memory was refused
abbrev pub IsOnly : {S V : Type 0} → (V → S) → Result V ReadError → S → Type 0
IsOnly view (Ok v) s = view v ≡ s
IsOnly view (Err e) s = e.kind ≡ Written.Memory

-- a halt has a token that it points to
abbrev pub PointsToToken : Halt → Type 0
PointsToToken Memory = Unit {0}
PointsToToken (Expected rest) = 0 < length rest.now
PointsToToken (TooDeep rest) = 0 < length rest.now

abbrev pub IsErrorAt : ReadErrorKind → token.Place → ReadError → Type 0
IsErrorAt k p e = (kind_view e.kind ≡ Some k) × (place_of e ≡ p)

-- the first of the tokens is at fault
abbrev pub IsErrorAtFirst : (token.Token → ReadErrorKind) → List Placed → ReadError → Type 0
IsErrorAtFirst kind (token.at p t ∷ ts) e = IsErrorAt (kind t) p e
IsErrorAtFirst kind _ e = ⊥

abbrev pub IsMemoryError : ReadError → Type 0
IsMemoryError e = (kind_view e.kind ≡ None) × (place_of e ≡ no_place)

abbrev pub IsErrorOfHalt : Halt → ReadError → Type 0
IsErrorOfHalt Memory e = IsMemoryError e
IsErrorOfHalt (Expected rest) e = IsErrorAtFirst kind_of (placed_views rest.now) e
IsErrorOfHalt (TooDeep rest) e = IsErrorAtFirst (λ t. too_deep) (placed_views rest.now) e

abbrev pub IsErrorOfUnread : Unread → ReadError → Type 0
IsErrorOfUnread Bytes.NotUtf8 e = IsErrorAt not_utf8 no_place e
IsErrorOfUnread Bytes.TooLong e = IsErrorAt too_long no_place e
IsErrorOfUnread Bytes.Memory e = IsMemoryError e

abbrev pub IsKind : token.Token → written.ReadErrorKind → Type 0
IsKind t k = kind_view k ≡ Some (kind_of t)
