-- What the values of the code stand for.
use Rattle.std.specs.Prelude.{◌≡◌, List, [], ◌∷◌, ◌++◌, map}
use Rattle.chr_semantics.specs.Tokens as semantics
use Rattle.chr_tokens.specs.declared.token.Additive.{Additive}
use Rattle.chr_tokens.specs.declared.token.Multiplicative.{Multiplicative}
use Rattle.chr_tokens.specs.declared.token.Relation.{Relation}
use Rattle.chr_tokens.specs.declared.token.Sign.{Sign}
use Rattle.chr_tokens.specs.declared.token.Fault.{Fault}
use Rattle.chr_tokens.specs.declared.token.Token.{Token}
use Rattle.chr_tokens.specs.declared.token.Place.{Place}
use Rattle.chr_tokens.specs.declared.token.Placed.{Placed}

abbrev pub additive_view : Additive → semantics.Additive
additive_view Additive.Plus = semantics.plus
additive_view Additive.Minus = semantics.minus

abbrev pub multiplicative_view : Multiplicative → semantics.Multiplicative
multiplicative_view Multiplicative.Times = semantics.times
multiplicative_view Multiplicative.Divide = semantics.divide
multiplicative_view Multiplicative.Modulo = semantics.modulo

abbrev pub relation_view : Relation → semantics.Relation
relation_view Relation.Same = semantics.same
relation_view Relation.NotUnifiable = semantics.not_unifiable
relation_view Relation.Less = semantics.less
relation_view Relation.Greater = semantics.greater
relation_view Relation.AtMost = semantics.at_most
relation_view Relation.AtLeast = semantics.at_least
relation_view Relation.Equals = semantics.equals
relation_view Relation.Differs = semantics.differs
relation_view Relation.Is = semantics.is

abbrev pub sign_view : Sign → semantics.Sign
sign_view Sign.Open = semantics.opens
sign_view Sign.Close = semantics.closes
sign_view Sign.OpenList = semantics.opens_list
sign_view Sign.CloseList = semantics.closes_list
sign_view Sign.Comma = semantics.comma
sign_view Sign.Bar = semantics.bar
sign_view Sign.Label = semantics.label
sign_view Sign.Backslash = semantics.backslash
sign_view Sign.Hash = semantics.hash
sign_view Sign.Simplifies = semantics.simplifies
sign_view Sign.Propagates = semantics.propagates
sign_view Sign.Declares = semantics.declares
sign_view Sign.Slash = semantics.slash
sign_view Sign.Stop = semantics.stop

abbrev pub fault_view : Fault → semantics.Fault
fault_view Fault.BadCharacter = semantics.bad_character
fault_view Fault.UnclosedComment = semantics.unclosed_comment
fault_view Fault.TooLarge = semantics.too_large

abbrev pub token_view : Token → semantics.Token
token_view (Token.Variable w) = semantics.variable w.now
token_view (Token.Name w) = semantics.name w.now
token_view (Token.Number signed value) = semantics.numeral signed value
token_view (Token.Additive a) = semantics.additive (additive_view a)
token_view (Token.Multiplicative m) = semantics.multiplicative (multiplicative_view m)
token_view (Token.Relation r) = semantics.relation (relation_view r)
token_view (Token.Sign s) = semantics.sign (sign_view s)
token_view (Token.Fault f) = semantics.fault (fault_view f)
token_view Token.Over = semantics.over

abbrev pub place_view : Place → semantics.Place
place_view p = record { line = p.line; column = p.column }

abbrev pub placed_view : Placed → semantics.Placed
placed_view t = semantics.at (place_view t.place) (token_view t.token)

abbrev pub placed_views : List Placed → List semantics.Placed
placed_views ts = map placed_view ts

-- a fault, or the end of the text
abbrev pub IsLast : semantics.Token → Type 0
IsLast semantics.over = Unit {0}
IsLast (semantics.fault f) = Unit {0}
IsLast _ = ⊥

-- the tokens end with one that nothing is read after
pub record IsEnded (ts : List semantics.Placed) : Type 0 where
  pub before : List semantics.Placed
  pub place : semantics.Place
  pub last : semantics.Token
  pub are : ts ≡ before ++ semantics.at place last ∷ []
  pub is_last : IsLast last
