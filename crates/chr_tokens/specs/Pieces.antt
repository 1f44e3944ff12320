-- What the code finds first in a text.
use Rattle.std.specs.Prelude.{ℕ, ◌≤◌, ◌<◌, List, drop, length}
use Rattle.chr_semantics.specs.Tokens.{Piece, Token, ended, blank, token, broken, signs}
use Rattle.chr_tokens.specs.TokenView.{fault_view, token_view}
use Rattle.chr_tokens.specs.declared.pieces.First as written
use Rattle.chr_tokens.specs.declared.pieces.First.TheVariants as Written

-- the piece that a value of the code stands for
abbrev pub first_view : written.First → Piece
first_view Written.Ended = ended
first_view (Written.Blank n) = blank n
first_view (Written.Token t n) = token (token_view t) n
first_view (Written.Broken f) = broken (fault_view f)

-- this number of characters of a text is one at least
abbrev pub IsLen : List ℕ → ℕ → Type 0
IsLen cs n = (0 < n) × (n ≤ length cs)

-- a piece that is read past has a character at least, and lies within the text
abbrev pub IsIn : List ℕ → Piece → Type 0
IsIn cs ended = Unit {0}
IsIn cs (blank n) = IsLen cs n
IsIn cs (token t n) = IsLen cs n
IsIn cs (broken f) = Unit {0}

-- the signs of one or two characters, and those of one: a longer sign stands before a shorter one
abbrev pub signs_up_to_two : List (List ℕ × Token)
signs_up_to_two = drop 4 signs

abbrev pub signs_of_one : List (List ℕ × Token)
signs_of_one = drop 9 signs
