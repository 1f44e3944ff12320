-- The tokens of a text. A character is its code, and a text is the list of its characters (words as in Unicode Standard Annex 31; signs and
-- comments as in the CHR systems of Prolog).
use Rattle.std.specs.Prelude.{ℕ, zero, suc, ◌+◌, ◌-◌, ◌*◌, ◌==◌, nat_le, Bool, true, false, cond, ◌&&◌, ◌||◌, not, if◌then◌else◌, List, [], ◌∷◌, take, drop, length, codes, bytes_eq, Option, Some, None, option_map}
use Rattle.std.specs.Str.{byte}
use Rattle.std.specs.Char.{is_whitespace, is_ascii_digit, is_ascii_uppercase}
use Rattle.unicode_ident.specs.Ident.{is_xid_start, is_xid_continue}
use Rattle.chr_semantics.specs.Value.{max_magnitude}

-- where a character stands; lines and columns count from 1
pub record Place : Type 0 where
  pub line : ℕ
  pub column : ℕ

-- `+`, `-`
pub data Additive : Type 0 where
  plus : Additive
  minus : Additive

-- `*`, `//`, `mod`
pub data Multiplicative : Type 0 where
  times : Multiplicative
  divide : Multiplicative
  modulo : Multiplicative

-- `=`, `\=`, `<`, `>`, `=<`, `>=`, `=:=`, `=\=`, `is`
pub data Relation : Type 0 where
  same : Relation
  not_unifiable : Relation
  less : Relation
  greater : Relation
  at_most : Relation
  at_least : Relation
  equals : Relation
  differs : Relation
  is : Relation

-- `(`, `)`, `[`, `]`, `,`, `|`, `@`, `\`, `#`, `<=>`, `==>`, `:-`, `/`, and `.` before white space, `%` or the end of the text
pub data Sign : Type 0 where
  opens : Sign
  closes : Sign
  opens_list : Sign
  closes_list : Sign
  comma : Sign
  bar : Sign
  label : Sign
  backslash : Sign
  hash : Sign
  simplifies : Sign
  propagates : Sign
  declares : Sign
  slash : Sign
  stop : Sign

-- a character that begins no token, a `/*` that nothing closes, digits of a value above 2^127
pub data Fault : Type 0 where
  bad_character : Fault
  unclosed_comment : Fault
  too_large : Fault

-- A VARIABLE or a NAME by its characters, a NUMBER by its value and by whether a `-` stands right before it, an operator, a sign; a fault,
-- after which nothing is read; or the end of the text.
pub data Token : Type 0 where
  variable : List ℕ → Token
  name : List ℕ → Token
  numeral : Bool → ℕ → Token
  additive : Additive → Token
  multiplicative : Multiplicative → Token
  relation : Relation → Token
  sign : Sign → Token
  fault : Fault → Token
  over : Token

-- a token and where it begins
pub data Placed : Type 0 where
  at : Place → Token → Placed

-- what stands first in a text: its end, a number of characters that are no part of a token, a token with the number of its characters, or a fault
pub data Piece : Type 0 where
  ended : Piece
  blank : ℕ → Piece
  token : Token → ℕ → Piece
  broken : Fault → Piece

-- how many characters pass the test before the first that does not
abbrev pub run_len : (ℕ → Bool) → List ℕ → ℕ
run_len p [] = 0
run_len p (c ∷ cs) = cond (p c) (suc (run_len p cs)) 0

-- the text begins with these characters
abbrev pub begins : List ℕ → List ℕ → Bool
begins [] cs = true
begins (x ∷ xs) [] = false
begins (x ∷ xs) (c ∷ cs) = (c == x) && begins xs cs

-- a line feed ends a line
abbrev pub is_in_line : ℕ → Bool
is_in_line c = not (c == byte "\n")

-- how many characters there are up to the first `*/` and with it, if there is one
abbrev pub comment_len : List ℕ → Option ℕ
comment_len [] = None
comment_len (c ∷ cs) = if begins (codes "*/") (c ∷ cs) then Some 2 else option_map (λ n. n + 1) (comment_len cs)

-- a comment, by its length without its `/*`
abbrev pub comment : Option ℕ → Piece
comment None = broken unclosed_comment
comment (Some n) = blank (n + 2)

-- a word begins with XID_Start or `_`, and goes on with XID_Continue
abbrev pub starts_word : ℕ → Bool
starts_word c = is_xid_start c || (c == byte "_")

-- a VARIABLE begins with an ASCII capital or `_`
abbrev pub is_variable : List ℕ → Bool
is_variable [] = false
is_variable (c ∷ cs) = is_ascii_uppercase c || (c == byte "_")

-- the words `is` and `mod` are operators, and any other that is no VARIABLE is a NAME
abbrev pub word_token : List ℕ → Token
word_token w = if is_variable w then variable w else
    if bytes_eq w (codes "is") then relation is else
    if bytes_eq w (codes "mod") then multiplicative modulo else
    name w

-- the value of decimal digits after digits of value n
abbrev pub digits_value : ℕ → List ℕ → ℕ
digits_value n [] = n
digits_value n (c ∷ cs) = digits_value (n * 10 + (c - byte "0")) cs

abbrev pub number_piece : Bool → List ℕ → Piece
number_piece signed ds = if nat_le (digits_value 0 ds) max_magnitude then token (numeral signed (digits_value 0 ds)) (length ds) else broken too_large

-- `.` may be END before this
abbrev pub ends : List ℕ → Bool
ends [] = true
ends (c ∷ cs) = is_whitespace c || (c == byte "%")

-- the signs, a longer one before a shorter one that it begins with
abbrev pub signs : List (List ℕ × Token)
signs = (codes "<=>", sign simplifies) ∷ (codes "==>", sign propagates) ∷ (codes "=:=", relation equals) ∷ (codes "=\\=", relation differs)
    ∷ (codes ":-", sign declares) ∷ (codes "\\=", relation not_unifiable) ∷ (codes "=<", relation at_most) ∷ (codes ">=", relation at_least) ∷ (codes "//", multiplicative divide)
    ∷ (codes "(", sign opens) ∷ (codes ")", sign closes) ∷ (codes "[", sign opens_list) ∷ (codes "]", sign closes_list)
    ∷ (codes ",", sign comma) ∷ (codes "|", sign bar) ∷ (codes "@", sign label) ∷ (codes "\\", sign backslash) ∷ (codes "#", sign hash)
    ∷ (codes "=", relation same) ∷ (codes "<", relation less) ∷ (codes ">", relation greater)
    ∷ (codes "+", additive plus) ∷ (codes "-", additive minus) ∷ (codes "*", multiplicative times) ∷ (codes "/", sign slash) ∷ []

-- the sign that the text begins with, if it begins with one of these
abbrev pub sign_among : List (List ℕ × Token) → List ℕ → Piece
sign_among [] cs = broken bad_character
sign_among (s ∷ ss) cs = if begins s.0 cs then token s.1 (length s.0) else sign_among ss cs

abbrev pub sign_piece : List ℕ → Piece
sign_piece cs = if begins (codes ".") cs && ends (drop 1 cs) then token (sign stop) 1 else sign_among signs cs

-- what stands first in a text that a `-` stands right before, or does not
unfoldable pub piece : Bool → List ℕ → Piece
piece signed [] = ended
piece signed (c ∷ cs) = if is_whitespace c then blank 1 else
    if c == byte "%" then blank (run_len is_in_line cs + 1) else
    if begins (codes "/*") (c ∷ cs) then comment (comment_len (drop 2 (c ∷ cs))) else
    if starts_word c then token (word_token (take (run_len is_xid_continue cs + 1) (c ∷ cs))) (run_len is_xid_continue cs + 1) else
    if is_ascii_digit c then number_piece signed (take (run_len is_ascii_digit cs + 1) (c ∷ cs)) else
    sign_piece (c ∷ cs)

-- the place after a character, and after several
abbrev pub after : Place → ℕ → Place
after p c = if c == byte "\n" then record { line = p.line + 1; column = 1 } else record { line = p.line; column = p.column + 1 }

abbrev pub advance : Place → List ℕ → Place
advance p [] = p
advance p (c ∷ cs) = advance (after p c) cs

abbrev pub is_minus : Token → Bool
is_minus (additive minus) = true
is_minus _ = false

-- The tokens from a piece on, which stands at a place. `behind signed n` are those after its n characters.
abbrev pub onward : Place → Piece → (Bool → ℕ → List Placed) → List Placed
onward p ended behind = at p over ∷ []
onward p (blank n) behind = behind false n
onward p (token t n) behind = at p t ∷ behind (is_minus t) n
onward p (broken f) behind = at p (fault f) ∷ []

-- the tokens of a text of at most this number of pieces
abbrev pub tokens_within : ℕ → Bool → Place → List ℕ → List Placed
tokens_within zero signed p cs = []
tokens_within (suc k) signed p cs = onward p (piece signed cs) (λ signed' n. tokens_within k signed' (advance p (take n cs)) (drop n cs))

abbrev pub first_place : Place
first_place = record { line = 1; column = 1 }

-- The tokens of a text. Each piece but the end has a character at least, so this is enough.
abbrev pub tokens : List ℕ → List Placed
tokens cs = tokens_within (length cs + 1) false first_place cs
