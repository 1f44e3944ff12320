-- The names of symbols, and of the variables of a query.
use Rattle.std.specs.Prelude.{ℕ, Bool, cond, ◌==◌, ◌&&◌, nat_le, List, [], ◌∷◌, ◌++◌, Option, Some, None, is_some, slice_get, option_and_then, codes, unwrap_or, position, bytes_eq}
use Rattle.std.specs.Str.{byte}
use Rattle.std.specs.Fmt.{decimal}

-- For each symbol, by its number, the bytes of its name and its arity.
abbrev pub Names : Type 0
Names = List (List ℕ × ℕ)

-- the built-in symbols, which come first: `[]`/0, `[|]`/2, and the operators with two arguments
abbrev pub nil_symbol : ℕ
nil_symbol = 0

abbrev pub pair_symbol : ℕ
pair_symbol = 1

abbrev pub plus_symbol : ℕ
plus_symbol = 2

abbrev pub minus_symbol : ℕ
minus_symbol = 3

abbrev pub times_symbol : ℕ
times_symbol = 4

abbrev pub divide_symbol : ℕ
divide_symbol = 5

abbrev pub modulo_symbol : ℕ
modulo_symbol = 6

abbrev pub first_names : Names
first_names = (codes "[]", 0) ∷ (codes "[|]", 2) ∷ (codes "+", 2) ∷ (codes "-", 2) ∷ (codes "*", 2) ∷ (codes "//", 2) ∷ (codes "mod", 2) ∷ []

abbrev pub text_of : Option (List ℕ × ℕ) → List ℕ
text_of None = codes "?"
text_of (Some n) = n.0

-- the name of a symbol, `?` where the names do not know it
abbrev pub name_at : Names → ℕ → List ℕ
name_at names f = text_of (slice_get names f)

abbrev pub arity_of : Option (List ℕ × ℕ) → ℕ
arity_of None = 0
arity_of (Some n) = n.1

-- the arity of a symbol
abbrev pub arity_at : Names → ℕ → ℕ
arity_at names f = arity_of (slice_get names f)

-- the symbol with the name and the arity, if there is one
abbrev pub symbol_of : Names → List ℕ → ℕ → Option ℕ
symbol_of names name arity = position (λ (n : List ℕ × ℕ). bytes_eq n.0 name && n.1 == arity) names

-- the names with the pair at their end, if it is not among them
abbrev pub with_symbol : Names → List ℕ → ℕ → Names
with_symbol names name arity = cond (is_some (symbol_of names name arity)) names (names ++ (name, arity) ∷ [])

-- The names of the variables of a query, by their numbers.
abbrev pub VarNames : Type 0
VarNames = List (List ℕ)

abbrev pub is_capital : ℕ → Bool
is_capital c = nat_le (byte "A") c && nat_le c (byte "Z")

abbrev pub if_capital : List ℕ → Option (List ℕ)
if_capital [] = None
if_capital (c ∷ cs) = cond (is_capital c) (Some (c ∷ cs)) None

-- the name that a variable prints as: one that begins with an ASCII capital
abbrev pub var_name : VarNames → ℕ → Option (List ℕ)
var_name vars x = option_and_then if_capital (slice_get vars x)

-- any other variable prints as `_` and its number
abbrev pub var_text : VarNames → ℕ → List ℕ
var_text vars x = unwrap_or (var_name vars x) (byte "_" ∷ decimal x)
