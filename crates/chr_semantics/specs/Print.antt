-- The printing of terms, as bytes (this project's own format).
use Rattle.std.specs.Prelude.{ℕ, Bool, true, false, cond, not, ◌==◌, ◌||◌, ◌&&◌, List, [], ◌∷◌, ◌++◌, codes}
use Rattle.std.specs.Str.{byte}
use Rattle.std.specs.Fmt.{signed_decimal}
use Rattle.chr_semantics.specs.Tree.{Tree, var, int, node, Trees, none, more}
use Rattle.chr_semantics.specs.Names.{Names, VarNames, name_at, var_text, nil_symbol, pair_symbol, plus_symbol, minus_symbol, times_symbol, divide_symbol, modulo_symbol}

-- A printed term: its text, the text of a list that it is the rest of, from there to the closing bracket, and whether its name is
-- `+` or `-`, or `*`, `//` or `mod`, with two arguments.
pub record Printing : Type 0 where
  pub text : List ℕ
  pub tail : List ℕ
  pub is_sum : Bool
  pub is_product : Bool

abbrev pub plain_printing : List ℕ → Printing
plain_printing t = record { text = t; tail = byte "|" ∷ (t ++ byte "]" ∷ []); is_sum = false; is_product = false }

abbrev pub in_parentheses : Bool → List ℕ → List ℕ
in_parentheses b t = cond b (byte "(" ∷ (t ++ byte ")" ∷ [])) t

-- the left operand of a product is put in parentheses where it is a sum
abbrev pub left_text : Bool → Printing → List ℕ
left_text product s = in_parentheses (product && s.is_sum) s.text

-- the right operand is put in parentheses where it is a sum, and that of a product also where it is a product
abbrev pub right_text : Bool → Printing → List ℕ
right_text product s = in_parentheses (s.is_sum || product && s.is_product) s.text

abbrev pub sign_of : ℕ → List ℕ
sign_of f = cond (f == plus_symbol) (codes "+") (cond (f == minus_symbol) (codes "-") (cond (f == times_symbol) (codes "*") (cond (f == divide_symbol) (codes "//") (codes " mod "))))

abbrev pub operator_text : Bool → ℕ → Printing → Printing → List ℕ
operator_text product f a b = left_text product a ++ (sign_of f ++ right_text product b)

abbrev pub operator_printing : Bool → ℕ → Printing → Printing → Printing
operator_printing product f a b = record (plain_printing (operator_text product f a b)) { is_sum = not product; is_product = product }

-- the arguments after the first, each with its comma
abbrev pub texts_from : List Printing → List ℕ
texts_from [] = []
texts_from (a ∷ others) = byte "," ∷ (a.text ++ texts_from others)

-- a name with its arguments in parentheses, where there are some
abbrev pub call_text : List ℕ → List Printing → List ℕ
call_text name [] = name
call_text name (a ∷ others) = name ++ (byte "(" ∷ (a.text ++ (texts_from others ++ byte ")" ∷ [])))

-- the first element of a list, and what the rest of the list prints
abbrev pub list_printing : Printing → Printing → Printing
list_printing a b = record { text = byte "[" ∷ (a.text ++ b.tail); tail = byte "," ∷ (a.text ++ b.tail); is_sum = false; is_product = false }

abbrev pub nil_printing : Printing
nil_printing = record { text = codes "[]"; tail = codes "]"; is_sum = false; is_product = false }

abbrev pub pair_printing : Names → ℕ → Printing → Printing → Printing
pair_printing names f a b =
    cond (f == pair_symbol) (list_printing a b)
    (cond (f == plus_symbol || f == minus_symbol) (operator_printing false f a b)
    (cond (f == times_symbol || f == divide_symbol || f == modulo_symbol) (operator_printing true f a b)
    (plain_printing (call_text (name_at names f) (a ∷ b ∷ [])))))

-- a symbol over printed arguments: lists and operators by their number of arguments, and all else by its name
abbrev pub node_printing : Names → ℕ → List Printing → Printing
node_printing names f [] = cond (f == nil_symbol) nil_printing (plain_printing (name_at names f))
node_printing names f (a ∷ []) = plain_printing (call_text (name_at names f) (a ∷ []))
node_printing names f (a ∷ b ∷ []) = pair_printing names f a b
node_printing names f (a ∷ b ∷ c ∷ others) = plain_printing (call_text (name_at names f) (a ∷ b ∷ c ∷ others))

abbrev mutual
  pub printing_of : Names → VarNames → Tree → Printing
  printing_of names vars (var x) = plain_printing (var_text vars x)
  printing_of names vars (int z) = plain_printing (signed_decimal z)
  printing_of names vars (node f ts) = node_printing names f (printings_of names vars ts)

  pub printings_of : Names → VarNames → Trees → List Printing
  printings_of names vars none = []
  printings_of names vars (more t ts) = printing_of names vars t ∷ printings_of names vars ts

-- the text of a term
abbrev pub term_text : Names → VarNames → Tree → List ℕ
term_text names vars t = (printing_of names vars t).text
