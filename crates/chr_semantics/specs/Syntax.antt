-- The syntax trees of programs and queries (Frühwirth 2009, syntax of CHR; directives as in the CHR systems of Prolog). A word is its UTF-8.
use Rattle.std.specs.Prelude.{ℕ, ℤ, List, [], ◌∷◌, Option, Bool}
use Rattle.chr_semantics.specs.Tokens.{Additive, Multiplicative, Relation}

-- the operator of a sum, or of a product
pub data Operator : Type 0 where
  adding : Additive → Operator
  multiplying : Multiplicative → Operator

mutual
  -- a variable, a number, a name with its arguments, `[]`, `[|]` of two, or a sum or a product of two
  pub data Expr : Type 0 where
    variable : List ℕ → Expr
    number : ℤ → Expr
    call : List ℕ → Exprs → Expr
    nil : Expr
    pair : Expr → Expr → Expr
    operation : Operator → Expr → Expr → Expr

  pub data Exprs : Type 0 where
    none : Exprs
    more : Expr → Exprs → Exprs

abbrev pub exprs_of : List Expr → Exprs
exprs_of [] = none
exprs_of (e ∷ es) = more e (exprs_of es)

-- a list of these elements, and what stands after the bar
abbrev pub list : List Expr → Expr → Expr
list [] end = end
list (e ∷ es) end = pair e (list es end)

-- an expression, or two with a comparison, `=`, `\=` or `is` between them
pub data Item : Type 0 where
  plain : Expr → Item
  related : Relation → Expr → Expr → Item

-- a head of a rule, with or without `# passive`
pub record Head : Type 0 where
  pub item : Item
  pub passive : Bool

pub data Arrow : Type 0 where
  simplification : Arrow
  propagation : Arrow

-- `label @ heads \ behind <=> guard | body`; `behind` is empty where there is no `\`, and `guard` where there is no `|`
pub record Rule : Type 0 where
  pub label : Option (List ℕ)
  pub heads : List Head
  pub behind : List Head
  pub arrow : Arrow
  pub guard : List Item
  pub body : List Item

-- a declared symbol
pub record Declaration : Type 0 where
  pub name : List ℕ
  pub arity : ℕ

-- A part of a program, with the line where it begins: symbols that are declared, a directive that is read and ignored, or a rule.
pub data Part : Type 0 where
  declares : ℕ → List Declaration → Part
  ignored : ℕ → Part
  rule : ℕ → Rule → Part

-- a program is its parts
abbrev pub Program : Type 0
Program = List Part

-- a query: its items, and the line where they begin
pub record Query : Type 0 where
  pub line : ℕ
  pub items : List Item
