-- The grammar, a constructor for each way to spell a phrase (Frühwirth 2009, syntax of CHR; directives as in the CHR systems of Prolog).
use Rattle.std.specs.Prelude.{◌≡◌, ℕ, pos, neg_ℤ, nat_le, nat_lt, Bool, true, false, List, [], ◌∷◌, ◌++◌, Option, Some, None, codes}
use Rattle.std.specs.Str.{encode_utf8_all}
use Rattle.chr_semantics.specs.Tokens as token
use Rattle.chr_semantics.specs.Tokens.{Place, Additive, minus, Multiplicative, Relation, Sign, opens, closes, opens_list, closes_list, comma, bar, label, backslash, hash, simplifies, propagates, slash, stop, Token, name, numeral, additive, multiplicative, relation, sign, over, Placed, at}
use Rattle.chr_semantics.specs.Syntax as syntax
use Rattle.chr_semantics.specs.Syntax.{Expr, Exprs, exprs_of, variable, number, call, nil, pair, adding, multiplying, operation, list, Item, plain, related, Head, Arrow, simplification, propagation, Rule, Declaration, Part, ignored, Program, Query}
use Rattle.chr_semantics.specs.Value.{max_magnitude}

-- a NUMBER without a sign, and the digits of one with a sign
abbrev pub is_number : ℕ → Bool
is_number n = nat_lt n max_magnitude

abbrev pub is_magnitude : ℕ → Bool
is_magnitude n = nat_le n max_magnitude

mutual
  pub data IsPrimary : List Placed → Expr → Type 0 where
    a_variable : {a : Place} {w : List ℕ} → IsPrimary (at a (token.variable w) ∷ []) (variable (encode_utf8_all w))
    a_number : {a : Place} {signed : Bool} {n : ℕ} → is_number n ≡ true → IsPrimary (at a (numeral signed n) ∷ []) (number (pos n))
    a_negative : {a b : Place} {n : ℕ} → is_magnitude n ≡ true → IsPrimary (at a (additive minus) ∷ at b (numeral true n) ∷ []) (number (neg_ℤ (pos n)))
    a_name : {a : Place} {w : List ℕ} → IsPrimary (at a (name w) ∷ []) (call (encode_utf8_all w) (exprs_of []))
    a_call : {a b : Place} {w : List ℕ} {ts : List Placed} {es : List Expr} (c : Place) → AreExprs ts es
        → IsPrimary (at a (name w) ∷ at b (sign opens) ∷ ts ++ at c (sign closes) ∷ []) (call (encode_utf8_all w) (exprs_of es))
    in_parens : {a : Place} {ts : List Placed} {e : Expr} (b : Place) → IsSum ts e → IsPrimary (at a (sign opens) ∷ ts ++ at b (sign closes) ∷ []) e
    an_empty_list : {a b : Place} → IsPrimary (at a (sign opens_list) ∷ at b (sign closes_list) ∷ []) nil
    a_list : {a : Place} {ts : List Placed} {es : List Expr} (b : Place) → AreExprs ts es → IsPrimary (at a (sign opens_list) ∷ ts ++ at b (sign closes_list) ∷ []) (list es nil)
    a_list_with_end : {a : Place} {ts us : List Placed} {es : List Expr} {e : Expr} (b c : Place) → AreExprs ts es → IsSum us e
        → IsPrimary (at a (sign opens_list) ∷ ts ++ at b (sign bar) ∷ us ++ at c (sign closes_list) ∷ []) (list es e)

  -- operators associate to the left
  pub data IsProduct : List Placed → Expr → Type 0 where
    one_factor : {ts : List Placed} {e : Expr} → IsPrimary ts e → IsProduct ts e
    more_factors : {ts us : List Placed} {o : Multiplicative} {e f : Expr} (a : Place) → IsProduct ts e → IsPrimary us f → IsProduct (ts ++ at a (multiplicative o) ∷ us) (operation (multiplying o) e f)

  pub data IsSum : List Placed → Expr → Type 0 where
    one_summand : {ts : List Placed} {e : Expr} → IsProduct ts e → IsSum ts e
    more_summands : {ts us : List Placed} {o : Additive} {e f : Expr} (a : Place) → IsSum ts e → IsProduct us f → IsSum (ts ++ at a (additive o) ∷ us) (operation (adding o) e f)

  pub data AreExprs : List Placed → List Expr → Type 0 where
    one_expr : {ts : List Placed} {e : Expr} → IsSum ts e → AreExprs ts (e ∷ [])
    more_exprs : {ts us : List Placed} {es : List Expr} {e : Expr} (a : Place) → AreExprs ts es → IsSum us e → AreExprs (ts ++ at a (sign comma) ∷ us) (es ++ e ∷ [])

pub data IsItem : List Placed → Item → Type 0 where
  an_expr : {ts : List Placed} {e : Expr} → IsSum ts e → IsItem ts (plain e)
  a_relation : {ts us : List Placed} {r : Relation} {e f : Expr} (a : Place) → IsSum ts e → IsSum us f → IsItem (ts ++ at a (relation r) ∷ us) (related r e f)

pub data AreItems : List Placed → List Item → Type 0 where
  one_item : {ts : List Placed} {i : Item} → IsItem ts i → AreItems ts (i ∷ [])
  more_items : {ts us : List Placed} {is : List Item} {i : Item} (a : Place) → AreItems ts is → IsItem us i → AreItems (ts ++ at a (sign comma) ∷ us) (is ++ i ∷ [])

pub data IsHead : List Placed → Head → Type 0 where
  an_active_head : {ts : List Placed} {i : Item} → IsItem ts i → IsHead ts (record { item = i; passive = false })
  a_passive_head : {ts : List Placed} {i : Item} (a b : Place) → IsItem ts i → IsHead (ts ++ at a (sign hash) ∷ at b (name (codes "passive")) ∷ []) (record { item = i; passive = true })

pub data AreHeads : List Placed → List Head → Type 0 where
  one_head : {ts : List Placed} {h : Head} → IsHead ts h → AreHeads ts (h ∷ [])
  more_heads : {ts us : List Placed} {hs : List Head} {h : Head} (a : Place) → AreHeads ts hs → IsHead us h → AreHeads (ts ++ at a (sign comma) ∷ us) (hs ++ h ∷ [])

pub data IsLabel : List Placed → Option (List ℕ) → Type 0 where
  no_label : IsLabel [] None
  a_label : {a b : Place} {w : List ℕ} → IsLabel (at a (name w) ∷ at b (sign label) ∷ []) (Some (encode_utf8_all w))

-- what stands before the arrow
pub data AreAllHeads : List Placed → List Head → List Head → Type 0 where
  one_list : {ts : List Placed} {hs : List Head} → AreHeads ts hs → AreAllHeads ts hs []
  two_lists : {ts us : List Placed} {hs js : List Head} (a : Place) → AreHeads ts hs → AreHeads us js → AreAllHeads (ts ++ at a (sign backslash) ∷ us) hs js

abbrev pub arrow_sign : Arrow → Sign
arrow_sign simplification = simplifies
arrow_sign propagation = propagates

-- what stands after the arrow: a guard, if there is one, and a body
pub data IsBody : List Placed → List Item → List Item → Type 0 where
  no_guard : {ts : List Placed} {is : List Item} → AreItems ts is → IsBody ts [] is
  a_guard : {ts us : List Placed} {gs is : List Item} (a : Place) → AreItems ts gs → AreItems us is → IsBody (ts ++ at a (sign bar) ∷ us) gs is

pub data IsRule : List Placed → Rule → Type 0 where
  a_rule : {ls ts us : List Placed} {l : Option (List ℕ)} {hs js : List Head} {gs is : List Item} (r : Arrow) (a b : Place) → IsLabel ls l → AreAllHeads ts hs js → IsBody us gs is
      → IsRule (ls ++ (ts ++ at a (sign (arrow_sign r)) ∷ (us ++ at b (sign stop) ∷ []))) (record { label = l; heads = hs; behind = js; arrow = r; guard = gs; body = is })

pub data IsDeclaration : List Placed → Declaration → Type 0 where
  a_symbol : {a b c : Place} {w : List ℕ} {signed : Bool} {n : ℕ} → is_number n ≡ true → IsDeclaration (at a (name w) ∷ at b (sign slash) ∷ at c (numeral signed n) ∷ []) (record { name = encode_utf8_all w; arity = n })

pub data AreDeclarations : List Placed → List Declaration → Type 0 where
  one_symbol : {ts : List Placed} {d : Declaration} → IsDeclaration ts d → AreDeclarations ts (d ∷ [])
  more_symbols : {ts us : List Placed} {ds : List Declaration} {d : Declaration} (a : Place) → AreDeclarations ts ds → IsDeclaration us d → AreDeclarations (ts ++ at a (sign comma) ∷ us) (ds ++ d ∷ [])

-- the symbols that a module exports
pub data AreExports : List Placed → Type 0 where
  no_exports : AreExports []
  some_exports : {ts : List Placed} {ds : List Declaration} → AreDeclarations ts ds → AreExports ts

-- the line of the first token
abbrev pub line_of : List Placed → ℕ
line_of [] = 0
line_of (at p t ∷ ts) = p.line

pub data IsPart : List Placed → Part → Type 0 where
  a_chr_constraint : {a b : Place} {ts : List Placed} {ds : List Declaration} (c : Place) → AreDeclarations ts ds
      → IsPart (at a (sign token.declares) ∷ at b (name (codes "chr_constraint")) ∷ ts ++ at c (sign stop) ∷ []) (syntax.declares a.line ds)
  a_use_module : {a b c d e f g h i : Place}
      → IsPart (at a (sign token.declares) ∷ at b (name (codes "use_module")) ∷ at c (sign opens) ∷ at d (name (codes "library")) ∷ at e (sign opens) ∷ at f (name (codes "chr")) ∷ at g (sign closes) ∷ at h (sign closes) ∷ at i (sign stop) ∷ []) (ignored a.line)
  a_module : {a b c d e f : Place} {w : List ℕ} {ts : List Placed} (g h i : Place) → AreExports ts
      → IsPart (at a (sign token.declares) ∷ at b (name (codes "module")) ∷ at c (sign opens) ∷ at d (name w) ∷ at e (sign comma) ∷ at f (sign opens_list) ∷ ts ++ at g (sign closes_list) ∷ at h (sign closes) ∷ at i (sign stop) ∷ []) (ignored a.line)
  some_rule : {ts : List Placed} {r : Rule} → IsRule ts r → IsPart ts (syntax.rule (line_of ts) r)

pub data AreParts : List Placed → Program → Type 0 where
  no_parts : AreParts [] []
  more_parts : {ts us : List Placed} {ps : Program} {p : Part} → AreParts ts ps → IsPart us p → AreParts (ts ++ us) (ps ++ p ∷ [])

-- the tokens of a text spell a program, or a query
pub data IsProgram : List Placed → Program → Type 0 where
  a_program : {ts : List Placed} {ps : Program} (a : Place) → AreParts ts ps → IsProgram (ts ++ at a over ∷ []) ps

pub data IsQuery : List Placed → Query → Type 0 where
  a_query : {ts : List Placed} {is : List Item} (a b : Place) → AreItems ts is → IsQuery (ts ++ at a (sign stop) ∷ at b over ∷ []) (record { line = line_of ts; items = is })
