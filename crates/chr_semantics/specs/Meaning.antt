-- What rules and queries stand for (Frühwirth 2009, syntax of CHR). Symbols get their numbers by first appearance, after those that are
-- known before, and the variables of a rule or a query from 0 by first appearance.
use Rattle.std.specs.Prelude.{ℕ, ◌+◌, Bool, true, false, ◌&&◌, ◌||◌, ◌==◌, nat_lt, if◌then◌else◌, List, [], ◌∷◌, ◌++◌, length, position, Option, Some, None, is_none, unwrap_or, bytes_eq, codes}
use Rattle.std.specs.Fmt.{decimal}
use Rattle.chr_semantics.specs.Names.{Names, nil_symbol, pair_symbol, plus_symbol, minus_symbol, times_symbol, divide_symbol, modulo_symbol, symbol_of, with_symbol}
use Rattle.chr_semantics.specs.Tree.{Tree, var, int, node, Trees, none, more}
use Rattle.chr_semantics.specs.Program.{Atom, Goal, constraint, tell, evaluate, compare, fail, Test, identical, not_unifiable, compares, is_integer, is_ground, less, greater, at_most, at_least, equals, differs, Head, Rule}
use Rattle.chr_semantics.specs.Tokens as token
use Rattle.chr_semantics.specs.Tokens.{plus, minus, times, divide, modulo, Relation}
use Rattle.chr_semantics.specs.Syntax as syntax
use Rattle.chr_semantics.specs.Syntax.{Expr, Exprs, variable, number, call, nil, pair, Operator, adding, multiplying, operation, Item, plain, related, Arrow, simplification, propagation}

-- the symbols and the variables that were met
pub record Scope : Type 0 where
  pub names : Names
  pub variables : List (List ℕ)

abbrev pub scope : Names → List (List ℕ) → Scope
scope names variables = record { names = names; variables = variables }

abbrev pub fresh_scope : Names → Scope
fresh_scope names = scope names []

-- `_` is a new variable each time, and any other word is one variable
abbrev pub is_anonymous : List ℕ → Bool
is_anonymous w = bytes_eq w (codes "_")

abbrev pub variable_of : List (List ℕ) → List ℕ → Option ℕ
variable_of vs w = if is_anonymous w then None else position (bytes_eq w) vs

-- the number of a variable, and the variables that are met with it
abbrev pub variable_in : List (List ℕ) → List ℕ → ℕ
variable_in vs w = unwrap_or (variable_of vs w) (length vs)

abbrev pub with_variable : List (List ℕ) → List ℕ → List (List ℕ)
with_variable vs w = if is_none (variable_of vs w) then vs ++ w ∷ [] else vs

-- the name and the arguments of an expression that is a name
abbrev pub call_of : Expr → Option (List ℕ × Exprs)
call_of (call w es) = Some (w, es)
call_of _ = None

abbrev pub count : Exprs → ℕ
count syntax.none = 0
count (syntax.more e es) = count es + 1

-- the scope after a name, and the number of its symbol there
abbrev pub with_name : Scope → List ℕ → ℕ → Scope
with_name s w n = scope (with_symbol s.names w n) s.variables

abbrev pub symbol_in : Scope → List ℕ → ℕ → ℕ
symbol_in s w n = unwrap_or (symbol_of s.names w n) 0

abbrev pub operator_symbol : Operator → ℕ
operator_symbol (adding plus) = plus_symbol
operator_symbol (adding minus) = minus_symbol
operator_symbol (multiplying times) = times_symbol
operator_symbol (multiplying divide) = divide_symbol
operator_symbol (multiplying modulo) = modulo_symbol

-- a symbol over two trees
abbrev pub node_of : ℕ → Tree → Tree → Tree
node_of f t u = node f (more t (more u none))

-- the tree of an expression, and the scope after it
abbrev mutual
  pub tree_from : Scope → Expr → Scope × Tree
  tree_from s (variable w) = (scope s.names (with_variable s.variables w), var (variable_in s.variables w))
  tree_from s (number z) = (s, int z)
  tree_from s (call w es) = let t = with_name s w (count es) in let r = trees_from t es in (r.0, node (symbol_in t w (count es)) r.1)
  tree_from s nil = (s, node nil_symbol none)
  tree_from s (pair e f) = let r = tree_from s e in let q = tree_from r.0 f in (q.0, node_of pair_symbol r.1 q.1)
  tree_from s (operation o e f) = let r = tree_from s e in let q = tree_from r.0 f in (q.0, node_of (operator_symbol o) r.1 q.1)

  pub trees_from : Scope → Exprs → Scope × Trees
  trees_from s syntax.none = (s, none)
  trees_from s (syntax.more e es) = let r = tree_from s e in let q = trees_from r.0 es in (q.0, more r.1 q.1)

-- What each element gives, after what there is, and in the scope that those before it leave.
abbrev pub with_turn : {X Y : Type 0} → (Scope → X → Scope × List Y) → Scope × List Y → X → Scope × List Y
with_turn f q x = let r = f q.0 x in (r.0, q.1 ++ r.1)

abbrev pub in_turn : {X Y : Type 0} → (Scope → X → Scope × List Y) → Scope × List Y → List X → Scope × List Y
in_turn f q [] = q
in_turn f q (x ∷ xs) = in_turn f (with_turn f q x) xs

-- a name over expressions
abbrev pub atom_from : Scope → List ℕ → Exprs → Scope × Atom
atom_from s w es = let t = with_name s w (count es) in let r = trees_from t es in (r.0, record { sym = symbol_in t w (count es); args = r.1 })

-- the two sides of an item
abbrev pub sides_from : Scope → Expr → Expr → Scope × (Tree × Tree)
sides_from s e f = let r = tree_from s e in let q = tree_from r.0 f in (q.0, (r.1, q.1))

-- the name with this number of arguments is `true`, `fail`, `integer` or `ground`
abbrev pub is_true : List ℕ → ℕ → Bool
is_true w n = bytes_eq w (codes "true") && n == 0

abbrev pub is_fail : List ℕ → ℕ → Bool
is_fail w n = bytes_eq w (codes "fail") && n == 0

abbrev pub is_integer_test : List ℕ → ℕ → Bool
is_integer_test w n = bytes_eq w (codes "integer") && n == 1

abbrev pub is_ground_test : List ℕ → ℕ → Bool
is_ground_test w n = bytes_eq w (codes "ground") && n == 1

-- the goal that two sides make, if any
abbrev pub relation_goal : Relation → Tree → Tree → List Goal
relation_goal token.same t u = tell t u ∷ []
relation_goal token.not_unifiable t u = []
relation_goal token.less t u = compare less t u ∷ []
relation_goal token.greater t u = compare greater t u ∷ []
relation_goal token.at_most t u = compare at_most t u ∷ []
relation_goal token.at_least t u = compare at_least t u ∷ []
relation_goal token.equals t u = compare equals t u ∷ []
relation_goal token.differs t u = compare differs t u ∷ []
relation_goal token.is t u = evaluate t u ∷ []

-- the goal of a name over expressions; `true` is none, and neither is what can't be one
abbrev pub goal_of : Scope → List ℕ → Exprs → Scope × List Goal
goal_of s w es =
    if is_true w (count es) || (is_integer_test w (count es) || is_ground_test w (count es)) then (s, []) else
    if is_fail w (count es) then (s, fail ∷ []) else
    (let r = atom_from s w es in (r.0, constraint r.1 ∷ []))

-- the goal of an item of a body or a query, if any
abbrev pub goal_from : Scope → Item → Scope × List Goal
goal_from s (related r e f) = let q = sides_from s e f in (q.0, relation_goal r q.1.0 q.1.1)
goal_from s (plain e) = elim (call_of e) [ None ↦ (s, []) | Some c ↦ goal_of s c.0 c.1 ]

-- the test that two sides make, if any
abbrev pub relation_test : Relation → Tree → Tree → List Test
relation_test token.same t u = identical t u ∷ []
relation_test token.not_unifiable t u = not_unifiable t u ∷ []
relation_test token.less t u = compares less t u ∷ []
relation_test token.greater t u = compares greater t u ∷ []
relation_test token.at_most t u = compares at_most t u ∷ []
relation_test token.at_least t u = compares at_least t u ∷ []
relation_test token.equals t u = compares equals t u ∷ []
relation_test token.differs t u = compares differs t u ∷ []
relation_test token.is t u = []

-- the test of a name over one expression, if any
abbrev pub test_alone : Scope → List ℕ → Expr → Scope × List Test
test_alone s w e =
    if is_integer_test w 1 then (let r = tree_from s e in (r.0, is_integer r.1 ∷ [])) else
    if is_ground_test w 1 then (let r = tree_from s e in (r.0, is_ground r.1 ∷ [])) else
    (s, [])

abbrev pub test_of : Scope → List ℕ → Exprs → Scope × List Test
test_of s w (syntax.more e syntax.none) = test_alone s w e
test_of s w _ = (s, [])

-- the test of an item of a guard; `true` is none, and neither is what can't be one
abbrev pub test_from : Scope → Item → Scope × List Test
test_from s (related r e f) = let q = sides_from s e f in (q.0, relation_test r q.1.0 q.1.1)
test_from s (plain e) = elim (call_of e) [ None ↦ (s, []) | Some c ↦ test_of s c.0 c.1 ]

-- a head; nothing where an item can't be one
abbrev pub head_of : Scope → Bool → Item → Scope × List Head
head_of s passive (related r e f) = (s, [])
head_of s passive (plain e) = elim (call_of e) [ None ↦ (s, []) | Some c ↦ (let r = atom_from s c.0 c.1 in (r.0, record { atom = r.1; passive = passive } ∷ [])) ]

abbrev pub head_from : Scope → syntax.Head → Scope × List Head
head_from s h = head_of s h.passive h.item

-- the heads in head order, in which the kept ones come first
abbrev pub all_heads : syntax.Rule → List syntax.Head
all_heads r = r.heads ++ r.behind

abbrev pub has_backslash : syntax.Rule → Bool
has_backslash r = nat_lt 0 (length r.behind)

abbrev pub propagates : Arrow → Bool
propagates simplification = false
propagates propagation = true

-- A rule with `==>` keeps all its heads. One with `<=>` keeps those before its `\`, so none where there is no `\`.
abbrev pub kept_count : syntax.Rule → ℕ
kept_count r = if propagates r.arrow || has_backslash r then length r.heads else 0

-- a rule without a name is called by its number from 1
abbrev pub label_of : ℕ → Option (List ℕ) → List ℕ
label_of k None = codes "#" ++ decimal k
label_of k (Some w) = w

-- the rule with this number from 1, and the names after it
abbrev pub rule_from : Names → ℕ → syntax.Rule → Names × Rule
rule_from names k r =
    let hs = in_turn head_from (fresh_scope names, []) (all_heads r) in
    let gs = in_turn test_from (hs.0, []) r.guard in
    let bs = in_turn goal_from (gs.0, []) r.body in (
      bs.0.names,
      record {
        label = label_of k r.label;
        kept = kept_count r;
        heads = hs.1;
        guard = gs.1;
        body = bs.1;
        head_vars = length hs.0.variables;
        vars = length bs.0.variables;
      },
    )
