-- Which programs and queries are accepted, and what is wrong with the others (the kinds of mistakes, their order and the limits are this
-- project's own).
use Rattle.std.specs.Prelude.{ℕ, ◌+◌, Bool, true, false, not, ◌&&◌, ◌||◌, nat_lt, nat_le, if◌then◌else◌, List, [], ◌∷◌, ◌++◌, length, map, Option, Some, None, is_none, Result, Ok, Err, bytes_eq}
use Rattle.std.specs.List.{list_any}
use Rattle.chr_semantics.specs.Names.{Names, first_names, symbol_of, with_symbol}
use Rattle.chr_semantics.specs.Program as semantics
use Rattle.chr_semantics.specs.Tokens as token
use Rattle.chr_semantics.specs.Syntax as syntax
use Rattle.chr_semantics.specs.Syntax.{Expr, Exprs, variable, number, call, nil, pair, operation, Item, plain, related, Declaration, Part, declares, ignored, rule}
use Rattle.chr_semantics.specs.Meaning.{fresh_scope, variable_of, call_of, count, in_turn, is_true, is_fail, is_integer_test, is_ground_test, goal_from, head_from, all_heads, has_backslash, propagates, rule_from}
use Rattle.chr_semantics.specs.declared.limits.TheConstants.{MAX_ARITY, MAX_HEADS, MAX_RULES, MAX_RULE_VARIABLES}

-- The kinds of mistakes in a declaration, a rule or a query. The least kind is the one that is answered.
pub data RuleErrorKind : Type 0 where
  undeclared : RuleErrorKind
  builtin_in_head : RuleErrorKind
  not_a_goal : RuleErrorKind
  not_a_test : RuleErrorKind
  guard_variable : RuleErrorKind
  guard_only : RuleErrorKind
  duplicate_name : RuleErrorKind
  too_many_heads : RuleErrorKind
  arity_too_large : RuleErrorKind
  too_many_rules : RuleErrorKind
  backslash_in_propagation : RuleErrorKind
  too_many_variables : RuleErrorKind

-- the first that there is
abbrev pub first_of : List (Bool × RuleErrorKind) → Option RuleErrorKind
first_of [] = None
first_of (x ∷ xs) = if x.0 then Some x.1 else first_of xs

-- a mistake, the line where its declarations, its rule or its query begins, and the rule's number from 1 (0 where it is in none)
pub record RuleError : Type 0 where
  pub kind : RuleErrorKind
  pub line : ℕ
  pub rule : ℕ

-- what is built from each element in turn, up to the first refusal
abbrev pub each : {S X E : Type 0} → (S → X → Result S E) → S → List X → Result S E
each f s [] = Ok s
each f s (x ∷ xs) = elim (f s x) [ Ok t ↦ each f t xs | Err e ↦ Err e ]

-- built in, beside the comparisons, `=`, `\=` and `is`
abbrev pub is_builtin : List ℕ → ℕ → Bool
is_builtin w n = is_true w n || (is_fail w n || (is_integer_test w n || is_ground_test w n))

-- The declared symbols are numbered right after the built-in ones, up to the number of all these.
abbrev pub is_among : ℕ → Option ℕ → Bool
is_among declared None = false
is_among declared (Some f) = nat_le (length first_names) f && nat_lt f declared

abbrev pub is_declared : Names → ℕ → List ℕ → ℕ → Bool
is_declared names declared w n = is_among declared (symbol_of names w n)

-- what is wrong with an item that is to be a head or a goal
abbrev pub is_undeclared : Names → ℕ → Item → Bool
is_undeclared names declared (plain e) = elim (call_of e) [ None ↦ false | Some c ↦ not (is_builtin c.0 (count c.1) || is_declared names declared c.0 (count c.1)) ]
is_undeclared names declared (related r e f) = false

abbrev pub is_no_goal : Item → Bool
is_no_goal (plain e) = is_none (call_of e)
is_no_goal (related r e f) = false

abbrev pub is_built_in : Item → Bool
is_built_in (plain e) = elim (call_of e) [ None ↦ false | Some c ↦ is_builtin c.0 (count c.1) ]
is_built_in (related r e f) = true

abbrev pub is_guard_only : Item → Bool
is_guard_only (plain e) = elim (call_of e) [ None ↦ false | Some c ↦ (is_integer_test c.0 (count c.1) || is_ground_test c.0 (count c.1)) ]
is_guard_only (related r e f) = elim r [ token.not_unifiable ↦ true | _ ↦ false ]

-- an item that is no test of a guard
abbrev pub is_no_test : Item → Bool
is_no_test (plain e) = elim (call_of e) [ None ↦ true | Some c ↦ not (is_true c.0 (count c.1) || (is_integer_test c.0 (count c.1) || is_ground_test c.0 (count c.1))) ]
is_no_test (related r e f) = elim r [ token.is ↦ true | _ ↦ false ]

-- a variable that is so stands in the expression, or a name whose number of arguments is so
abbrev mutual
  pub has_part : (List ℕ → Bool) → (ℕ → Bool) → Expr → Bool
  has_part v n (variable w) = v w
  has_part v n (number z) = false
  has_part v n (call w es) = n (count es) || have_part v n es
  has_part v n nil = false
  has_part v n (pair e f) = has_part v n e || has_part v n f
  has_part v n (operation o e f) = has_part v n e || has_part v n f

  pub have_part : (List ℕ → Bool) → (ℕ → Bool) → Exprs → Bool
  have_part v n syntax.none = false
  have_part v n (syntax.more e es) = has_part v n e || have_part v n es

-- a name stands with more arguments than it may
abbrev pub is_wide : Expr → Bool
is_wide = has_part (λ w. false) (λ n. nat_lt MAX_ARITY n)

-- a variable stands that is none of these
abbrev pub is_free : List (List ℕ) → Expr → Bool
is_free vs = has_part (λ w. is_none (variable_of vs w)) (λ n. false)

-- an expression of the item is so
abbrev pub on_sides : (Expr → Bool) → Item → Bool
on_sides p (plain e) = p e
on_sides p (related r e f) = p e || p f

abbrev pub items_of : List syntax.Head → List Item
items_of hs = map (λ (h : syntax.Head). h.item) hs

abbrev pub head_items : syntax.Rule → List Item
head_items r = items_of (all_heads r)

abbrev pub has_label : Option (List ℕ) → semantics.Program → Bool
has_label None p = false
has_label (Some w) p = list_any (λ (r : semantics.Rule). bytes_eq w r.label) p

-- what is wrong with a rule after these, whose number from 1 is the next
abbrev pub error_in_rule : Names → ℕ → semantics.Program → syntax.Rule → Option RuleErrorKind
error_in_rule names declared earlier r = first_of (
    (list_any (is_undeclared names declared) (head_items r ++ r.body), undeclared) ∷
    (list_any is_built_in (head_items r), builtin_in_head) ∷
    (list_any is_no_goal (head_items r ++ r.body), not_a_goal) ∷
    (list_any is_no_test r.guard, not_a_test) ∷
    (list_any (on_sides (is_free (in_turn head_from (fresh_scope names, []) (all_heads r)).0.variables)) r.guard, guard_variable) ∷
    (list_any is_guard_only r.body, guard_only) ∷
    (has_label r.label earlier, duplicate_name) ∷
    (nat_lt MAX_HEADS (length (all_heads r)), too_many_heads) ∷
    (list_any (on_sides is_wide) (head_items r ++ (r.guard ++ r.body)), arity_too_large) ∷
    (nat_le MAX_RULES (length earlier), too_many_rules) ∷
    (propagates r.arrow && has_backslash r, backslash_in_propagation) ∷
    (nat_lt MAX_RULE_VARIABLES (rule_from names 0 r).1.vars, too_many_variables) ∷ [])

abbrev pub error_in_query : Names → ℕ → List Item → Option RuleErrorKind
error_in_query names declared is = first_of (
    (list_any (is_undeclared names declared) is, undeclared) ∷
    (list_any is_no_goal is, not_a_goal) ∷
    (list_any is_guard_only is, guard_only) ∷
    (list_any (on_sides is_wide) is, arity_too_large) ∷ [])

abbrev pub error_in_declaration : Declaration → Option RuleErrorKind
error_in_declaration d = first_of ((is_builtin d.name d.arity, builtin_in_head) ∷ (nat_lt MAX_ARITY d.arity, arity_too_large) ∷ [])

-- what is there, unless there is a mistake
abbrev pub unless : {S : Type 0} → Option RuleErrorKind → ℕ → ℕ → S → Result S RuleError
unless None line k s = Ok s
unless (Some m) line k s = Err (record { kind = m; line = line; rule = k })

-- An accepted program: the names of its symbols, how many of them are the first seven or declared, and its rules.
pub record Checked : Type 0 where
  pub names : Names
  pub declared : ℕ
  pub rules : semantics.Program

abbrev pub declare : ℕ → Names → Declaration → Result Names RuleError
declare line names d = unless (error_in_declaration d) line 0 (with_symbol names d.name d.arity)

abbrev pub declare_in : Names → Part → Result Names RuleError
declare_in names (declares line ds) = each (declare line) names ds
declare_in names (ignored line) = Ok names
declare_in names (rule line r) = Ok names

abbrev pub with_rule : Checked → syntax.Rule → Checked
with_rule c r = let q = rule_from c.names (length c.rules + 1) r in record { names = q.0; declared = c.declared; rules = c.rules ++ q.1 ∷ [] }

abbrev pub rule_in : Checked → Part → Result Checked RuleError
rule_in c (declares line ds) = Ok c
rule_in c (ignored line) = Ok c
rule_in c (rule line r) = unless (error_in_rule c.names c.declared c.rules r) line (length c.rules + 1) (with_rule c r)

-- where only the symbols are known
abbrev pub declared_only : Names → Checked
declared_only names = record { names = names; declared = length names; rules = [] }

-- The declarations of the whole text are looked at first, then the rules, both in their order.
abbrev pub checked : syntax.Program → Result Checked RuleError
checked ps = elim (each declare_in first_names ps) [ Ok names ↦ each rule_in (declared_only names) ps | Err e ↦ Err e ]

-- the names after a query, and what it stands for
abbrev pub query_from : Names → List Item → Names × semantics.Query
query_from names is = let r = in_turn goal_from (fresh_scope names, []) is in (r.0.names, record { goals = r.1; var_names = r.0.variables })

-- a query over a program that is accepted; the program's names grow
abbrev pub checked_query : Checked → syntax.Query → Result (Names × semantics.Query) RuleError
checked_query c q = unless (error_in_query c.names c.declared q.items) q.line 0 (query_from c.names q.items)
