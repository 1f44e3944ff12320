-- The examples of checks, as syntax.
use Rattle.std.specs.Prelude.{ℕ, pos, false, List, [], ◌∷◌, map, replicate, Some, None, Result, Ok, Err, codes}
use Rattle.chr_semantics.specs.Program as semantics
use Rattle.chr_semantics.specs.Tokens as token
use Rattle.chr_semantics.specs.Tokens.{minus, Relation}
use Rattle.chr_semantics.specs.Syntax.{Expr, exprs_of, variable, number, call, adding, operation, Item, plain, related, Head, Arrow, simplification, Rule, Declaration, Part, declares, rule, Program, Query}
use Rattle.chr_semantics.specs.Checked.{RuleErrorKind, RuleError, Checked}

-- a name alone, and a name over one expression
abbrev pub name : List ℕ → Item
name w = plain (call w (exprs_of []))

abbrev pub over : List ℕ → Expr → Item
over w e = plain (call w (exprs_of (e ∷ [])))

abbrev pub head : Item → Head
head i = record { item = i; passive = false }

-- a rule without a label, a `\` and a guard
abbrev pub plain_rule : List Item → Arrow → List Item → Rule
plain_rule hs a bs = record { label = None; heads = map head hs; behind = []; arrow = a; guard = []; body = bs }

-- a rule with one head before its `\` and one after it
abbrev pub kept_and_removed : Item → Item → Arrow → Item → Rule
kept_and_removed h j a b = record { label = None; heads = head h ∷ []; behind = head j ∷ []; arrow = a; guard = []; body = b ∷ [] }

abbrev pub guarded : Rule → List Item → Rule
guarded r gs = record { label = r.label; heads = r.heads; behind = r.behind; arrow = r.arrow; guard = gs; body = r.body }

abbrev pub labelled : List ℕ → Rule → Rule
labelled w r = record { label = Some w; heads = r.heads; behind = r.behind; arrow = r.arrow; guard = r.guard; body = r.body }

abbrev pub symbol : List ℕ → ℕ → Declaration
symbol w n = record { name = w; arity = n }

-- a declaration of gcd/1, then
-- gcd1 @ gcd(0) <=> true. gcd2 @ gcd(N) \ gcd(M) <=> M >= N | L is M-N, gcd(L).
abbrev pub gcd_syntax : Program
gcd_syntax =
    declares 1 (symbol (codes "gcd") 1 ∷ [])
    ∷ rule 2 (labelled (codes "gcd1") (plain_rule (over (codes "gcd") (number (pos 0)) ∷ []) simplification (name (codes "true") ∷ [])))
    ∷ rule 3 (record {
      label = Some (codes "gcd2");
      heads = head (over (codes "gcd") (variable (codes "N"))) ∷ [];
      behind = head (over (codes "gcd") (variable (codes "M"))) ∷ [];
      arrow = simplification;
      guard = related token.at_least (variable (codes "M")) (variable (codes "N")) ∷ [];
      body = related token.is (variable (codes "L")) (operation (adding minus) (variable (codes "M")) (variable (codes "N"))) ∷ over (codes "gcd") (variable (codes "L")) ∷ [];
    })
    ∷ []

-- gcd(4), gcd(2).
abbrev pub gcd_query : Query
gcd_query = record { line = 1; items = over (codes "gcd") (number (pos 4)) ∷ over (codes "gcd") (number (pos 2)) ∷ [] }

-- two rules after `:- chr_constraint p/0, q/0, r/0, t/1.`, in the second line and in the third
abbrev pub declared : Part
declared = declares 1 (symbol (codes "p") 0 ∷ symbol (codes "q") 0 ∷ symbol (codes "r") 0 ∷ symbol (codes "t") 1 ∷ [])

abbrev pub with_rule : Rule → Program
with_rule r = declared ∷ rule 2 r ∷ []

abbrev pub with_rules : Rule → Program
with_rules r = declared ∷ rule 2 r ∷ rule 3 r ∷ []

abbrev pub p : Item
p = name (codes "p")

abbrev pub q : Item
q = name (codes "q")

abbrev pub r : Item
r = name (codes "r")

abbrev pub x : Expr
x = variable (codes "X")

abbrev pub y : Expr
y = variable (codes "Y")

-- t(X)
abbrev pub t_of_x : Item
t_of_x = over (codes "t") x

-- t(_), as often as the number says
abbrev pub many : ℕ → List Item
many n = replicate n (over (codes "t") (variable (codes "_")))

-- such a refusal, in a line and a rule
abbrev pub refused : RuleErrorKind → ℕ → ℕ → Result Checked RuleError
refused m line k = Err (record { kind = m; line = line; rule = k })

-- how many variables the rules of an accepted program have, each
abbrev pub accepted_vars : Result Checked RuleError → List ℕ
accepted_vars (Ok c) = map (λ (r : semantics.Rule). r.vars) c.rules
accepted_vars (Err e) = []
