-- What goals, rules and queries stand for.
use Rattle.std.specs.Prelude.{ℕ, ◌+◌, Bool, false, List, [], ◌∷◌, map, Vec, string_bytes, slice_get, unwrap_or, Option, Some, None}
use Rattle.chr_semantics.specs.Tree.{Tree}
use Rattle.chr_semantics.specs.Program as semantics
use Rattle.chr_semantics.specs.Program.{Head, constraint, tell, evaluate, compare, fail, less, greater, at_most, at_least, equals, differs}
use Rattle.chr_term.specs.TermView.{atom_over, atom_view, view}
use Rattle.chr_term.specs.declared.term.Sym.{Sym}
use Rattle.chr_term.specs.declared.term.Term.{Term}
use Rattle.chr_bind.specs.Guards.{test_view}
use Rattle.chr_bind.specs.declared.guard.Test.{Test}
use Rattle.chr_rules.specs.declared.goal.Op.{Op}
use Rattle.chr_rules.specs.declared.goal.Op.TheVariants.{Unify, Is, Less, Greater, AtMost, AtLeast, Equals, Differs}
use Rattle.chr_rules.specs.declared.goal.Goal.{Goal}
use Rattle.chr_rules.specs.declared.goal.Goal.TheVariants.{Chr, Told, Fail}
use Rattle.chr_rules.specs.declared.rule.Rule.{Rule}
use Rattle.chr_rules.specs.declared.goal.Query.{Query}

abbrev pub builtin_view : Op → Tree → Tree → semantics.Goal
builtin_view Unify t u = tell t u
builtin_view Is t u = evaluate t u
builtin_view Less t u = compare less t u
builtin_view Greater t u = compare greater t u
builtin_view AtMost t u = compare at_most t u
builtin_view AtLeast t u = compare at_least t u
builtin_view Equals t u = compare equals t u
builtin_view Differs t u = compare differs t u

abbrev pub goal_view : {A : Type 0} → Goal A → semantics.Goal
goal_view (Chr f ts) = constraint (atom_over f ts)
goal_view (Told op t u) = builtin_view op (view t) (view u)
goal_view Fail = fail

-- the flag of a head, false where it is missing
abbrev pub flag_at : List Bool → ℕ → Bool
flag_at flags k = unwrap_or (slice_get flags k) false

abbrev pub heads_from : {A : Type 0} → List Bool → ℕ → List (Sym × Vec (Term A) A) → List Head
heads_from flags k [] = []
heads_from flags k (h ∷ hs) = record { atom = atom_view h.0 h.1.items; passive = flag_at flags k } ∷ heads_from flags (k + 1) hs

abbrev pub heads_view : {A : Type 0} → List (Sym × Vec (Term A) A) → List Bool → List Head
heads_view heads flags = heads_from flags 0 heads

abbrev pub rule_view : {A : Type 0} → Rule A → semantics.Rule
rule_view r = record {
  label = string_bytes r.label;
  kept = r.kept;
  heads = heads_view r.heads.items r.passive.items;
  guard = map test_view r.guard.items;
  body = map goal_view r.body.items;
  head_vars = r.head_vars;
  vars = r.vars;
}

abbrev pub rules_view : {A : Type 0} → List (Rule A) → semantics.Program
rules_view rules = map rule_view rules

abbrev pub query_view : {A : Type 0} → Query A → semantics.Query
query_view q = record { goals = map goal_view q.goals.items; var_names = q.var_names }

-- what an answer has: one element, or none
abbrev pub goals_of : {A : Type 0} → Option (Goal A) → List semantics.Goal
goals_of None = []
goals_of (Some g) = goal_view g ∷ []

abbrev pub tests_of : {A : Type 0} → Option (Test A) → List semantics.Test
tests_of None = []
tests_of (Some t) = test_view t ∷ []
