-- What is below the next variable and the next identity in each state of a run (this project's own; new variables as in Duck et al. 2004,
-- Simplify and Propagate, where a firing takes a rule with variables of its own).
use Rattle.std.specs.Prelude.{◌≡◌, ◌<◌, ◌≤◌, ℕ, true, All, List, length}
use Rattle.chr_semantics.specs.Tree.{Tree, var, int, node, Trees, none, more}
use Rattle.chr_semantics.specs.Subst.{Subst}
use Rattle.chr_semantics.specs.Program.{Goal, constraint, tell, evaluate, compare, fail, Test, identical, not_unifiable, compares, is_integer, is_ground, Head, Rule, Program, Query}
use Rattle.chr_semantics.specs.Match.{Row, has_variable}
use Rattle.chr_semantics.specs.Search.{History}
use Rattle.chr_semantics.specs.State.{Element, goal, known, active, State, start}
use Rattle.chr_semantics.specs.Step.{step}
use Rattle.chr_semantics.specs.Footprint.{IsSound}
use Rattle.chr_semantics.specs.declared.limits.TheConstants.{MAX_HEADS, MAX_RULE_VARIABLES}

-- every variable of the term is below n
abbrev mutual
  pub IsBelow : ℕ → Tree → Type 0
  IsBelow n (var x) = x < n
  IsBelow n (int z) = Unit {0}
  IsBelow n (node f ts) = AreBelow n ts

  pub AreBelow : ℕ → Trees → Type 0
  AreBelow n none = Unit {0}
  AreBelow n (more t ts) = IsBelow n t × AreBelow n ts

-- every variable of the test is below n
abbrev pub IsTestBelow : ℕ → Test → Type 0
IsTestBelow n (identical t u) = IsBelow n t × IsBelow n u
IsTestBelow n (not_unifiable t u) = IsBelow n t × IsBelow n u
IsTestBelow n (compares c t u) = IsBelow n t × IsBelow n u
IsTestBelow n (is_integer t) = IsBelow n t
IsTestBelow n (is_ground t) = IsBelow n t

-- every variable of the goal is below n
abbrev pub IsGoalBelow : ℕ → Goal → Type 0
IsGoalBelow n (constraint a) = AreBelow n a.args
IsGoalBelow n (tell t u) = IsBelow n t × IsBelow n u
IsGoalBelow n (evaluate t u) = IsBelow n t × IsBelow n u
IsGoalBelow n (compare c t u) = IsBelow n t × IsBelow n u
IsGoalBelow n fail = Unit {0}

-- every variable of the head is below n
abbrev pub IsHeadBelow : ℕ → Head → Type 0
IsHeadBelow n h = AreBelow n h.atom.args

-- The heads and the guard have only the first variables, each of which is in a head, and the body has all: at most as many as a rule may
-- have.
pub record IsBounded (r : Rule) : Type 0 where
  pub heads : All (IsHeadBelow r.head_vars) r.heads
  pub guard : All (IsTestBelow r.head_vars) r.guard
  pub body : All (IsGoalBelow r.vars) r.body
  pub covered : (x : ℕ) → x < r.head_vars → has_variable r.heads x ≡ true
  pub ordered : r.head_vars ≤ r.vars
  pub few : r.vars ≤ MAX_RULE_VARIABLES
  pub few_heads : length r.heads ≤ MAX_HEADS

-- each rule of the program is so
abbrev pub AreBounded : Program → Type 0
AreBounded rules = All IsBounded rules

-- the variables of the query's goals have names
abbrev pub IsQueryBounded : Query → Type 0
IsQueryBounded q = All (IsGoalBelow (length q.var_names)) q.goals

-- every variable of the element is below n
abbrev pub IsElementBelow : ℕ → Element → Type 0
IsElementBelow n (goal g) = IsGoalBelow n g
IsElementBelow n (known i a) = AreBelow n a.args
IsElementBelow n (active i j a) = AreBelow n a.args

-- and of each element
abbrev pub AreElementsBelow : ℕ → List Element → Type 0
AreElementsBelow n es = All (IsElementBelow n) es

-- every variable of each row
abbrev pub AreRowsBelow : ℕ → List Row → Type 0
AreRowsBelow n rows = All (λ (r : Row). AreBelow n r.1.args) rows

-- every variable of what the substitution has
abbrev pub IsSubstBelow : ℕ → Subst → Type 0
IsSubstBelow n s = All (λ p. IsBelow n p.1) s

-- every identity of each entry
abbrev pub AreEntriesBelow : ℕ → History → Type 0
AreEntriesBelow n h = All (λ f. All (λ i. i < n) f.1) h

-- every variable is below the next variable, and every identity of the history below the next identity
pub record IsWithin (s : State) : Type 0 where
  pub stack : AreElementsBelow s.next_var s.stack
  pub store : AreRowsBelow s.next_var s.store
  pub subst : IsSubstBelow s.next_var s.subst
  pub entries : AreEntriesBelow s.next_id s.history

-- The start of a query is so, and a step of a program whose rules are bounded keeps a sound state so.
pub record BoundsLaw : Type 0 where
  pub starts : (q : Query) → IsQueryBounded q → IsWithin (start q)
  pub steps : (p : Program) (s : State) → AreBounded p → IsSound s → IsWithin s → IsWithin (step p s)
