-- Rules, and the occurrences of a symbol (Duck et al. 2004, section 3; Frühwirth 2009, syntax of CHR).
use Rattle.std.specs.Prelude.{ℕ, zero, suc, ◌+◌, Bool, cond, not, ◌&&◌, ◌==◌, List, [], ◌∷◌, ◌++◌, map, reverse, Option, None, slice_get}
use Rattle.chr_semantics.specs.Tree.{Tree, Trees}

-- a symbol with its arguments
pub record Atom : Type 0 where
  pub sym : ℕ
  pub args : Trees

pub data Comparison : Type 0 where
  less : Comparison
  greater : Comparison
  at_most : Comparison
  at_least : Comparison
  equals : Comparison
  differs : Comparison

-- a CHR constraint, a told equation, a told value, a comparison, or `fail`
pub data Goal : Type 0 where
  constraint : Atom → Goal
  tell : Tree → Tree → Goal
  evaluate : Tree → Tree → Goal
  compare : Comparison → Tree → Tree → Goal
  fail : Goal

-- the tests of a guard: `s = t`, `s \= t`, a comparison, `integer(t)`, `ground(t)`
pub data Test : Type 0 where
  identical : Tree → Tree → Test
  not_unifiable : Tree → Tree → Test
  compares : Comparison → Tree → Tree → Test
  is_integer : Tree → Test
  is_ground : Tree → Test

-- a head of a rule; a passive one has no occurrence
pub record Head : Type 0 where
  pub atom : Atom
  pub passive : Bool

-- A rule has its kept heads first, then the removed ones. Its variables are numbered from 0 by first appearance: those below `head_vars`
-- are in a head, and those from there to `vars` are in the body alone. The label is the rule's name, or `#k`.
pub record Rule : Type 0 where
  pub label : List ℕ
  pub kept : ℕ
  pub heads : List Head
  pub guard : List Test
  pub body : List Goal
  pub head_vars : ℕ
  pub vars : ℕ

abbrev pub Program : Type 0
Program = List Rule

-- the goals of a query, and the names of its variables, which are numbered from 0 in this order
pub record Query : Type 0 where
  pub goals : List Goal
  pub var_names : List (List ℕ)

-- the places of the heads of the symbol f that are not passive, from left to right, counted from k
abbrev pub places_from : ℕ → ℕ → List Head → List ℕ
places_from k f [] = []
places_from k f (h ∷ hs) = cond (h.atom.sym == f && not h.passive) (k ∷ places_from (k + 1) f hs) (places_from (k + 1) f hs)

-- a head that a constraint can be active at: its rule, the rule's number, and the head's place in the rule, both counted from 0
pub record Occurrence : Type 0 where
  pub number : ℕ
  pub rule : Rule
  pub place : ℕ

abbrev pub occurrences_in : ℕ → Rule → ℕ → List Occurrence
occurrences_in r rule f = map (λ k. record { number = r; rule = rule; place = k }) (reverse (places_from 0 f rule.heads))

-- rules downwards, counted from r, and the heads of a rule from right to left
abbrev pub occurrences_from : ℕ → Program → ℕ → List Occurrence
occurrences_from r [] f = []
occurrences_from r (rule ∷ rules) f = occurrences_in r rule f ++ occurrences_from (r + 1) rules f

-- the occurrences of the symbol f in their order
abbrev pub occurrences : Program → ℕ → List Occurrence
occurrences = occurrences_from 0

-- the j-th occurrence of the symbol f, counted from 1
abbrev pub occurrence : Program → ℕ → ℕ → Option Occurrence
occurrence p f j = elim j [ zero ↦ None | suc k ↦ slice_get (occurrences p f) k ]
