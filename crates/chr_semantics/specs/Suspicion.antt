-- What looks wrong in a program that is accepted (this project's own). Rules are numbered from 0; heads, tests and goals from 1.
use Rattle.std.specs.Prelude.{◌≡◌, ℕ, Bool, true, false, not, ◌&&◌, ◌||◌, ◌==◌, nat_le, List, [], ◌∷◌, ◌++◌, None, Some, bytes_eq, filter, flat_map, length, slice_get}
use Rattle.std.specs.List.{list_all, list_any}
use Rattle.std.specs.Str.{byte}
use Rattle.chr_semantics.specs.Tree.{Tree, var, int, node, Trees, none, more, same_all}
use Rattle.chr_semantics.specs.Subst.{Subst}
use Rattle.chr_semantics.specs.Program.{Atom, Goal, Head, Program, Query, Rule, Test, constraint, tell, evaluate, compare, fail}
use Rattle.chr_semantics.specs.Syntax as syntax
use Rattle.chr_semantics.specs.Match.{fit_atom}
use Rattle.chr_semantics.specs.Guard.{entailed}
use Rattle.chr_semantics.specs.State.{start}
use Rattle.chr_semantics.specs.Life.{firings}
use Rattle.chr_semantics.specs.Verdict.{Lack, lack, never, undecided, untrue}

-- ---- symbols

-- the goal is a constraint of the symbol
abbrev pub makes : ℕ → Goal → Bool
makes f (constraint a) = a.sym == f
makes f (tell t u) = false
makes f (evaluate t u) = false
makes f (compare c t u) = false
makes f fail = false

abbrev pub has_head : ℕ → Rule → Bool
has_head f rule = list_any (λ (h : Head). h.atom.sym == f) rule.heads

-- a body or the query makes constraints of the symbol
abbrev pub is_made : Program → List Goal → ℕ → Bool
is_made p goals f = list_any (λ (r : Rule). list_any (makes f) r.body) p || list_any (makes f) goals

-- the symbol stands in no head, no body and not in the query
abbrev pub is_unused : Program → List Goal → ℕ → Bool
is_unused p goals f = not (list_any (has_head f) p || is_made p goals f)

-- ---- rules that never fire

-- all heads are passive, so no search is for the rule
abbrev pub is_barren : Rule → Bool
is_barren rule = list_all (λ (h : Head). h.passive) rule.heads

abbrev pub is_for_good : Lack → Bool
is_for_good untrue = true
is_for_good undecided = false
is_for_good never = true

-- the test is not entailed, whatever its variables stand for
abbrev pub is_hopeless : Test → Bool
is_hopeless t = not (entailed [] t) && is_for_good (lack [] t)

-- ---- rules that come too late

-- heads match some of the others, in their order, which are taken as constraints
abbrev pub covers : List Head → List Head → Subst → Bool
covers [] hs m = true
covers (g ∷ gs) [] m = false
covers (g ∷ gs) (h ∷ hs) m = elim (fit_atom g.atom h.atom m) [ Some n ↦ covers gs hs n || covers (g ∷ gs) hs m | None ↦ covers (g ∷ gs) hs m ]

abbrev pub no_test : List Test → Bool
no_test [] = true
no_test (t ∷ ts) = false

-- wherever the later rule could fire, the earlier one takes constraints away: it has no guard, removes all its heads, none is passive, and
-- they match some of the later one's
abbrev pub takes_from : Rule → Rule → Bool
takes_from earlier later = no_test earlier.guard && (earlier.kept == 0 && (not (list_any (λ (h : Head). h.passive) earlier.heads) && covers earlier.heads later.heads []))

-- of two equal constraints the rule keeps one
abbrev pub drops_duplicates : Rule → Bool
drops_duplicates rule = no_test rule.guard && (rule.kept == 1 && are_equal rule.heads)
  where
    are_equal : List Head → Bool
    are_equal (g ∷ h ∷ []) = g.atom.sym == h.atom.sym && same_all g.atom.args h.atom.args
    are_equal _ = false

-- the earlier rule looks for constraints of which the later one drops duplicates
abbrev pub looks_before : Rule → Rule → Bool
looks_before earlier later = drops_duplicates later && list_any (λ (h : Head). has_head h.atom.sym earlier) later.heads

-- ---- bodies

-- a body has the very constraint that the rule removes
abbrev pub is_made_again : List Goal → Atom → Bool
is_made_again goals a = list_any (is_it a) goals
  where
    is_it : Atom → Goal → Bool
    is_it a (constraint b) = a.sym == b.sym && same_all a.args b.args
    is_it a _ = false

-- an arithmetic symbol of two arguments, with any arguments
abbrev pub is_arithmetic : ℕ → Trees → Bool
is_arithmetic f (more t (more u none)) = nat_le 2 f && nat_le f 6
is_arithmetic f _ = false

-- the term has arithmetic in it, which nothing evaluates where it stands in a constraint
abbrev mutual
  pub has_arithmetic : Tree → Bool
  has_arithmetic (var x) = false
  has_arithmetic (int z) = false
  has_arithmetic (node f ts) = is_arithmetic f ts || have_arithmetic ts

  pub have_arithmetic : Trees → Bool
  have_arithmetic none = false
  have_arithmetic (more t ts) = has_arithmetic t || have_arithmetic ts

abbrev pub is_unevaluated : Goal → Bool
is_unevaluated (constraint a) = have_arithmetic a.args
is_unevaluated _ = false

-- ---- variables

abbrev mutual
  pub names_in : syntax.Expr → List (List ℕ)
  names_in (syntax.variable w) = w ∷ []
  names_in (syntax.number z) = []
  names_in (syntax.call w es) = names_in_all es
  names_in syntax.nil = []
  names_in (syntax.pair e end) = names_in e ++ names_in end
  names_in (syntax.operation o e f) = names_in e ++ names_in f

  pub names_in_all : syntax.Exprs → List (List ℕ)
  names_in_all syntax.none = []
  names_in_all (syntax.more e es) = names_in e ++ names_in_all es

abbrev pub names_in_item : syntax.Item → List (List ℕ)
names_in_item (syntax.plain e) = names_in e
names_in_item (syntax.related o e f) = names_in e ++ names_in f

-- the variables of a rule, each as often as it stands there
abbrev pub names_of_rule : syntax.Rule → List (List ℕ)
names_of_rule r =
    flat_map (λ (h : syntax.Head). names_in_item h.item) (r.heads ++ r.behind) ++ flat_map names_in_item (r.guard ++ r.body)

abbrev pub is_anonymous : List ℕ → Bool
is_anonymous [] = false
is_anonymous (c ∷ cs) = c == byte "_"

-- the variables that stand once and don't begin with `_`
abbrev pub lone_variables : syntax.Rule → List (List ℕ)
lone_variables r = let ws = names_of_rule r in filter (λ (w : List ℕ). not (is_anonymous w) && length (filter (bytes_eq w) ws) == 1) ws

-- ---- laws

-- A rule whose heads are all passive fires in no run, and a hopeless test holds under no match.
pub record SuspicionLaw : Type 0 where
  pub barren : (p : Program) (r : ℕ) (rule : Rule) (q : Query) (n : ℕ) → slice_get p r ≡ Some rule → is_barren rule ≡ true
      → list_any (λ (f : ℕ × ℕ × List ℕ). f.1 == r) (firings p (start q) n) ≡ false
  pub hopeless : (t : Test) (m : Subst) → is_hopeless t ≡ true → entailed m t ≡ false
