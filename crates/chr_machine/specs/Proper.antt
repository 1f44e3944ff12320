-- That a state is proper has one proof at most.
use Rattle.std.specs.Prelude.{ℕ, ◌+◌, List, [], ◌∷◌}
use Rattle.std.specs.Coded.{×_prop, Unit-prop, le_prop}
use Rattle.std.proofs.Props.{props}
use Rattle.chr_semantics.specs.Bounds.{IsElementBelow}
use Rattle.chr_semantics.specs.Footprint.{Agrees, AgreesAt, Ascends, IsGoalOf}
use Rattle.chr_semantics.specs.Match.{Row}
use Rattle.chr_semantics.specs.Program.{Atom}
use Rattle.chr_semantics.specs.State.{Element, goal, known, active}
use Rattle.chr_rules.specs.Bounds.{AreBelow-prop, IsBelow-prop, IsGoalBelow-prop, bounds}
use Rattle.chr_find.specs.AtomCode.{atoms}

pub Ascends-prop : (lo : ℕ) (rows : List Row) (hi : ℕ) → IsProp (Ascends lo rows hi)
Ascends-prop lo [] hi = le_prop
Ascends-prop lo (r ∷ rows) hi = ×_prop le_prop (Ascends-prop (r.0 + 1) rows hi)

pub IsGoalOf-prop : (store : List Row) (n i : ℕ) (a : Atom) → IsProp (IsGoalOf store n i a)
IsGoalOf-prop store n i a = hlevel (atoms, props)

pub AgreesAt-prop : (store : List Row) (n : ℕ) (e : Element) → IsProp (AgreesAt store n e)
AgreesAt-prop store n (goal g) = Unit-prop
AgreesAt-prop store n (known i a) = IsGoalOf-prop store n i a
AgreesAt-prop store n (active i j a) = IsGoalOf-prop store n i a

pub Agrees-prop : (store : List Row) (n : ℕ) (es : List Element) → IsProp (Agrees store n es)
Agrees-prop store n [] = Unit-prop
Agrees-prop store n (e ∷ es) = ×_prop (AgreesAt-prop store n e) (Agrees-prop store n es)

pub IsElementBelow-prop : (n : ℕ) (e : Element) → IsProp (IsElementBelow n e)
IsElementBelow-prop n (goal g) = IsGoalBelow-prop n g
IsElementBelow-prop n (known i a) = AreBelow-prop n a.args
IsElementBelow-prop n (active i j a) = AreBelow-prop n a.args

-- the set for `by { Prim.hlevel propers }` after a ghost field that says `IsProper`
pub ruleset propers = (Ascends-prop, Agrees-prop, IsElementBelow-prop, AreBelow-prop, IsBelow-prop, bounds)
