-- Verdicts and constraints, as the definitions have them.
use Rattle.std.specs.Prelude.{List, map}
use Rattle.chr_semantics.specs.Match.{Row}
use Rattle.chr_semantics.specs.Verdict as semantics
use Rattle.chr_semantics.specs.Verdict.{could_fire, fired, guard, not_yet_there, other_symbol, removed, twice, unlike, waits}
use Rattle.chr_term.specs.TermView.{atom_over, view}
use Rattle.chr_bind.specs.Guards.{lack_view}
use Rattle.chr_look.specs.declared.constraint.Constraint.{Constraint}
use Rattle.chr_look.specs.declared.verdict.Verdict.{Verdict}
use Rattle.chr_look.specs.declared.verdict.Verdict.TheVariants.{CouldFire, Fired, Guard, NotYetThere, OtherSymbol, Removed, Twice, Unlike, Waits}

abbrev pub verdict_view : {A : Type 0} → Verdict A → semantics.Verdict
verdict_view Fired = fired
verdict_view (NotYetThere i) = not_yet_there i.0
verdict_view (Removed i) = removed i.0
verdict_view (Twice i) = twice i.0
verdict_view (OtherSymbol k) = other_symbol k
verdict_view (Unlike way p) = unlike way.items (view p.left) (view p.right)
verdict_view (Waits k x) = waits k x
verdict_view (Guard k l) = guard k (lack_view l)
verdict_view CouldFire = could_fire

-- a constraint with its identity
abbrev pub row_view : {A : Type 0} → Constraint A → Row
row_view c = (c.id.0, atom_over c.sym c.args)

abbrev pub rows_view : {A : Type 0} → List (Constraint A) → List Row
rows_view cs = map row_view cs
