use Rattle.std.proofs.Common.{ap, refl}
use Rattle.chr_term.specs.TermView.{atom_view, trees_view}
use Rattle.chr_rules.specs.RuleView.{goal_view}
use Rattle.chr_suspicions.proofs.Doubled.{made_by_arguments}
use Rattle.chr_suspicions.proofs.bodies.is_it.Goals as goal

pub returns-then-sym-other : goal.returns-then-sym-other
returns-then-sym-other g c =
    made_by_arguments (atom_view c.args.sym c.args.args.now) (goal_view c.args.goal.now) c.in-Chr.other (trees_view c.args.args.now) c.in-Chr.others (trees_view c.as_slice.result.now) c.same_all.result
    (ap goal_view c.in-Chr.is) c.if-sym-other.true refl c.as_slice.ensures.value c.same_all.ensures
