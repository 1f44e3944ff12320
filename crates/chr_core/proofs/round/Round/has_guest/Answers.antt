use Rattle.chr_semantics.specs.Subst.{instances, value_at}
use Rattle.chr_term.specs.TermView.{trees_view}
use Rattle.chr_core.proofs.Guests.{same_by}
use Rattle.chr_core.proofs.round.Round.has_guest.Goals as goal

pub returns-then-eq : goal.returns-then-eq
returns-then-eq g c =
    rw c.in-Some.is (same_by c.resolve_to.result c.in-Some.kept_sym.0 c.args.sym.0 c.in-Some.kept_args (instances (value_at c.args.bindings.now.subst) (trees_view c.args.args.now)) c.if-eq.ensures (rw c.as_slice.ensures.value at c.resolve_to.ensures))
