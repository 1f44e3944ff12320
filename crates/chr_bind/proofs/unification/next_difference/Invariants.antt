use Rattle.std.proofs.Common.{◌≡◌, length}
use Rattle.chr_bind.specs.Agenda.{IsBelowAgenda, agenda_size, rest_apart}
use Rattle.chr_bind.specs.Chains.{subst_of}
use Rattle.chr_bind.proofs.unification.next_difference.Given as goal

abbrev pub decreases-loop-lefts : goal.decreases-loop-lefts
decreases-loop-lefts g l = agenda_size (subst_of l.chains) l.agenda.items

abbrev pub invariant-loop-lefts : goal.invariant-loop-lefts
invariant-loop-lefts g l = (rest_apart (subst_of l.chains) l.fn.agenda.items ≡ rest_apart (subst_of l.chains) l.agenda.items) × IsBelowAgenda (length l.chains.links.now) l.agenda.items
