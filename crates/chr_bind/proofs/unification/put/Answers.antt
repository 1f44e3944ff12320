use Rattle.std.proofs.Common.{arith}
use Rattle.chr_bind.proofs.Agenda.{agenda_size-last, below_agenda-last, rest_apart-last}
use Rattle.chr_bind.proofs.unification.put.Goals as goal

pub returns-clause-below : goal.returns-clause-below
returns-clause-below g c = rw c.in_ok-push.ensures.items (λ n h k l. below_agenda-last n c.args.agenda.now.items (c.args.lefts, c.args.rights) h k l)

pub returns-clause-apart : goal.returns-clause-apart
returns-clause-apart g c = rw c.in_ok-push.ensures.items (λ s. rest_apart-last s c.args.agenda.now.items (c.args.lefts, c.args.rights))

pub returns-clause-size : goal.returns-clause-size
returns-clause-size g c = rw c.in_ok-push.ensures.items (λ s. let r = agenda_size-last s c.args.agenda.now.items (c.args.lefts, c.args.rights) in omega (arith, r))
