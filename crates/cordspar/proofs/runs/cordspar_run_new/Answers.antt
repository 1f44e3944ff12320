use Rattle.std.proofs.Common.{not, refl, subst, ◌==◌}
use Rattle.cordspar.specs.Calls.{IsMade}
use Rattle.cordspar.specs.Calls.IsRunCall.{made}
use Rattle.cordspar.specs.declared.held.Held.{Held}
use Rattle.cordspar.proofs.runs.cordspar_run_new.Goals as goal

pub returns-in-Ok-clause-call : goal.returns-in-Ok-clause-call
returns-in-Ok-clause-call c =
    let run = c.in-Ok.handle.value.value in
    made refl run
    (subst (λ (h : Held). IsMade h c.made.new.held c.args.query.now c.args.budget (not (c.args.trace == 0)) c.in-Ok.code run) c.held.ensures.value c.in-Ok.ensures.made)
