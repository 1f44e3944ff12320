use Rattle.std.proofs.Common.{◌<◌, ◌≡◌, ◌∙◌, Bool, Err, List, Ok, Result, ap, arith, subst, sym, ℕ}
use Rattle.std.specs.Prelude.{OnOk}
use Rattle.chr_semantics.specs.Program.{Query}
use Rattle.chr_semantics.specs.Schedule.{Progress, progress}
use Rattle.chr_semantics.specs.State.{start}
use Rattle.chr_core.specs.CoreView.{events_of, query_of, start_of}
use Rattle.chr_policy.specs.Standing.{IsReady, Keeps}
use Rattle.chr_policy.proofs.Standings.{ready_last, ready_later}
use Rattle.chr_policy.proofs.coordinator.Coordinator.prepare.Goals as goal

pub returns-clause-ready : goal.returns-clause-ready
returns-clause-ready g c =
    let p = g.J.RunName.rules in
    let old = c.args.self.now in
    let r = query_of old.core in
    let at = progress p (start r) (events_of old.core) in
    let shared = c.share.new.self in
    let some : 0 < old.workers = omega (arith, c.if-self-eq0.false) in
    let first = ready_later p r (query_of shared.core) old.workers shared.skipped at (events_of shared.core) (events_of c.absorb.new.core) some c.share.ensures.same.query_is c.share.ensures.ready c.in_ok-absorb.ensures.keeps in
    ready_last p r c.absorb-2.result old.workers shared.skipped at (events_of c.absorb.new.core) (events_of c.absorb-2.new.core) some (query_of c.absorb.new.core) (c.absorb.ensures.run.query_is ∙ c.share.ensures.same.query_is) first c.absorb-2.ensures.keeps
