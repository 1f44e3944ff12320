use Rattle.std.proofs.Common.{◌∙◌, subst, sym}
use Rattle.std.specs.Io.KnownBytes.{Appends}
use Rattle.chr_semantics.specs.Program.{Program}
use Rattle.chr_semantics.specs.Text.{text}
use Rattle.chr_rules.specs.ProgramView.{names_of, rules_of}
use Rattle.chr_rules.specs.RuleView.{query_view}
use Rattle.chr_run.specs.Headline.{IsRun}
use Rattle.chr_run.specs.Output.{AppendsLess}
use Rattle.chr_run.proofs.Headlines.{is_run}
use Rattle.chr_run.proofs.Ends.{text_some}
use Rattle.chr_run.proofs.Parts.{less_none}
use Rattle.chr_run.proofs.Sends.{sent_part, sent_whole}
use Rattle.chr_run.proofs.running.run_named.Goals as goal

pub returns-in_default : goal.returns-in_default
returns-in_default g c =
    let job = c.args.job in
    let names = names_of job.program.now in
    let p = rules_of job.program.now in
    let q = query_view job.query in
    less_none (g.O.Outlet.known c.args.outlet.now) (text names p q job.limits.budget) (text_some names p q job.limits.budget)

pub returns-in-Err : goal.returns-in-Err
returns-in-Err g c =
    let job = c.args.job in
    let n = job.limits.budget in
    let old = g.O.Outlet.known c.args.outlet.now in
    let new = g.O.Outlet.known c.turns_beside-ended.new.outlet in
    let names = names_of job.program.now in
    let query = query_view job.query in
    let at = c.in-Ok.ensures in
    let went = c.turns_beside-ended.ensures in
    let part = rw c.in-Err.is at went.part in
    let out = sent_part {G = g.J.RunName} c.turns_beside-ended.new.coordinator n names query (went.same.names_are ∙ at.names) (went.same.query_is ∙ at.query) old new part in
    subst (λ (p : Program). AppendsLess old new (text names p query n)) (sym c.requires.rules) out

pub returns : goal.returns
returns g c =
    let job = c.args.job in
    let n = job.limits.budget in
    let workers = job.limits.workers in
    let old = g.O.Outlet.known c.args.outlet.now in
    let new = g.O.Outlet.known c.turns_beside-ended.new.outlet in
    let names = names_of job.program.now in
    let query = query_view job.query in
    let at = c.in-Ok.ensures in
    let went = c.turns_beside-ended.ensures in
    let names_are = went.same.names_are ∙ at.names in
    let query_is = went.same.query_is ∙ at.query in
    let through = rw c.in-Ok-ended.is at went.through in
    let rests = rw c.in-Ok-ended.is at went.rests in
    let text_out = rw c.in-Ok-ended.is at went.text in
    let k = c.turns_beside-ended.new.coordinator in
    let out = sent_whole {G = g.J.RunName} k n names query names_are query_is old new through text_out in
    let run = is_run {G = g.J.RunName} k n through names query workers c.finish.result c.with_workers.result names_are query_is (went.same.workers_are ∙ at.workers) job.limits.allowed rests c.finish.ensures c.with_workers.ensures in
    subst (λ (p : Program). Appends old new (text names p query n) × IsRun names p query n workers c.with_workers.result) (sym c.requires.rules) (out, run)
