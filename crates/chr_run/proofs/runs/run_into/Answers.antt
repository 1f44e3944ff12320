use Rattle.chr_rules.specs.ProgramView.{names_of, rules_of}
use Rattle.chr_rules.specs.RuleView.{query_view}
use Rattle.chr_run.proofs.Sends.{into_by}
use Rattle.chr_run.proofs.runs.run_into.Goals as goal

pub returns-in-Ok : goal.returns-in-Ok
returns-in-Ok g c =
    let old = g.W.Write.contents c.args.writer.now in
    let new = g.W.Write.contents c.write_job.new.writer in
    let limits = c.in-Ok.limits in
    into_by g.row.A.Denot (names_of c.args.program.now) (rules_of c.args.program.now) (query_view c.args.query) limits.budget limits.workers c.args.n c.args.workers old new c.write_job.result
    c.in-Ok.ensures.ok.0 c.in-Ok.ensures.ok.1 limits.allowed c.write_job.ensures
