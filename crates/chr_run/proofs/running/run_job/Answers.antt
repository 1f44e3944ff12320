use Rattle.chr_semantics.specs.Text.{text}
use Rattle.chr_rules.specs.ProgramView.{names_of, rules_of}
use Rattle.chr_rules.specs.RuleView.{query_view}
use Rattle.chr_run.proofs.Ends.{text_some}
use Rattle.chr_run.proofs.Parts.{less_none}
use Rattle.chr_run.proofs.running.run_job.Goals as goal

pub returns-in-Err : goal.returns-in-Err
returns-in-Err g c =
    let job = c.args.job in
    let names = names_of job.program.now in
    let p = rules_of job.program.now in
    let q = query_view job.query in
    less_none (g.O.Outlet.known c.args.outlet.now) (text names p q job.limits.budget) (text_some names p q job.limits.budget)
