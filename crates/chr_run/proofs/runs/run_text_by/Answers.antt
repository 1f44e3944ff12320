use Rattle.chr_rules.specs.ProgramView.{names_of, rules_of}
use Rattle.chr_rules.specs.RuleView.{query_view}
use Rattle.chr_run.proofs.Accepted.{accepted_run}
use Rattle.chr_run.proofs.Sends.{into_by}
use Rattle.chr_run.proofs.runs.run_text_by.Goals as goal

pub returns : goal.returns
returns g c =
    let texts = c.in_ok-texts.texts in
    let names = names_of texts.program in
    let p = rules_of texts.program in
    let q = query_view texts.query in
    let old = g.W.Write.contents c.args.writer.now in
    let new = g.W.Write.contents c.write_texts.new.writer in
    let limits = c.in-Ok.limits in
    let n = c.args.n in
    let workers = c.args.workers in
    let went = into_by g.row.A.Denot names p q limits.budget limits.workers n workers old new c.write_texts.result c.in-Ok.ensures.ok.0 c.in-Ok.ensures.ok.1 limits.allowed c.write_texts.ensures in
    accepted_run c.args.program.now c.args.query.now names p q n workers old new c.write_texts.result c.in_ok-texts.ensures.ok went
