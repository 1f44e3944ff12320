use Rattle.std.proofs.Common.{sym, subst}
use Rattle.std.proofs.lemmas.Bool.{false≢true}
use Rattle.chr_semantics.specs.Checked.{Checked}
use Rattle.chr_read.specs.SyntaxView.{query_view as syntax_query}
use Rattle.chr_rules.specs.ProgramView.{checked_view}
use Rattle.chr_rules.specs.RuleView.{query_view}
use Rattle.chr_check.specs.Accepted.{IsProgramAnswer, IsSomeQuery}
use Rattle.chr_check.proofs.Refused.{no_query}
use Rattle.chr_check.proofs.refusal.query_refusal.Goals as goal

pub returns-in-Ok-goals_of_query : goal.returns-in-Ok-goals_of_query
returns-in-Ok-goals_of_query g c d a =
    let query = c.in-Ok-goals_of_query.field-0 in
    let same = (subst (IsProgramAnswer checked_view c.args.program.now) c.in-Ok-2.is c.in_ok-program.ensures).1 d a in
    subst (λ (e : Checked). IsSomeQuery e c.args.text.now) same
    ((checked_view c.goals_of_query.new.self).names, query_view query, record { spelled = syntax_query c.in-Ok.syntax; read = c.in-Ok.ensures.read; is_checked = c.in-Ok-goals_of_query.ensures.accepted })

pub returns : goal.returns
returns g c d a some =
    let program = checked_view c.in-Ok-2.program in
    let same = (subst (IsProgramAnswer checked_view c.args.program.now) c.in-Ok-2.is c.in_ok-program.ensures).1 d a in
    no_query program c.args.text.now (syntax_query c.in-Ok.syntax) c.in-Err-goals_of_query.error c.in-Ok.ensures.only c.in-Err-goals_of_query.ensures.refused (λ m. false≢true (rw m at c.if-eq-2.ensures)) (subst (λ (e : Checked). IsSomeQuery e c.args.text.now) (sym same) some)
