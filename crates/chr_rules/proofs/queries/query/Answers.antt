use Rattle.std.proofs.Common.{◌∙◌, Ok, ap, sym}
use Rattle.chr_semantics.specs.Checked.{error_in_query, query_from, unless}
use Rattle.chr_read.specs.SyntaxView.{item_views}
use Rattle.chr_rules.proofs.Mistakes.{no_fault}
use Rattle.chr_rules.proofs.queries.query.Goals as goal

pub returns-clause-accepted : goal.returns-clause-accepted
returns-clause-accepted g c = λ rules.
    ap (λ is. unless (error_in_query c.args.names.now c.args.declared (item_views is)) c.args.syntax.now.line 0 (query_from c.args.names.now (item_views is))) (sym c.as_slice-items.ensures.value)
    ∙ ap (λ m. unless m c.args.syntax.now.line 0 (query_from c.args.names.now (item_views c.as_slice-items.result.now))) (no_fault _ c.in_default.ensures)
    ∙ ap Ok c.in_ok-accepted.ensures.query
