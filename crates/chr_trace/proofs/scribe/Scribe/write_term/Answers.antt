use Rattle.chr_trace.proofs.Written.{written_on}
use Rattle.chr_trace.proofs.scribe.Scribe.write_term.Goals as goal

pub returns-clause-kept : goal.returns-clause-kept
returns-clause-kept g c = written_on c.print.result _ _ _ c.print.ensures.ok c.print.ensures.err
