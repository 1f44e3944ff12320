-- The run that was made, and what followed it.
use Rattle.std.proofs.Common.{rules, ◌≡◌, List, ℕ, subst}
use Rattle.chr_run.specs.Command.{Ends, effect}
use Rattle.chr_run.specs.Reports.{IsWritten, options_view}
use Rattle.chr_run.proofs.command_line.run_source.Goals as goal
use Rattle.chr_run.proofs.command_line.run_source.Goals.{in-Ok, in-Err}

pub returns : goal.returns
returns g c = record {
  result = c.run_text_by.result;
  is_run = search rules;
  ends = elim c.match-run_text_by.branch [
    | in-Ok w ↦ rw (w.in-Ok.is, w.error-is, w.result-is) w.report.ensures
    | in-Err w ↦ rw (w.in-Err.is, w.error-is, w.result-is) (w.refuse.ensures.code, w.refuse.ensures.says)
  ];
}
