use Rattle.std.proofs.Common.{ap}
use Rattle.chr_term.specs.TermView.{atom_over}
use Rattle.chr_find.proofs.snapshot_taking.resolved_row.Goals as goal

pub returns : goal.returns
returns g c = ap (atom_over c.args.row.now.sym) c.in_ok-args.ensures
