-- The text is cut where the first separator stands.
use Rattle.std.proofs.Common.{◌+◌, sym}
use Rattle.chr_schedule.proofs.Cuts.{one_part, first_part, rest_from}
use Rattle.chr_schedule.proofs.splitting.split_once.Goals as goal

pub returns-in_err-at-clause-parts : goal.returns-in_err-at-clause-parts
returns-in_err-at-clause-parts c = rw c.from_residual.ensures (one_part c.args.separator c.args.text.now (sym c.in_err-at.ensures))

pub returns-clause-parts : goal.returns-clause-parts
returns-clause-parts c =
    rw (rest_from (c.in_ok-at.at + 1) c.args.text.now) (first_part c.args.separator c.args.text.now c.in_ok-at.at (sym c.in_ok-at.ensures))
