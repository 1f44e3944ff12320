use Rattle.std.proofs.Common.{◌++◌, refl}
use Rattle.chr_core.specs.CoreView.{counts_view}
use Rattle.chr_run.specs.Reports.{counts_text, totals_text}
use Rattle.chr_run.proofs.Parts.{part_back, part_front}
use Rattle.chr_run.proofs.numbers.say_both.Goals as goal

pub returns-in-Ok : goal.returns-in-Ok
returns-in-Ok g c =
    part_back (g.E.Write.contents c.args.error.now) (g.E.Write.contents c.tell_counts.new.error) (g.E.Write.contents c.say_totals.new.error) (counts_text (counts_view c.args.counts)) (totals_text c.args.totals) c.in-Ok.ensures.ok c.say_totals.ensures

pub returns-in-Err : goal.returns-in-Err
returns-in-Err g c =
    let counted = counts_text (counts_view c.args.counts) in
    let totals = totals_text c.args.totals in
    part_front (g.E.Write.contents c.args.error.now) (g.E.Write.contents c.tell_counts.new.error) (counted ++ totals) counted totals refl c.in-Err.ensures.err
