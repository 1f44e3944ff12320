-- No line has four words.
use Rattle.chr_schedule.proofs.Cuts.{four_words}
use Rattle.chr_schedule.proofs.lines.read_line.Goals as goal

pub returns-in-Some-split_once-2 : goal.returns-in-Some-split_once-2
returns-in-Some-split_once-2 c =
    let second = c.in-Some-split_once in
    let third = c.in-Some-split_once-2 in
    four_words c.args.line.now c.in-Some.word.now c.in-Some.others.now second.first.now second.others.now third.field-0.0.now third.field-0.1.now c.in-Some.ensures.parts second.ensures.parts third.ensures.parts
