-- The pieces of an arrival's line, one after another.
use Rattle.std.specs.Fmt.{decimal}
use Rattle.chr_schedule.proofs.Pieces.{arrival_written}
use Rattle.chr_schedule.proofs.printing.write_words.Goals as goal

pub returns-in_ok-write_bytes-in-Arrive-2-clause-ok :
    goal.returns-in_ok-write_bytes-in-Arrive-2-clause-ok
returns-in_ok-write_bytes-in-Arrive-2-clause-ok g c =
    rw (c.in-Arrive.is, ← c.from.ensures, ← c.from-in-Arrive.ensures)
    (arrival_written c.write_number-in-Arrive.result c.args.out.now.items c.write_bytes-in-Arrive.new.out.items c.write_number.new.out.items c.write_bytes-in-Arrive-2.new.out.items c.write_number-in-Arrive.new.out.items (decimal c.from.result) (decimal c.from-in-Arrive.result)
    c.in_ok-write_bytes-in-Arrive.ensures.ok c.in_ok-write_number-in-Arrive.ensures.ok c.in_ok-write_bytes-in-Arrive-2.ensures.ok c.write_number-in-Arrive.ensures.ok)
