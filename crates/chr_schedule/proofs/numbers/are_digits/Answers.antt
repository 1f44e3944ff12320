-- There is a digit where the word is not empty.
use Rattle.std.proofs.Common.{◌≡◌, ◌==◌, false, length, rules}
use Rattle.chr_schedule.proofs.Digits.{some_digits}
use Rattle.chr_schedule.proofs.numbers.are_digits.Goals as goal

pub returns-then-not-is_empty : goal.returns-then-not-is_empty
returns-then-not-is_empty c =
    let some : (length c.args.word.now == 0) ≡ false = search rules in
    some_digits c.args.word.now c.all_digits.result some c.all_digits.ensures
