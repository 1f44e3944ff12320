use Rattle.std.proofs.Common.{◌≡◌, length}
use Rattle.chr_find.specs.IdRows.{id_rows}
use Rattle.chr_find.specs.Shown.{any_new}
use Rattle.chr_find.proofs.new_partners.has_new_in.Given as goal

abbrev pub invariant-loop-middle : goal.invariant-loop-middle
invariant-loop-middle g l = any_new l.from (id_rows l.left) ≡ any_new l.from (id_rows l.fn.span)

abbrev pub decreases-loop-middle : goal.decreases-loop-middle
decreases-loop-middle g l = length l.left
