use Rattle.std.proofs.Common.{◌≡◌, take}
use Rattle.chr_store.specs.Numbers.{numbers}
use Rattle.chr_find.proofs.answer.list_of.Given as goal

abbrev pub invariant-loop-id : goal.invariant-loop-id
invariant-loop-id g l = numbers l.ids.items ≡ numbers (take l.id-index l.id-items)
