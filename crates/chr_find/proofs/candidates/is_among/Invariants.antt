use Rattle.std.proofs.Common.{◌≡◌, drop}
use Rattle.chr_semantics.specs.Search.{has_number}
use Rattle.chr_store.specs.Numbers.{numbers}
use Rattle.chr_find.proofs.candidates.is_among.Given as goal

-- the identities that are left decide
abbrev pub invariant-loop-other : goal.invariant-loop-other
invariant-loop-other l = has_number (numbers l.ids) l.id.0 ≡ has_number (numbers (drop l.other-index l.ids)) l.id.0
