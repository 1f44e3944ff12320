use Rattle.std.proofs.Common.{◌==◌, take}
use Rattle.std.specs.List.{list_any}
use Rattle.chr_suspicions.specs.Marks.{Marks}
use Rattle.chr_suspicions.proofs.symbols.mark_heads.Given as goal

abbrev pub invariant-loop-head : goal.invariant-loop-head
invariant-loop-head g l = Marks l.initial.flags (λ f. list_any (λ h. h.0.0 == f) (take l.head-index l.head-items)) l.flags
