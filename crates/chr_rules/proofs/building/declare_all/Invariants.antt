use Rattle.std.proofs.Common.{◌≡◌, drop}
use Rattle.chr_semantics.specs.Checked.{declare_in, each}
use Rattle.chr_read.specs.SyntaxView.{part_views}
use Rattle.chr_rules.proofs.building.declare_all.Given as goal

abbrev pub invariant-loop-part : goal.invariant-loop-part
invariant-loop-part g l = each declare_in l.initial.names (part_views l.parts) ≡ each declare_in l.names (part_views (drop l.part-index l.parts))
