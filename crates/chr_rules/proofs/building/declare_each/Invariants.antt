use Rattle.std.proofs.Common.{◌≡◌, drop}
use Rattle.chr_semantics.specs.Checked.{declare, each}
use Rattle.chr_read.specs.SyntaxView.{declaration_views}
use Rattle.chr_rules.proofs.building.declare_each.Given as goal

abbrev pub invariant-loop-declaration : goal.invariant-loop-declaration
invariant-loop-declaration g l = each (declare l.line) l.initial.names (declaration_views l.declarations) ≡ each (declare l.line) l.names (declaration_views (drop l.declaration-index l.declarations))
