use Rattle.std.proofs.Common.{◌≡◌, drop}
use Rattle.std.specs.List.{list_any}
use Rattle.chr_read.specs.SyntaxView.{item_views}
use Rattle.chr_rules.specs.Checks.{check_view}
use Rattle.chr_rules.proofs.checks.in_items.Given as goal

abbrev pub invariant-loop-item : goal.invariant-loop-item
invariant-loop-item g l = list_any (check_view l.check) (item_views l.items) ≡ list_any (check_view l.check) (item_views (drop l.item-index l.items))
