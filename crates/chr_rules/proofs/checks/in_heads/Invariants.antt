use Rattle.std.proofs.Common.{◌≡◌, drop}
use Rattle.std.specs.List.{list_any}
use Rattle.chr_semantics.specs.Checked.{items_of}
use Rattle.chr_read.specs.SyntaxView.{head_views}
use Rattle.chr_rules.specs.Checks.{check_view}
use Rattle.chr_rules.proofs.checks.in_heads.Given as goal

abbrev pub invariant-loop-head : goal.invariant-loop-head
invariant-loop-head g l = list_any (check_view l.check) (items_of (head_views l.heads)) ≡ list_any (check_view l.check) (items_of (head_views (drop l.head-index l.heads)))
