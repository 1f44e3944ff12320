use Rattle.std.proofs.Common.{◌≡◌, take, true}
use Rattle.std.specs.List.{list_all}
use Rattle.chr_find.proofs.RuleClashes.{is_other}
use Rattle.chr_find.proofs.scope.has_head.Given as goal

abbrev pub invariant-loop-other : goal.invariant-loop-other
invariant-loop-other g l = list_all (is_other l.sym) (take l.other-index l.rule.heads.items) ≡ true
