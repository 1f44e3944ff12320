use Rattle.std.proofs.Common.{◌≡◌, take, true, ℕ}
use Rattle.std.specs.List.{list_all}
use Rattle.chr_store.specs.Rows.{row_atom}
use Rattle.chr_find.proofs.RuleClashes.{clashes_here}
use Rattle.chr_find.proofs.scope.clashes.Given as goal

abbrev pub invariant-loop-sym : goal.invariant-loop-sym
invariant-loop-sym g l = (i : ℕ) → list_all (clashes_here (i, row_atom l.row)) (take l.sym-index l.rule.heads.items) ≡ true
