use Rattle.std.proofs.Common.{◌≡◌, drop, map}
use Rattle.chr_semantics.specs.Guard.{all_entailed}
use Rattle.chr_semantics.specs.Subst.{Subst}
use Rattle.chr_bind.specs.Guards.{test_view}
use Rattle.chr_bind.specs.Matching.{AgreesWith}
use Rattle.chr_bind.proofs.guard.guard_holds.Given as goal

abbrev pub invariant-loop-test : goal.invariant-loop-test
invariant-loop-test g l = (m : Subst) → AgreesWith l.matching m → all_entailed m (map test_view l.tests) ≡ all_entailed m (map test_view (drop l.test-index l.tests))
