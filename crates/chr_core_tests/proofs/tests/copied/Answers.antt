use Rattle.std.proofs.Common.{subst, sym}
use Rattle.chr_semantics.specs.Bounds.{IsQueryBounded}
use Rattle.chr_core_tests.proofs.tests.copied.Goals as goal

pub returns-in-Ok : goal.returns-in-Ok
returns-in-Ok g c = subst IsQueryBounded (sym c.in-Ok.ensures) c.requires
