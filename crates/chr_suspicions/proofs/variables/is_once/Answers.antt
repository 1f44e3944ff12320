use Rattle.std.proofs.Common.{◌==◌, ◌∙◌, ap, sym}
use Rattle.chr_suspicions.proofs.Counted.{first_differs, first_is}
use Rattle.chr_suspicions.proofs.variables.is_once.Goals as goal

pub returns-then-eq : goal.returns-then-eq
returns-then-eq c = first_is c.args.met.now c.loop-known.known-index _ c.args.word.now c.loop-known-test.true c.if-eq.ensures ∙ ap (λ n. n == 1) (sym c.loop-known.invariant)

pub loop-known-preserved : goal.loop-known-preserved
loop-known-preserved c = c.loop-known.invariant ∙ first_differs c.args.met.now c.loop-known.known-index _ c.args.word.now c.loop-known-test.true c.if-eq.ensures
