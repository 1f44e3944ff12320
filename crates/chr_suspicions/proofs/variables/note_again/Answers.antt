use Rattle.std.proofs.Common.{◌∙◌, ap, sym, take, arith, ◌+◌}
use Rattle.std.proofs.lemmas.List.{set-get_or}
use Rattle.std.proofs.lemmas.Slice.Eq.{bytes_eq-Decides}
use Rattle.chr_suspicions.specs.Counts.{one_more, times}
use Rattle.std.specs.Prelude.{bytes_eq}
use Rattle.chr_suspicions.proofs.Counted.{again_at, not_among}
use Rattle.chr_suspicions.proofs.variables.note_again.Goals as goal

pub returns-then-eq : goal.returns-then-eq
returns-then-eq c = λ w.
    again_at c.loop-known.met c.loop-known.known-index _ c.args.word.now (omega arith) ((bytes_eq-Decides _ _).0 (sym c.if-eq.ensures)) c.loop-known.invariant.none w
    ∙ ap (λ ms. one_more (bytes_eq w c.args.word.now) (times ms w)) c.loop-known.invariant.same

pub loop-known-preserved : goal.loop-known-preserved
loop-known-preserved c = record {
  none = ap (λ ms. times (take (c.loop-known.known-index + 1) ms) c.args.word.now) (set-get_or c.loop-known.met c.loop-known.known-index _)
      ∙ not_among c.loop-known.met c.loop-known.known-index _ c.args.word.now (omega arith) c.if-eq.ensures c.loop-known.invariant.none;
  same = set-get_or c.loop-known.met c.loop-known.known-index _ ∙ c.loop-known.invariant.same;
}
