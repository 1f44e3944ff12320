use Rattle.std.proofs.Common.{◌∙◌, ◌<◌, arith, length}
use Rattle.chr_term.proofs.Extensions.{extended_on}
use Rattle.chr_trace.proofs.Bodies.{lines_moved}
use Rattle.chr_trace.proofs.Bound.{bindings-more}
use Rattle.chr_trace.proofs.scribe.Scribe.write_bound.Goals as goal

pub loop-k-preserved : goal.loop-k-preserved
loop-k-preserved g c =
    let w = c.args.self.now in
    let lt : c.loop-k.k < length w.var_names.now = omega (arith, c.loop-k-test.true, c.len-k-end.ensures) in
    record {
      text = c.loop-k.invariant.text ∙ lines_moved c.loop-k.out.items c.write_binding.new.out.items _ _ _ (bindings-more w.names.now w.var_names.now w.bindings.now.subst c.loop-k.k (length w.var_names.now) lt) c.in_ok-write_binding.ensures.ok;
      kept = extended_on _ _ _ c.loop-k.invariant.kept c.in_ok-write_binding.ensures.kept;
    }
