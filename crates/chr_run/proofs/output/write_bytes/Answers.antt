use Rattle.std.proofs.Common.{◌∙◌, sym, ap, take, ◌++◌}
use Rattle.std.proofs.lemmas.List.{take-append-drop}
use Rattle.chr_run.proofs.Parts.{out-more}
use Rattle.chr_run.proofs.output.write_bytes.Goals as goal

pub loop-rest-preserved : goal.loop-rest-preserved
loop-rest-preserved g c =
    out-more _ _ _ c.args.bytes.now c.loop-rest.rest.now (take c.in-Ok.n c.loop-rest.rest.now) _ c.loop-rest.invariant (sym (ap (λ back. take c.in-Ok.n c.loop-rest.rest.now ++ back) c.split_at.ensures.back ∙ take-append-drop c.in-Ok.n c.loop-rest.rest.now)) c.in-Ok.ensures.bytes
