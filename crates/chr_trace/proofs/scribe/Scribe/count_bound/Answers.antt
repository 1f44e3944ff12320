use Rattle.std.proofs.Common.{◌≡◌, ◌∙◌, ◌+◌, ◌-◌, ◌<◌, ap, arith, cond, is_some, length}
use Rattle.chr_trace.specs.ScribeView.{bindings_by}
use Rattle.chr_trace.proofs.Bound.{is_some-copied, length-bindings-more}
use Rattle.chr_trace.proofs.scribe.Scribe.count_bound.Goals as goal
use Rattle.chr_trace.proofs.scribe.Scribe.count_bound.Goals.{then-is_some, else-is_some}

pub loop-k-preserved : goal.loop-k-preserved
loop-k-preserved g c =
    let w = c.args.self.now in
    let k = c.loop-k.k in
    let n = length w.var_names.now in
    let lt : k < n = omega (arith, c.loop-k-test.true, c.len-k-end.ensures) in
    let more = length-bindings-more w.names.now w.var_names.now w.bindings.now.subst k n c.is_some.result lt (c.is_some.ensures ∙ (is_some-copied c.bound_name.result ∙ ap is_some c.bound_name.ensures)) in
    elim c.if-is_some.branch [
      | then-is_some b ↦
          let one : length (bindings_by w k (n - k)) ≡ 1 + length (bindings_by w (k + 1) (n - (k + 1))) = more ∙ ap (λ t. cond t 1 0 + length (bindings_by w (k + 1) (n - (k + 1)))) b.if-is_some.true in
          record { few = omega (arith, b.count-is, c.loop-k.invariant.few); counted = omega (arith, one, b.count-is, c.loop-k.invariant.counted) }
      | else-is_some b ↦
          let none : length (bindings_by w k (n - k)) ≡ 0 + length (bindings_by w (k + 1) (n - (k + 1))) = more ∙ ap (λ t. cond t 1 0 + length (bindings_by w (k + 1) (n - (k + 1)))) b.if-is_some.false in
          record { few = omega (arith, b.count-is, c.loop-k.invariant.few); counted = omega (arith, none, b.count-is, c.loop-k.invariant.counted) }
    ]
