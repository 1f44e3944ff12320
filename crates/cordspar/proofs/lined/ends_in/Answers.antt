use Rattle.std.proofs.Common.{◌≡◌, ◌∙◌, ◌+◌, ◌<◌, [], ◌∷◌, ◌++◌, add-one, ap, arith, get_or, length, sym, take}
use Rattle.std.proofs.Math.Seq.{take-suc}
use Rattle.std.proofs.lemmas.List.{length-take-le}
use Rattle.chr_trace.specs.Lined.{ends_of}
use Rattle.cordspar.specs.Lines.{lines_in}
use Rattle.cordspar.proofs.Lines.{fed, other, unfed}
use Rattle.cordspar.proofs.lined.ends_in.Goals as goal
use Rattle.cordspar.proofs.lined.ends_in.Goals.{then-text-k-eq10+in_ok-push, else-text-k-eq10}

pub loop-k-preserved : goal.loop-k-preserved
loop-k-preserved c =
    let t = c.args.text.now in let k = c.loop-k.k in
    let within : k < length t = omega (arith, c.loop-k-test.true) in
    let more : take (k + 1) t ≡ take k t ++ get_or t k 0 ∷ [] = rw (add-one, take-suc t k 0 within) in
    let far : length (take k t) ≡ k = length-take-le k t (omega (arith, within)) in
    let end : k + 1 ≡ 0 + (length (take k t) + 1) = omega (arith, far) in
    elim c.if-text-k-eq10.branch [
      | then-text-k-eq10+in_ok-push w ↦
          let pushed : c.if-text-k-eq10.ends.items ≡ c.loop-k.ends.items ++ (k + 1) ∷ [] = ap (λ v. v.items) w.ends-is ∙ w.in_ok-push.ensures.items in
          pushed ∙ ((λ i. c.loop-k.invariant i ++ end i ∷ []) ∙ (sym (fed 0 (take k t)) ∙ ap (λ xs. ends_of 0 (lines_in xs)) (ap (λ b. take k t ++ b ∷ []) (sym w.if-text-k-eq10.true) ∙ sym more)))
      | else-text-k-eq10 w ↦
          ap (λ v. v.items) w.ends-is ∙ (c.loop-k.invariant ∙ ap (ends_of 0) (sym (unfed (take k t) (get_or t k 0) (other (get_or t k 0) w.if-text-k-eq10.false)) ∙ ap lines_in (sym more)))
    ]
