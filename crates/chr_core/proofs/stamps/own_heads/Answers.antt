use Rattle.std.proofs.Common.{◌≡◌, ◌∙◌, ◌+◌, ◌≤◌, List, ap, arith, length, subst, sym}
use Rattle.chr_semantics.specs.Footprint.{marks_added}
use Rattle.chr_semantics.specs.Touch.{Mark}
use Rattle.chr_laws.specs.Sums.{sum_of}
use Rattle.chr_core.proofs.Heads.{head_marks, head_marks_are, marks_end}
use Rattle.chr_core.proofs.stamps.own_heads.Goals as goal

pub returns : goal.returns
returns g c =
    let f = marks_added c.args.sym.0 in
    let hs = c.args.rule.now.heads.items in
    let whole = c.loop-head.invariant.whole in
    let end = marks_end f hs c.loop-head.head-index (subst (λ xs. length xs ≤ c.loop-head.head-index) c.deref-head-items.ensures.value c.loop-head-test.false) in
    let all : c.loop-head.sum ≡ 0 + sum_of f (head_marks hs) = omega (arith, whole, end) in
    all ∙ ap (λ (xs : List Mark). 0 + sum_of f xs) (sym (head_marks_are c.args.rule.now.passive.items 0 hs))
