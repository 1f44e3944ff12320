use Rattle.std.proofs.Common.{◌≡◌, ◌∙◌, ◌+◌, List, ap, arith, length, length-append, sym}
use Rattle.chr_semantics.specs.State.{Element}
use Rattle.chr_trace.specs.State.{stack_view}
use Rattle.chr_look.proofs.Tops.{top_part}
use Rattle.chr_look.proofs.Watches.{stack_long}
use Rattle.chr_look.proofs.effects.above.Goals as goal

pub returns-in-Some : goal.returns-in-Some
returns-in-Some g c ts rest is low = ap stack_view c.in-Some.ensures.cases.2 ∙ top_part c.args.stack.now ts rest c.args.below is low

pub returns-in-None : goal.returns-in-None
returns-in-None g c ts rest is low =
    let all : length c.args.stack.now ≡ length ts + length rest = sym (stack_long c.args.stack.now) ∙ ap (λ (xs : List Element). length xs) is ∙ length-append ts rest in
    absurd (omega (arith, all, low, c.in-None.ensures.cases))
