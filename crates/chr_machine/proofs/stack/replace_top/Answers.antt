use Rattle.std.proofs.Common.{◌∙◌, ◌∷◌, ap, arith}
use Rattle.chr_trace.specs.State.{elem_view, stack_view}
use Rattle.chr_trace.proofs.Stacks.{stack_put}
use Rattle.chr_machine.proofs.Stacks.{popped}
use Rattle.chr_machine.proofs.stack.replace_top.Goals as goal

pub returns-clause-view : goal.returns-clause-view
returns-clause-view g c =
    ap stack_view c.push_reserved.ensures.items
    ∙ (stack_put c.pop-top.new.self.items c.args.elem
    ∙ ap (λ es. elem_view c.args.elem ∷ es) (popped c.args.stack.now.items c.pop-top.new.self.items c.pop-top.result c.pop-top.ensures.items (λ h. c.pop-top.ensures.variant.1 (omega (arith, h, c.args.stack.now.ok.0)))))
