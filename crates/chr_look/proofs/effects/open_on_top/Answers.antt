use Rattle.std.proofs.Common.{◌≡◌, ◌∙◌, ◌∷◌, [], List, ap, length, sym, ℕ}
use Rattle.std.proofs.lemmas.Result.{IfOk-weaker}
use Rattle.chr_semantics.specs.State.{Element, goal as on}
use Rattle.chr_trace.specs.State.{elem_view, stack_view}
use Rattle.chr_look.proofs.Listed.{top_last}
use Rattle.chr_look.proofs.Opened.{no_top, one_top}
use Rattle.chr_look.proofs.Watches.{stack_long}
use Rattle.chr_look.proofs.effects.open_on_top.Goals as goal

pub returns-in-Some : goal.returns-in-Some
returns-in-Some g c =
    let below = c.in-Some.field-0-1.now in
    let stack = sym c.stack.ensures ∙ ap stack_view c.in-Some.ensures.cases.0 ∙ top_last below c.in-Some.top.now in
    IfOk-weaker c.open_of.result _ _ (λ found h b rest e. h b (one_top (elem_view c.in-Some.top.now) (on b) (stack_view below) rest (sym stack ∙ e))) c.open_of.ensures

pub returns-in-None : goal.returns-in-None
returns-in-None g c b rest e x =
    absurd (no_top (on b) (stack_view c.stack.result.now) rest (stack_long c.stack.result.now ∙ c.in-None.ensures.cases) (c.stack.ensures ∙ e))
