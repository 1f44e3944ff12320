use Rattle.std.proofs.Common.{◌≡◌, ◌∙◌, List, ap, sym, ℕ}
use Rattle.std.proofs.lemmas.Result.{IfOk-weaker}
use Rattle.chr_semantics.specs.Program as semantics
use Rattle.chr_semantics.specs.Effect.{open_in, sides}
use Rattle.chr_trace.specs.State.{elem_view}
use Rattle.chr_trace.specs.declared.state.Elem.{Elem}
use Rattle.chr_rules.specs.RuleView.{goal_view}
use Rattle.chr_machine.specs.MachineView.{machine_view}
use Rattle.chr_machine.specs.Model.{state_in}
use Rattle.chr_look.specs.EffectView.{has}
use Rattle.chr_look.proofs.Opened.{known_no_goal, active_no_goal, one_goal}
use Rattle.chr_look.proofs.effects.open_of.Goals as goal

pub returns-in-Goal : goal.returns-in-Goal
returns-in-Goal g c =
    let m = (state_in (machine_view c.args.machine.now)).subst in
    IfOk-weaker c.open_of_goal.result _ _
    (λ found h b e x. h x ∙ ap (λ (y : semantics.Goal). has (open_in m (sides y)) x) (one_goal (goal_view c.in-Goal.goal) b (sym (ap elem_view c.in-Goal.is) ∙ e)))
    c.open_of_goal.ensures

pub returns-in-Known : goal.returns-in-Known
returns-in-Known g c b e x = absurd (known_no_goal _ _ b (sym (ap elem_view c.in-Known.is) ∙ e))

pub returns-in-Active : goal.returns-in-Active
returns-in-Active g c b e x = absurd (active_no_goal _ _ _ b (sym (ap elem_view c.in-Active.is) ∙ e))
