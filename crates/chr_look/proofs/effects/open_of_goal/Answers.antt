use Rattle.std.proofs.Common.{◌≡◌, ◌∙◌, [], List, ap, sym, ℕ}
use Rattle.std.proofs.lemmas.Result.{IfOk-weaker}
use Rattle.chr_semantics.specs.Program as semantics
use Rattle.chr_semantics.specs.Effect.{open_in, sides}
use Rattle.chr_semantics.specs.Tree.{Tree}
use Rattle.chr_rules.specs.RuleView.{goal_view}
use Rattle.chr_rules.specs.declared.goal.Goal.{Goal}
use Rattle.chr_machine.specs.MachineView.{machine_view}
use Rattle.chr_machine.specs.Model.{state_in}
use Rattle.chr_look.specs.EffectView.{has}
use Rattle.chr_look.proofs.Opened.{sides_told}
use Rattle.chr_look.proofs.effects.open_of_goal.Goals as goal

pub returns-in-Told : goal.returns-in-Told
returns-in-Told g c =
    let m = (state_in (machine_view c.args.machine.now)).subst in
    let same : sides (goal_view c.args.goal.now) ≡ _ = ap (λ (x : Goal _). sides (goal_view x)) c.in-Told.is ∙ sides_told c.in-Told.field-0 c.in-Told.left c.in-Told.right in
    IfOk-weaker c.open_variables.result _ _ (λ found h x. h x ∙ ap (λ (ts : List Tree). has (open_in m ts) x) (sym same)) c.open_variables.ensures

pub returns-in-Chr : goal.returns-in-Chr
returns-in-Chr g c x =
    let m = (state_in (machine_view c.args.machine.now)).subst in
    ap (λ (xs : List ℕ). has xs x) c.new.ensures.items ∙ ap (λ (y : Goal _). has (open_in m (sides (goal_view y))) x) (sym c.in-Chr.is)

pub returns-in-Fail : goal.returns-in-Fail
returns-in-Fail g c x =
    let m = (state_in (machine_view c.args.machine.now)).subst in
    ap (λ (xs : List ℕ). has xs x) c.new-in-Fail.ensures.items ∙ ap (λ (y : Goal _). has (open_in m (sides (goal_view y))) x) (sym c.in-Fail.is)
