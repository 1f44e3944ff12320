use Rattle.std.proofs.Common.{◌≡◌, ◌∙◌, ◌++◌, ◌+◌, ◌∷◌, [], List, ap, get_or, subst, sym, take, ℕ}
use Rattle.std.proofs.lemmas.List.{take_all, take_more}
use Rattle.chr_semantics.specs.Subst.{Subst}
use Rattle.chr_machine.specs.MachineView.{machine_view}
use Rattle.chr_machine.specs.Model.{state_in}
use Rattle.chr_look.specs.EffectView.{AreNoted, values_view}
use Rattle.chr_look.proofs.Opened.{noted_none}
use Rattle.chr_look.proofs.effects.values_of.Goals as goal

pub returns : goal.returns
returns g c solved =
    let s = (state_in (machine_view c.args.machine.now)).subst in
    subst (λ (seen : List ℕ). AreNoted s seen (values_view c.loop-number.values.items)) (take_all c.loop-number.number-index c.args.numbers.now c.loop-number-test.false) (c.loop-number.invariant solved)

pub loop-number-init : goal.loop-number-init
loop-number-init g c solved =
    let s = (state_in (machine_view c.args.machine.now)).subst in
    subst (λ (new : Subst). AreNoted s [] new) (sym (ap values_view c.new-values.ensures.items)) (noted_none s)

pub loop-number-preserved : goal.loop-number-preserved
loop-number-preserved g c solved =
    let s = (state_in (machine_view c.args.machine.now)).subst in
    let more = take_more c.args.numbers.now c.loop-number.number-index 0 c.loop-number-test.true in
    subst (λ (seen : List ℕ). AreNoted s seen (values_view c.note_value.new.values.items)) (sym more) (c.in_ok-note_value.ensures (take c.loop-number.number-index c.args.numbers.now) solved (c.loop-number.invariant solved))
