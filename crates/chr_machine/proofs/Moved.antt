-- A transition as a step of the run.
use Rattle.std.proofs.Common.{◌≡◌, ◌∙◌, ◌<◌, ◌+◌, ◌++◌, ap, arith, subst, sym}
use Rattle.chr_semantics.proofs.Soundness.{sound_step}
use Rattle.chr_semantics.specs.Calls.{status_calls, status_entry}
use Rattle.chr_semantics.specs.Program.{Program}
use Rattle.chr_semantics.specs.State.{State, Status, running}
use Rattle.chr_semantics.specs.Step.{step, step_at}
use Rattle.chr_semantics.specs.Text.{line_texts}
use Rattle.chr_semantics.specs.Trace.{line_at}
use Rattle.chr_semantics.specs.declared.limits.TheConstants.{MAX_TRANSITIONS}
use Rattle.chr_laws.proofs.Steps.{bounds_law}
use Rattle.chr_machine.specs.MachineView.{Moves}
use Rattle.chr_machine.specs.Model.{Model, state_in}
use Rattle.chr_machine.specs.Step.{IsCounted, IsProper, Makes}

pub moved : (m n : Model) → m.status ≡ running → m.steps < MAX_TRANSITIONS → Makes m n → Moves m n
moved m n runs few made = record {
  running_is = runs;
  few = few;
  state_is = made.state ∙ sym (ap (λ (w : Status). step_at m.rules (state_in m) w) runs);
  store_is = made.store ∙ sym (ap (λ (w : Status). status_calls m.rules (state_in m) w m.base.store) runs);
  entries_are = made.entries ∙ sym (ap (λ (w : Status). status_entry m.rules (state_in m) w m.base.entries) runs);
  lines_are = made.lines ∙ sym (ap (λ (w : Status). m.lines ++ line_texts m.names m.var_names (m.steps + 1) (line_at m.rules (state_in m) w)) runs);
  steps_are = made.counts.steps;
  same = made.same;
}

-- what holds of each state goes on to hold
proper_step : (p : Program) (s : State) → IsProper p s → IsProper p (step p s)
proper_step p s h = record {
  bounded = h.bounded;
  sound = sound_step p s h.sound;
  within = bounds_law.steps p s h.bounded h.sound h.within;
}

pub proper_moved : (m n : Model) → IsProper m.rules (state_in m) → Moves m n → IsProper n.rules (state_in n)
proper_moved m n h moves =
    subst (λ (p : Program). IsProper p (state_in n)) (sym moves.same.rules)
    (subst (λ (s : State). IsProper m.rules s) (sym moves.state_is) (proper_step m.rules (state_in m) h))

pub counted_moved : (m n : Model) → IsCounted m → m.steps < MAX_TRANSITIONS → Makes m n → IsCounted n
counted_moved m n h few made = record {
  limit = omega (arith, few, made.counts.steps);
  given = omega (arith, h.given, made.counts.given, made.counts.steps);
  changed = omega (arith, h.changed, made.counts.changed, made.counts.steps);
}
