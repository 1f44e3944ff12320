use Rattle.std.proofs.Common.{ap, false, length, replicate, sym, ℕ, ◌∙◌}
use Rattle.std.proofs.lemmas.List.{length-map}
use Rattle.chr_semantics.specs.Changes.{Store}
use Rattle.chr_semantics.specs.Tasks as semantics
use Rattle.std.specs.Prelude.{List, map}
use Rattle.chr_find.specs.SnapshotView.{task_view}
use Rattle.chr_machine.specs.MachineView.{machine_view}
use Rattle.chr_core.specs.RoundView.{touches_at}
use Rattle.chr_core.proofs.round.Round.of.Goals as goal

pub returns : goal.returns
returns g c q shown =
    let m = machine_view c.args.machine.now in
    let at = c.steps.ensures.value in
    let next = c.next.ensures ∙ ap (λ (s : Store). s.next_id) c.store.ensures in
    let guest = c.in_ok-shared_guest.ensures ∙ sym (c.guest_row.ensures q shown) in
    let tasks = sym (c.tasks-tasks.ensures q shown) in
    let touches = c.in_ok-touches_of.ensures ∙ ap (map (touches_at m)) tasks in
    let count = sym (length-map c.tasks-tasks.result.now task_view) ∙ ap (λ (ts : List semantics.Task). length ts) tasks in
    let kept = c.in_ok-none_kept.ensures ∙ ap (λ (n : ℕ). replicate n false) count in
    λ k. record { at = at k; next = next k; guest = guest k; sums = touches k; flags = kept k }
