-- The sums of the definition.
use Rattle.std.proofs.Common.{◌≡◌, ◌∙◌, ◌+◌, ◌-◌, ◌≤◌, ap, ap₂, arith, length, sym, not, ◌||◌}
use Rattle.std.proofs.lemmas.List.{length-map}
use Rattle.chr_semantics.specs.Desk.{Serial, count_of, is_drained, is_given_up, is_posted, is_waiting, totals_of}
use Rattle.chr_semantics.proofs.TotalsLaw.{totals_law}
use Rattle.std.specs.Prelude.{List}
use Rattle.chr_board.specs.OfferedView.{offered_task_view, offered_view, totals_view}
use Rattle.chr_board.specs.declared.offered_task.OfferedTask.{OfferedTask}
use Rattle.chr_board.proofs.Phases.{count_of-few}
use Rattle.chr_board.proofs.desk.Desk.totals.Goals as goal

pub overflow_sub-result : goal.overflow_sub-result
overflow_sub-result g c =
    let ss = offered_view c.as_slice-offered.result.now in
    omega (arith, c.count-waiting.ensures, count_of-few is_waiting ss, length-map c.as_slice-offered.result.now offered_task_view)

pub overflow_add-result : goal.overflow_add-result
overflow_add-result g c =
    let ss = offered_view c.as_slice-offered.result.now in
    let few = c.args.self.now.is_desk.few in
    let same = ap (λ offered. length (offered_view offered)) c.as_slice-offered.ensures.value in
    omega (arith, few, same, c.count-left.ensures, c.count-drained.ensures, count_of-few is_posted ss, count_of-few is_drained ss)

pub returns : goal.returns
returns g c =
    let offered = c.as_slice-offered.result.now in
    let ss = offered_view offered in
    let put : length offered ≡ length ss = sym (length-map offered offered_task_view) in
    let taken : length offered - c.count-waiting.result ≡ count_of (λ s. not (is_waiting s)) ss = omega (arith, put, totals_law.put ss, c.count-waiting.ensures) in
    let posted : c.count-left.result + c.count-drained.result ≡ count_of (λ s. is_posted s || is_drained s) ss = omega (arith, totals_law.posted ss, c.count-left.ensures, c.count-drained.ensures) in
    let same : totals_of ss ≡ totals_of (offered_view c.args.self.now.offered.items) = ap (λ (xs : List OfferedTask). totals_of (offered_view xs)) c.as_slice-offered.ensures.value in
    let whole : totals_view _ ≡ totals_of ss = λ i. record {
      put = put i;
      taken = taken i;
      posted = posted i;
      given_up = c.count-given_up.ensures i;
      drained = c.count-drained.ensures i;
      waiting = c.count-waiting.ensures i;
      left = c.count-left.ensures i;
    } in
    whole ∙ same
