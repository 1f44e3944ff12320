use Rattle.std.proofs.Common.{◌≡◌, ◌∙◌, ℕ, List, Option, ap, sym}
use Rattle.std.proofs.lemmas.Result.{IfOk-weaker}
use Rattle.chr_semantics.specs.Changes.{Entries, Store}
use Rattle.chr_semantics.specs.Program.{Program}
use Rattle.chr_semantics.specs.Search.{first}
use Rattle.chr_semantics.specs.Snapshot.{snapshot_for_task}
use Rattle.chr_semantics.specs.State.{rows}
use Rattle.chr_semantics.specs.Tasks.{Task}
use Rattle.chr_semantics.proofs.SnapshotLaw.{snapshot_law}
use Rattle.chr_rules.specs.ProgramView.{rules_of}
use Rattle.chr_find.specs.SnapshotView.{task_view}
use Rattle.chr_machine.specs.MachineView.{machine_view}
use Rattle.chr_machine.specs.Model.{Model, state_in}
use Rattle.chr_machine.specs.NeedView.{Answers, need, search_of}
use Rattle.chr_machine_tests.proofs.tests.asked.answer_of.Goals as goal

-- what is found for the task that the next step needs answers it
found_answers : (m : Model) (p : Program) (t : Task) (ids : Option (List ℕ)) → need m ≡ search_of t → p ≡ m.rules → ids ≡ first p (rows (state_in m)) (state_in m).history t.0 t.1 → Answers m ids
found_answers m p t ids needs same is = record {
  task = t;
  needs = needs;
  finds = is ∙ ap (λ (q : Program). first q (rows (state_in m)) (state_in m).history t.0 t.1) same;
}

pub returns : goal.returns
returns g c =
    let m = machine_view c.args.machine.now in
    let p = rules_of c.program-program.result.now in
    let t = task_view c.args.task in
    let taken = c.in_ok-snapshot.ensures (state_in m) record {
      store = sym (ap (λ (s : Store). s.rows) c.store-store.ensures);
      subst = sym c.bindings-bindings.ensures.subst;
      history = sym (ap (λ (e : Entries). e.list) c.history-history.ensures);
      next = sym (ap (λ (s : Store). s.next_id) c.store-store.ensures);
    } in
    IfOk-weaker c.find.result _ _
    (λ found says. found_answers m p t _ c.requires c.program-program.ensures.rules
    ((says (snapshot_for_task p (state_in m) t) taken.shown).ids_are ∙ snapshot_law.own p (state_in m) t c.args.machine.now.steady.proper.sound))
    c.find.ensures
