use Rattle.std.proofs.Common.{eq-eqb, sym}
use Rattle.std.proofs.lemmas.Bool.{and_from}
use Rattle.chr_find.specs.SnapshotView.{task_view}
use Rattle.chr_machine.proofs.Gathered.{among_at}
use Rattle.chr_machine.proofs.tasks.is_among.Goals as goal

pub returns-then-task-other-2 : goal.returns-then-task-other-2
returns-then-task-other-2 c =
    let same = and_from _ _ (eq-eqb _ _ c.if-task-other.true) (eq-eqb _ _ c.if-task-other-2.true) in
    sym (among_at (task_view c.args.task) c.args.tasks.now c.loop-other.other-index (record { goal = record { 0 = 0 }; occurrence = 0 }) c.loop-other-test.true same)
