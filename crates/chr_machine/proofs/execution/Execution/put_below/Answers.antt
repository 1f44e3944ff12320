use Rattle.std.proofs.Common.{◌≡◌, ◌∙◌, ℕ, ap, arith, sym, take}
use Rattle.chr_semantics.specs.declared.limits.TheConstants.{MAX_TASKS}
use Rattle.chr_rules.specs.ProgramView.{rules_of}
use Rattle.chr_find.specs.SnapshotView.{tasks_view}
use Rattle.chr_trace.specs.State.{stack_view}
use Rattle.chr_machine.specs.Gathering.{gathered, waiting_tasks, waiting_view}
use Rattle.chr_machine.specs.Model.{model_of, state_in}
use Rattle.chr_machine.proofs.Gathered.{waiting_none}
use Rattle.chr_machine.proofs.Tops.{waiting_below, waiting_here}
use Rattle.chr_base.specs.BaseView.{program_of}
use Rattle.chr_machine.proofs.execution.Execution.put_below.Goals as goal

pub loop-left-preserved-in-Some : goal.loop-left-preserved-in-Some
loop-left-preserved-in-Some g c =
    let l = c.loop-left in
    let p = rules_of (program_of c.args.self.now.course.base) in
    let s = state_in (model_of c.args.self.now) in
    let ts = tasks_view l.tasks.items in
    let us = tasks_view c.put_tasks.new.tasks.items in
    record {
      within = omega arith;
      same = l.invariant.same ∙ waiting_here c.args.below.now l.left c.index-below-left.result (omega arith) l.invariant.within c.index-below-left.is p s MAX_TASKS l.wanted ts (waiting_view c.in-Some.waiting) us (omega arith) (sym c.in-Some.ensures) c.in_ok-put_tasks.ensures;
    }

pub loop-left-preserved : goal.loop-left-preserved
loop-left-preserved g c =
    let l = c.loop-left in
    let p = rules_of (program_of c.args.self.now.course.base) in
    let s = state_in (model_of c.args.self.now) in
    record {
      within = omega arith;
      same = l.invariant.same ∙ waiting_below c.args.below.now l.left c.index-below-left.result (omega arith) l.invariant.within c.index-below-left.is p s MAX_TASKS l.wanted (tasks_view l.tasks.items) (sym c.in_default.ensures);
    }

pub returns-else-wanted-gt0 : goal.returns-else-wanted-gt0
returns-else-wanted-gt0 g c =
    let l = c.loop-left in
    let none : l.wanted ≡ 0 = omega arith in
    let p = rules_of (program_of c.args.self.now.course.base) in
    let s = state_in (model_of c.args.self.now) in
    sym (l.invariant.same ∙ ap (λ (n : ℕ). gathered MAX_TASKS (tasks_view l.tasks.items) (waiting_tasks p s n (stack_view (take l.left c.args.below.now)))) none)

pub returns-after-loop-left : goal.returns-after-loop-left
returns-after-loop-left g c =
    let l = c.loop-left in
    let none : l.left ≡ 0 = omega arith in
    let p = rules_of (program_of c.args.self.now.course.base) in
    let s = state_in (model_of c.args.self.now) in
    sym (l.invariant.same
    ∙ (ap (λ (n : ℕ). gathered MAX_TASKS (tasks_view l.tasks.items) (waiting_tasks p s l.wanted (stack_view (take n c.args.below.now)))) none
    ∙ ap (gathered MAX_TASKS (tasks_view l.tasks.items)) (waiting_none p s l.wanted)))
