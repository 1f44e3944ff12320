use Rattle.std.proofs.Common.{◌≡◌, ◌∙◌, ◌-◌, ℕ, ap, arith, sym, take}
use Rattle.std.specs.Prelude.{◌||◌}
use Rattle.std.specs.List.{list_any}
use Rattle.chr_rules.specs.ProgramView.{rules_of}
use Rattle.chr_find.specs.SnapshotView.{task_view}
use Rattle.chr_trace.specs.State.{stack_view}
use Rattle.chr_machine.specs.Gathering.{is_other, waiting_tasks, waiting_view}
use Rattle.chr_machine.specs.Model.{model_of, state_in}
use Rattle.chr_machine.proofs.Gathered.{waiting_none}
use Rattle.chr_machine.proofs.OtherTasks.{other_below, other_here}
use Rattle.chr_base.specs.BaseView.{program_of}
use Rattle.chr_machine.proofs.execution.Execution.below_has_other.Goals as goal

pub returns-then-has_other : goal.returns-then-has_other
returns-then-has_other g c =
    let l = c.loop-left in
    let p = rules_of (program_of c.args.self.now.course.base) in
    let s = state_in (model_of c.args.self.now) in
    let t = task_view c.args.task in
    let rest = list_any (is_other t) (waiting_tasks p s (l.wanted - 1) (stack_view (take (l.left - 1) c.args.below.now))) in
    let here = other_here c.args.below.now l.left c.index-below-left.result (omega arith) l.invariant.within c.index-below-left.is p s t l.wanted (waiting_view c.in-Some.waiting) (omega arith) (sym c.in-Some.ensures) in
    sym (l.invariant.same ∙ (here ∙ ap (λ b. b || rest) (sym c.has_other.ensures ∙ c.if-has_other.true)))

pub loop-left-preserved-in-Some : goal.loop-left-preserved-in-Some
loop-left-preserved-in-Some g c =
    let l = c.loop-left in
    let p = rules_of (program_of c.args.self.now.course.base) in
    let s = state_in (model_of c.args.self.now) in
    let t = task_view c.args.task in
    let rest = list_any (is_other t) (waiting_tasks p s (l.wanted - 1) (stack_view (take (l.left - 1) c.args.below.now))) in
    let here = other_here c.args.below.now l.left c.index-below-left.result (omega arith) l.invariant.within c.index-below-left.is p s t l.wanted (waiting_view c.in-Some.waiting) (omega arith) (sym c.in-Some.ensures) in
    record {
      within = omega arith;
      same = l.invariant.same ∙ (here ∙ ap (λ b. b || rest) (sym c.has_other.ensures ∙ c.if-has_other.false));
    }

pub loop-left-preserved : goal.loop-left-preserved
loop-left-preserved g c =
    let l = c.loop-left in
    let p = rules_of (program_of c.args.self.now.course.base) in
    let s = state_in (model_of c.args.self.now) in
    record {
      within = omega arith;
      same = l.invariant.same ∙ other_below c.args.below.now l.left c.index-below-left.result (omega arith) l.invariant.within c.index-below-left.is p s (task_view c.args.task) l.wanted (sym c.in_default.ensures);
    }

pub returns-else-wanted-gt0 : goal.returns-else-wanted-gt0
returns-else-wanted-gt0 g c =
    let l = c.loop-left in
    let none : l.wanted ≡ 0 = omega arith in
    let p = rules_of (program_of c.args.self.now.course.base) in
    let s = state_in (model_of c.args.self.now) in
    sym (l.invariant.same ∙ ap (λ (n : ℕ). list_any (is_other (task_view c.args.task)) (waiting_tasks p s n (stack_view (take l.left c.args.below.now)))) none)

pub returns-after-loop-left : goal.returns-after-loop-left
returns-after-loop-left g c =
    let l = c.loop-left in
    let none : l.left ≡ 0 = omega arith in
    let p = rules_of (program_of c.args.self.now.course.base) in
    let s = state_in (model_of c.args.self.now) in
    let other = is_other (task_view c.args.task) in
    sym (l.invariant.same
    ∙ (ap (λ (n : ℕ). list_any other (waiting_tasks p s l.wanted (stack_view (take n c.args.below.now)))) none
    ∙ ap (list_any other) (waiting_none p s l.wanted)))
