use Rattle.std.proofs.Common.{◌∙◌, List, ap, length, subst, sym, ℕ}
use Rattle.chr_semantics.specs.State.{Element}
use Rattle.chr_rules.specs.ProgramView.{names_of, rules_of}
use Rattle.chr_rules.specs.RuleView.{query_view}
use Rattle.chr_machine.specs.MachineView.{machine_view}
use Rattle.chr_look.specs.LogView.{log_view}
use Rattle.chr_look.specs.Logs.{IsFirst}
use Rattle.chr_look.proofs.Watches.{first_log, stack_long, state_first}
use Rattle.chr_look.proofs.watching.Watched.start.Goals as goal

pub returns-clause-watched : goal.returns-clause-watched
returns-clause-watched g c =
    let p = rules_of c.args.program.now in
    let q = query_view c.args.query in
    let names = names_of c.args.program.now in
    let m = machine_view c.in_ok-machine.machine in
    let log = log_view c.in_ok-log.log in
    let starts = c.in_ok-machine.ensures in
    let height = sym (stack_long c.stack.result.now) ∙ ap (λ (es : List Element). length es) c.stack.ensures in
    record {
      rules_are = starts.rules_are;
      state_is = state_first p q names m starts;
      log_is = first_log p q names m log starts (subst (λ (h : ℕ). IsFirst h log) height c.in_ok-log.ensures);
    }
