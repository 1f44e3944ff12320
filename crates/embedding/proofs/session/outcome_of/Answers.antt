use Rattle.std.proofs.Common.{◌∙◌}
use Rattle.chr_rules.specs.ProgramView.{names_of, rules_of}
use Rattle.chr_rules.specs.RuleView.{query_view}
use Rattle.chr_machine.specs.MachineView.{machine_view}
use Rattle.embedding.proofs.Ends.{run_is}
use Rattle.embedding.proofs.session.outcome_of.Goals as goal

-- src/session.rt:56:1
pub returns : goal.returns
returns g c =
    c.finish.ensures.outcome
    ∙ run_is (names_of c.args.program.now) (rules_of c.args.program.now) (query_view c.args.query) c.args.n (machine_view c.in_ok-machine.machine) (machine_view c.run_alone.new.self) c.in_ok-machine.ensures c.run_alone.ensures.further c.in_ok-run_alone.field-0 c.in_ok-run_alone.ensures.stops c.requires.few
