use Rattle.std.proofs.Common.{None, subst}
use Rattle.chr_machine.specs.Model.{Model}
use Rattle.chr_rules.specs.ProgramView.{names_of, rules_of}
use Rattle.chr_rules.specs.RuleView.{query_view}
use Rattle.chr_look.specs.Looking.{NotesState, list_view}
use Rattle.chr_look.specs.Watching.{machine_in}
use Rattle.chr_look.proofs.Listed.{list_first, no_searches}
use Rattle.chr_look.proofs.looking.watch_list.Goals as goal

pub returns-clause-run : goal.returns-clause-run
returns-clause-run g c = c.in_ok-go_on.ensures.run (names_of c.args.program.now) (rules_of c.args.program.now) (query_view c.args.query) c.in_ok-watched.ensures.starts

pub returns-clause-watched : goal.returns-clause-watched
returns-clause-watched g c = c.in_ok-go_on.ensures.watched (rules_of c.args.program.now) (query_view c.args.query) c.in_ok-watched.ensures.watched

pub returns-clause-list : goal.returns-clause-list
returns-clause-list g c =
    let p = rules_of c.args.program.now in
    let q = query_view c.args.query in
    let m = machine_in c.in_ok-watched.watched in
    let starts = c.in_ok-watched.ensures.starts in
    let nothing = no_searches c.note_state.new.self c.new.result c.in_ok-note_state.ensures.searches c.new.ensures.items in
    let notes = subst (λ (x : Model). NotesState x c.args.rule c.args.ids None c.note_state.new.self.could_from) c.machine.ensures c.in_ok-note_state.ensures.could in
    c.in_ok-go_on.ensures.noted p q c.in_ok-watched.ensures.watched
    (λ r is. list_first p q c.args.rule r c.args.ids is m (list_view c.note_state.new.self) starts.rules_are starts.state_is starts.steps_are nothing notes)
