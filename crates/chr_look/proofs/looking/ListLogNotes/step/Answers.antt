use Rattle.std.proofs.Common.{◌∙◌, Option, option_map, subst, ℕ}
use Rattle.chr_machine.specs.Model.{Model}
use Rattle.chr_look.specs.Looking.{IsSearch, NotesState, list_view, search_view}
use Rattle.chr_look.specs.Watching.{machine_in}
use Rattle.chr_look.proofs.Listed.{list_next, same_searches}
use Rattle.chr_look.proofs.looking.ListLogNotes.step.Goals as goal

pub returns-in_ok-note_state-in-Moved-clause-noted : goal.returns-in_ok-note_state-in-Moved-clause-noted
returns-in_ok-note_state-in-Moved-clause-noted g c p q w log r is =
    let m = machine_in c.args.watched.now in
    let n = machine_in c.step.new.self in
    let moves = rw c.in-Moved.is at c.in_ok-step.ensures.steps in
    let later = c.in_ok-step.ensures.watched p q w in
    let found = option_map search_view c.in_ok-search.search in
    let search = subst (λ (x : Model). IsSearch x c.args.listed.now.rule c.args.listed.now.ids found) c.machine.ensures c.in_ok-search.ensures in
    let more = same_searches c.note_state.new.self c.note_search.new.self c.in_ok-note_state-in-Moved.ensures.searches ∙ c.in_ok-note_search-in-Moved.ensures.searches in
    let by_machine = subst (λ (x : Model). NotesState x c.args.listed.now.rule c.args.listed.now.ids c.note_search.new.self.could_from c.note_state.new.self.could_from) c.machine-in-Moved.ensures c.in_ok-note_state-in-Moved.ensures.could in
    let notes = subst (λ (o : Option ℕ). NotesState n c.args.listed.now.rule c.args.listed.now.ids o c.note_state.new.self.could_from) c.in_ok-note_search-in-Moved.ensures.could by_machine in
    list_next p q c.args.listed.now.rule r c.args.listed.now.ids is m n (list_view c.args.self.now) (list_view c.note_state.new.self) found w.rules_are w.state_is later.rules_are later.state_is moves.steps_are search more notes (log r is)
