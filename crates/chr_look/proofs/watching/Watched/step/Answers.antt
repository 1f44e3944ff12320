use Rattle.std.proofs.Common.{◌∙◌, ap, arith}
use Rattle.chr_semantics.specs.Changes.{Store}
use Rattle.chr_semantics.specs.Search.{atom_of}
use Rattle.chr_machine.specs.MachineView.{machine_view}
use Rattle.chr_machine.specs.Model.{state_in}
use Rattle.chr_look.specs.LogView.{log_view, sight_view}
use Rattle.chr_look.specs.Logs.{Sight, brought, sight}
use Rattle.chr_look.proofs.Watches.{falls_by_one, log_next, noted_of, rules_next, state_next}
use Rattle.chr_look.proofs.watching.Watched.step.Goals as goal

pub note-requires : goal.note-requires
note-requires g c =
    let moves = rw c.in-Moved.is at c.in_ok-step.ensures.ok in
    let before = ap (λ (s : Sight). s.height) c.sight_of-before.ensures in
    let now = ap (λ (s : Sight). s.height) c.sight_of-now.ensures in
    let fell = falls_by_one (machine_view c.args.self.now.machine) (machine_view c.step.new.self) moves in
    omega (arith, before, now, fell)

pub returns-in_ok-note-in-Moved-clause-watched : goal.returns-in_ok-note-in-Moved-clause-watched
returns-in_ok-note-in-Moved-clause-watched g c p q w =
    let m = machine_view c.args.self.now.machine in
    let n = machine_view c.step.new.self in
    let old = log_view c.args.self.now.log in
    let new = log_view c.note.new.self in
    let moves = rw c.in-Moved.is at c.in_ok-step.ensures.ok in
    let born = c.in_ok-born-in-Moved.ensures ∙ ap (atom_of (state_in n).store) (c.next-next.ensures ∙ ap (λ (s : Store). s.next_id) c.store.ensures) in
    let noted =
    noted_of c.steps.result n.steps _ (brought (state_in m) (state_in n)) (sight_view c.sight_of-before.result) (sight (state_in m)) (sight_view c.sight_of-now.result) (sight (state_in n)) old new c.steps.ensures.value born
    c.sight_of-before.ensures c.sight_of-now.ensures c.in_ok-note-in-Moved.ensures
    in
    record {
      rules_are = rules_next p q m n w.rules_are w.state_is moves;
      state_is = state_next p q m n w.rules_are w.state_is moves;
      log_is = log_next p q m n w.rules_are w.state_is moves old new w.log_is noted;
    }
