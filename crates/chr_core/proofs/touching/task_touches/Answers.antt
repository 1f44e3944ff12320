use Rattle.std.proofs.Common.{Some, ap, sym, ◌∙◌, ◌≡◌}
use Rattle.std.specs.Prelude.{option_map}
use Rattle.chr_semantics.specs.Program.{Atom, occurrence}
use Rattle.chr_semantics.specs.Touch.{footprint_of}
use Rattle.chr_term.specs.declared.term.Sym.{Sym}
use Rattle.chr_find.specs.SnapshotView.{task_view}
use Rattle.chr_laws.specs.Sums.{sum_of, task_atom}
use Rattle.chr_machine.specs.MachineView.{machine_view}
use Rattle.chr_machine.specs.Model.{state_in}
use Rattle.chr_core.specs.Marks.{mark_stamp}
use Rattle.chr_core.proofs.Found.{marks_by}
use Rattle.chr_core.proofs.touching.task_touches.Goals as goal

pub returns-in-Some : goal.returns-in-Some
returns-in-Some g c =
    let m = machine_view c.args.machine.now in
    let t = task_view c.args.task in
    let its : Some c.in-Some.sym.0 ≡ option_map (λ (a : Atom). a.sym) (task_atom (state_in m) t) = sym (ap (option_map (λ (f : Sym). f.0)) c.in-Some.is) ∙ c.symbol_of.ensures in
    c.touches.ensures
    ∙ (λ k. sum_of (mark_stamp (c.store-store.ensures k) (c.history-history.ensures k)) (footprint_of (occurrence (c.program-program.ensures.rules k) c.in-Some.sym.0 t.1)))
    ∙ ap (sum_of (mark_stamp m.base.store m.base.entries)) (marks_by m.rules t.1 c.in-Some.sym.0 (task_atom (state_in m) t) its)
