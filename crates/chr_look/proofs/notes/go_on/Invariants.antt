use Rattle.std.proofs.Common.{◌-◌, ◌≤◌}
use Rattle.chr_semantics.specs.Program.{Program, Query}
use Rattle.chr_machine.specs.MachineView.{Further}
use Rattle.chr_look.specs.Watching.{IsWatched, machine_in}
use Rattle.chr_look.proofs.notes.go_on.Given as goal

abbrev pub invariant-loop-made : goal.invariant-loop-made
invariant-loop-made g l =
    let are_of = g.N.Notes.are_of in
    record {
      within : l.made ≤ l.n;
      further : Further l.made (machine_in l.fn.watched) (machine_in l.watched);
      has : g.N.Notes.has (machine_in l.watched).rules l.subject;
      watched : (p : Program) (q : Query) → IsWatched p q l.fn.watched → IsWatched p q l.watched;
      noted : (p : Program) (q : Query) → IsWatched p q l.fn.watched → are_of l.subject l.fn.notes p q (machine_in l.fn.watched).steps → are_of l.subject l.notes p q (machine_in l.watched).steps;
    }

abbrev pub decreases-loop-made : goal.decreases-loop-made
decreases-loop-made g l = l.n - l.made
