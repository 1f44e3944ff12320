use Rattle.std.proofs.Common.{ap, option_map, subst, sym, ◌∙◌}
use Rattle.chr_semantics.specs.Program.{Program}
use Rattle.chr_semantics.specs.Snapshot.{found_in}
use Rattle.chr_find.specs.SnapshotView.{IsSnapshot, task_view}
use Rattle.chr_shelf.proofs.solving.solve.Goals as goal

pub invariant_of-result : goal.invariant_of-result
invariant_of-result g c = record {
  of_run = λ q is.
      let here = subst (λ s. IsSnapshot s q) (sym c.see-snapshot.ensures) is in
      record {
        task_is = c.task_at.ensures q here ∙ ap (option_map task_view) c.in-Some.is;
        ids_are = (c.in-Ok.ensures q here).ids_are ∙ ap (λ (p : Program). found_in p q (task_view c.in-Some.task)) c.requires.rules;
      };
}
