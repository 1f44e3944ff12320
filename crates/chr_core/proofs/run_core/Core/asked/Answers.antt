use Rattle.std.proofs.Common.{Some, ap, sym, ◌∙◌}
use Rattle.chr_semantics.specs.Changes.{Store}
use Rattle.chr_semantics.specs.Footprint.{marks_added}
use Rattle.chr_semantics.specs.Program.{occurrence}
use Rattle.chr_semantics.specs.Search.{atom_of}
use Rattle.chr_semantics.specs.Touch.{footprint_of}
use Rattle.chr_semantics.specs.Tree.{Trees}
use Rattle.chr_term.specs.TermView.{atom_over}
use Rattle.chr_find.specs.SnapshotView.{task_view}
use Rattle.chr_laws.specs.Sums.{sum_of}
use Rattle.chr_core.specs.Marks.{mark_stamp}
use Rattle.chr_core.proofs.run_core.Core.asked.Goals as goal

pub returns-clause-some : goal.returns-clause-some
returns-clause-some g c =
    let f = c.in_ok-row.row.now.sym.0 in
    let j = (task_view c.args.task).1 in
    record {
      living = ap (λ (s : Store). atom_of s.rows (task_view c.args.task).0) (sym c.store.ensures) ∙ sym (rw c.in_ok-row.was at c.row.ensures) ∙ ap (λ (ts : Trees). Some (atom_over c.in_ok-row.row.now.sym ts)) (sym c.as_slice.ensures.value);
      touches_are = c.touches.ensures ∙ (λ k. sum_of (mark_stamp (c.store-store.ensures k) (c.history-history.ensures k)) (footprint_of (occurrence (c.program-program.ensures.rules k) f j)));
      own_are = c.own_touches.ensures ∙ (λ k. sum_of (marks_added f) (footprint_of (occurrence (c.program-program.ensures.rules k) f j)));
    }
