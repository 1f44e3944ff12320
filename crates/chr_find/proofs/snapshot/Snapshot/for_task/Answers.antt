use Rattle.std.proofs.Common.{◌∙◌, ◌++◌, ◌∷◌, List, [], Option, ap, arith, refl, subst, sym}
use Rattle.std.specs.Prelude.{option_and_then}
use Rattle.chr_rules.specs.ProgramView.{rules_of}
use Rattle.chr_semantics.specs.Match as semantics
use Rattle.chr_semantics.specs.Program.{Atom, Occurrence, occurrence}
use Rattle.chr_semantics.specs.Search.{atom_of}
use Rattle.chr_semantics.specs.Snapshot.{occurrence_of}
use Rattle.chr_find.specs.ScopeView.{IsScope}
use Rattle.chr_find.specs.SnapshotView.{tasks_view}
use Rattle.chr_find.specs.declared.snapshot.Task.{Task}
use Rattle.chr_find.proofs.TakenSnapshots.{entries_of_scope, rows_of_scope, taken_firings, taken_free, taken_is}
use Rattle.chr_find.proofs.snapshot.Snapshot.for_task.Goals as goal

pub invariant_of-result : goal.invariant_of-result
invariant_of-result g c =
    let t = c.in_ok-table.ensures.table in
    record {
      whole = t.whole;
      keyed = t.keyed;
      free = λ i le. taken_free c.args.store.now c.args.bindings.now.subst c.args.history.now c.scope_of-scope.result c.in_ok-table.table t i (omega (arith, c.next.ensures, le));
    }

pub returns : goal.returns
returns g c = λ s of.
    let st = c.args.store.now in
    let m = c.args.bindings.now.subst in
    let h = c.args.history.now in
    let p = rules_of c.args.program.now in
    let o : Option Occurrence = occurrence_of p s (c.args.task.goal.0, c.args.task.occurrence) in
    let scope : IsScope o c.scope_of-scope.result =
    subst (λ (rows : List semantics.Row). IsScope (option_and_then (λ (a : Atom). occurrence p a.sym c.args.task.occurrence) (atom_of rows c.args.task.goal.0)) c.scope_of-scope.result) (sym of.store) c.scope_of-scope.ensures in
    let t = c.in_ok-table.table in
    let entries = entries_of_scope st m h s of o c.scope_of-scope.result scope in
    record {
      shown = taken_is st m h c.scope_of-scope.result t c.in_ok-table.ensures.table c.in_ok-table.firings c.in_ok-table.ensures.firings c.next.result.0 _ _ _ (rows_of_scope st m h s of o c.scope_of-scope.result scope) entries (of.next ∙ sym c.next.ensures)
          (sym (ap tasks_view (c.in_ok-push.ensures.items ∙ ap (λ (l : List Task). l ++ c.args.task ∷ []) c.new-tasks.ensures.items))) refl;
      firings = taken_firings st m h c.scope_of-scope.result t c.in_ok-table.ensures.table c.in_ok-table.firings c.in_ok-table.ensures.firings _ entries;
    }
