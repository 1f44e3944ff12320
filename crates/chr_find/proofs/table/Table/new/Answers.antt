use Rattle.std.proofs.Common.{◌≡◌, ◌∙◌, None, refl}
use Rattle.chr_find.specs.PendingIndexView.{indexed_atom, row_at}
use Rattle.chr_find.specs.IndexKeys.{IndexKey}
use Rattle.chr_find.proofs.GroundRows.{ground_nowhere}
use Rattle.chr_find.proofs.Newest.{apart_none}
use Rattle.chr_find.proofs.TableRows.{atoms_none, shown_none}
use Rattle.chr_find.proofs.table.Table.new.Goals as goal

pub invariant_of-result : goal.invariant_of-result
invariant_of-result g c =
    let n = c.new-2.result in
    let rows : (q : IndexKey) → row_at n q ≡ None = λ q. c.new-2.ensures.rows q ∙ c.new.ensures q in
    record { shown = shown_none n rows; apart = apart_none None (indexed_atom n) refl; listed = c.off.ensures.lists (indexed_atom n); ground = λ none. ground_nowhere (indexed_atom n) (atoms_none n rows) }

pub returns-clause-atoms : goal.returns-clause-atoms
returns-clause-atoms g c = atoms_none c.new-2.result (λ q. c.new-2.ensures.rows q ∙ c.new.ensures q)
