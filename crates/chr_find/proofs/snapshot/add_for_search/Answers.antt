use Rattle.std.proofs.Common.{◌∙◌, ◌==◌, Option, Some, ap, cond}
use Rattle.chr_map.proofs.Clauses.{ok_leads}
use Rattle.chr_semantics.specs.Program.{Atom}
use Rattle.chr_store.specs.Rows.{row_atom}
use Rattle.chr_store.specs.declared.row.Row.{Row}
use Rattle.chr_find.specs.TableView.{atom_at}
use Rattle.chr_find.proofs.snapshot.add_for_search.Goals as goal

pub add-requires-clause-absent : goal.add-requires-clause-absent
add-requires-clause-absent g c = c.in_ok-room.ensures.same c.args.id.0 ∙ c.requires

pub returns-clause-atoms : goal.returns-clause-atoms
returns-clause-atoms g c =
    let i = c.args.id.0 in
    ok_leads _ _ c.settle_for.result c.settle_for.ensures.settled
    (λ settled k. c.settle_for.ensures.same k
    ∙ (c.add.ensures.atoms k
    ∙ (ap (λ (r : Row g.row.A.Denot). cond (k == i) (Some (row_atom r)) (atom_at c.room.new.self k)) c.in_ok-share.ensures
    ∙ ap (λ (o : Option Atom). cond (k == i) (Some (row_atom c.args.row.now)) o) (c.in_ok-room.ensures.same k))))
