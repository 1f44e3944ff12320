use Rattle.std.proofs.Common.{◌∙◌, ◌==◌, ◌+◌, Option, Some, ap, cond, subst, sym}
use Rattle.chr_semantics.specs.Program.{Atom}
use Rattle.chr_store.specs.Rows.{row_atom}
use Rattle.chr_find.specs.LentKeysView.{HasRoom}
use Rattle.chr_find.specs.PendingIndexView.{indexed_atom}
use Rattle.chr_find.specs.Newest.{with_newest}
use Rattle.chr_find.specs.TableView.{atoms_with}
use Rattle.chr_find.specs.declared.constraint.Constraint.{Constraint}
use Rattle.chr_find.proofs.GroundRows.{ground_added, ground_alike}
use Rattle.chr_find.proofs.KeyedTables.{listed_alike}
use Rattle.chr_find.proofs.Newest.{apart_added, newest_added}
use Rattle.chr_find.proofs.table.Table.add.Goals as goal

pub enter-requires : goal.enter-requires
enter-requires g c = subst (HasRoom 1) (sym c.enter_newest.ensures.keyed) c.requires.room.1

pub invariant_of-self : goal.invariant_of-self
invariant_of-self g c =
    let t = c.enter_newest.new.self in
    let s : Constraint g.row.A.Denot = record { id = c.args.id; row = c.args.row } in
    let f = with_newest t.newest (indexed_atom t.index) in
    let absent = c.enter_newest.ensures.same c.args.id.0 ∙ c.requires.absent in
    let added = newest_added t.newest s (indexed_atom t.index) c.enter_newest.ensures.newest in
    record {
      shown = t.shown;
      apart = apart_added t.newest s (indexed_atom t.index) c.enter_newest.ensures.newest absent;
      listed = listed_alike (atoms_with f c.args.id.0 (Some (row_atom c.args.row))) (with_newest (Some s) (indexed_atom t.index)) c.enter.new.self added (c.enter.ensures.lists f t.listed absent);
      ground = λ none.
          ground_alike (atoms_with f c.args.id.0 (Some (row_atom c.args.row))) (with_newest (Some s) (indexed_atom t.index)) added
          (ground_added f c.args.id.0 (row_atom c.args.row) t.may_open c.is_open.result t.ground c.is_open.ensures none);
    }

pub returns-clause-atoms : goal.returns-clause-atoms
returns-clause-atoms g c i =
    let t = c.enter_newest.new.self in
    newest_added t.newest (record { id = c.args.id; row = c.args.row }) (indexed_atom t.index) c.enter_newest.ensures.newest i
    ∙ ap (λ (o : Option Atom). cond (i == c.args.id.0) (Some (row_atom c.args.row)) o) (c.enter_newest.ensures.same i)

pub returns-clause-room : goal.returns-clause-room
returns-clause-room g c n room = (c.enter_newest.ensures.room n room.0, c.enter.ensures.room n (subst (HasRoom (n + 1)) (sym c.enter_newest.ensures.keyed) room.1))
