use Rattle.std.proofs.Common.{Some}
use Rattle.chr_store.specs.Rows.{row_atom}
use Rattle.chr_find.specs.Newest.{with_newest}
use Rattle.chr_find.specs.PendingIndexView.{indexed_atom}
use Rattle.chr_find.specs.TableView.{atom_at, atoms_with}
use Rattle.chr_find.proofs.GroundRows.{ground_added, ground_alike}
use Rattle.chr_find.proofs.KeyedTables.{listed_alike}
use Rattle.chr_find.proofs.TableSame.{apart_over, atoms_over, shown_over}
use Rattle.chr_find.proofs.table.Table.replace.Goals as goal

pub invariant_of-self : goal.invariant_of-self
invariant_of-self g c =
    let t = c.args.self.now in
    let n = c.note.new.self in
    let r = c.args.replaced in
    let was = c.requires.there in
    let rows = c.note.ensures.rows in
    let atoms = atoms_over t n c.requires.all r.id r.old r.new was rows in
    record {
      shown = shown_over t n c.requires.all r.id r.old r.new was rows c.note.ensures.plan;
      apart = apart_over t n c.requires.all r.id r.old r.new was rows;
      listed = listed_alike (atoms_with (atom_at t) r.id.0 (Some (row_atom r.new))) (with_newest t.newest (indexed_atom n)) c.replace.new.self atoms
          (c.replace.ensures.lists (atom_at t) t.listed was);
      ground = λ none.
          ground_alike (atoms_with (atom_at t) r.id.0 (Some (row_atom r.new))) (with_newest t.newest (indexed_atom n)) atoms
          (ground_added (atom_at t) r.id.0 (row_atom r.new) t.may_open c.is_open.result t.ground c.is_open.ensures none);
    }

pub returns-clause-atoms : goal.returns-clause-atoms
returns-clause-atoms g c = let r = c.args.replaced in atoms_over c.args.self.now c.note.new.self c.requires.all r.id r.old r.new c.requires.there c.note.ensures.rows

pub returns-clause-room : goal.returns-clause-room
returns-clause-room g c n room = (c.note.ensures.room n room.0, c.replace.ensures.room n room.1)
