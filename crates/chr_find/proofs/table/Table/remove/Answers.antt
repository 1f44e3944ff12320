use Rattle.std.proofs.Common.{None, arith, refl}
use Rattle.chr_find.specs.Newest.{IsNot, with_newest}
use Rattle.chr_find.specs.PendingIndexView.{indexed_atom}
use Rattle.chr_find.specs.TableView.{atom_at, atoms_with}
use Rattle.chr_find.proofs.GroundRows.{ground_alike, ground_without}
use Rattle.chr_find.proofs.KeyedTables.{listed_alike}
use Rattle.chr_find.proofs.Newest.{apart_none}
use Rattle.chr_find.proofs.TableSame.{apart_out, atoms_gone, atoms_out, shown_out}
use Rattle.chr_find.proofs.table.Table.remove.Goals as goal

pub invariant_of-self : goal.invariant_of-self
invariant_of-self g c =
    let t = c.args.self.now in
    let atoms = atoms_gone t c.args.id.0 (c.is_newest.ensures.yes c.if-is_newest.true) in
    record {
      shown = t.shown;
      apart = apart_none None (indexed_atom t.index) refl;
      listed = listed_alike (atoms_with (atom_at t) c.args.id.0 None) (indexed_atom t.index) c.leave.new.self atoms
          (c.leave.ensures.lists (atom_at t) t.listed c.requires.there);
      ground = λ none. ground_alike (atoms_with (atom_at t) c.args.id.0 None) (indexed_atom t.index) atoms (ground_without (atom_at t) c.args.id.0 (t.ground none));
    }

pub invariant_of-self-else-is_newest : goal.invariant_of-self-else-is_newest
invariant_of-self-else-is_newest g c =
    let t = c.args.self.now in
    let n = c.note.new.self in
    let other : IsNot t.newest c.args.id.0 = c.is_newest.ensures.no c.if-is_newest.false in
    let rows = c.note.ensures.rows in
    let atoms = atoms_out t n c.args.id c.args.row other c.requires.there rows in
    record {
      shown = shown_out t n c.args.id c.args.row other c.requires.there rows c.note.ensures.plan;
      apart = apart_out t n c.args.id c.args.row other c.requires.there rows;
      listed = listed_alike (atoms_with (atom_at t) c.args.id.0 None) (with_newest t.newest (indexed_atom n)) c.leave.new.self atoms
          (c.leave.ensures.lists (atom_at t) t.listed c.requires.there);
      ground = λ none. ground_alike (atoms_with (atom_at t) c.args.id.0 None) (with_newest t.newest (indexed_atom n)) atoms (ground_without (atom_at t) c.args.id.0 (t.ground none));
    }

pub returns-then-is_newest-clause-atoms : goal.returns-then-is_newest-clause-atoms
returns-then-is_newest-clause-atoms g c = atoms_gone c.args.self.now c.args.id.0 (c.is_newest.ensures.yes c.if-is_newest.true)

pub returns-then-is_newest-clause-room : goal.returns-then-is_newest-clause-room
returns-then-is_newest-clause-room g c n room = (omega (arith, room.0), c.leave.ensures.room n room.1)

pub returns-else-is_newest-clause-atoms : goal.returns-else-is_newest-clause-atoms
returns-else-is_newest-clause-atoms g c = atoms_out c.args.self.now c.note.new.self c.args.id c.args.row (c.is_newest.ensures.no c.if-is_newest.false) c.requires.there c.note.ensures.rows

pub returns-else-is_newest-clause-room : goal.returns-else-is_newest-clause-room
returns-else-is_newest-clause-room g c n room = (c.note.ensures.room n room.0, c.leave.ensures.room n room.1)
