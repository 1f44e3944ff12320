use Rattle.chr_find.specs.TableView.{atom_at}
use Rattle.chr_find.proofs.TableSame.{apart_kept, atoms_kept, ground_kept, listed_kept, shown_kept}
use Rattle.chr_find.proofs.table.Table.room.Goals as goal

pub invariant_of-self : goal.invariant_of-self
invariant_of-self g c = let t = c.args.self.now in record { shown = t.shown; apart = t.apart; listed = c.room.ensures.lists (atom_at t) t.listed; ground = t.ground }

pub invariant_of-self-2 : goal.invariant_of-self-2
invariant_of-self-2 g c =
    let t = c.args.self.now in
    let n = c.room-2.new.self in
    let rows = c.room-2.ensures.rows in
    record {
      shown = shown_kept t n rows c.room-2.ensures.plan;
      apart = apart_kept t n rows;
      listed = listed_kept t n t.newest (atoms_kept t n rows) c.room.new.self (c.room.ensures.lists (atom_at t) t.listed);
      ground = ground_kept t n t.newest (atoms_kept t n rows);
    }

pub returns-clause-same : goal.returns-clause-same
returns-clause-same g c = atoms_kept c.args.self.now c.room-2.new.self c.room-2.ensures.rows
