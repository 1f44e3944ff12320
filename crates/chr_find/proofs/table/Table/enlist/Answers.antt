use Rattle.std.proofs.Common.{◌∙◌}
use Rattle.chr_find.proofs.Newest.{none_for}
use Rattle.chr_find.proofs.TableSame.{apart_kept, atoms_kept, ground_kept, listed_kept, shown_kept}
use Rattle.chr_find.proofs.table.Table.enlist.Goals as goal

pub invariant_of-self : goal.invariant_of-self
invariant_of-self g c =
    let t = c.args.self.now in
    let n = c.room.new.self in
    let rows = c.room.ensures.rows in
    record {
      shown = shown_kept t n rows c.room.ensures.plan;
      apart = apart_kept t n rows;
      listed = listed_kept t n t.newest (atoms_kept t n rows) t.keyed t.listed;
      ground = ground_kept t n t.newest (atoms_kept t n rows);
    }

pub returns-in_err-room-clause-same : goal.returns-in_err-room-clause-same
returns-in_err-room-clause-same g c = atoms_kept c.args.self.now c.room.new.self c.room.ensures.rows

pub returns-in_ok-room-clause-same : goal.returns-in_ok-room-clause-same
returns-in_ok-room-clause-same g c i = c.enter_newest.ensures.same i ∙ atoms_kept c.args.self.now c.room.new.self c.room.ensures.rows i

pub returns-in_ok-room-clause-ok : goal.returns-in_ok-room-clause-ok
returns-in_ok-room-clause-ok g c = none_for c.enter_newest.new.self c.enter_newest.ensures.newest
