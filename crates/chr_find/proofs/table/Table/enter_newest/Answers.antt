use Rattle.std.proofs.Common.{◌≡◌, ◌∙◌, Some, sym}
use Rattle.chr_find.specs.PendingIndexView.{indexed_atom}
use Rattle.chr_find.proofs.Newest.{apart_none}
use Rattle.chr_find.proofs.TableSame.{atoms_enlisted, ground_kept, listed_kept, shown_enlisted}
use Rattle.chr_find.proofs.table.Table.enter_newest.Goals as goal

pub invariant_of-self : goal.invariant_of-self
invariant_of-self g c =
    let t = c.args.self.now in
    let n = c.note.new.self in
    let s = c.in-Some.field-0 in
    let is : t.newest ≡ Some s = sym c.replace.ensures.value ∙ c.in-Some.is in
    let atoms = atoms_enlisted t n s is c.note.ensures.rows c.replace.new.dest c.replace.ensures.after in
    record {
      shown = shown_enlisted t n s is c.note.ensures.rows c.note.ensures.plan;
      apart = apart_none c.replace.new.dest (indexed_atom n) c.replace.ensures.after;
      listed = listed_kept t n c.replace.new.dest atoms t.keyed t.listed;
      ground = ground_kept t n c.replace.new.dest atoms;
    }

pub returns-in-Some-clause-same : goal.returns-in-Some-clause-same
returns-in-Some-clause-same g c =
    let t = c.args.self.now in
    let s = c.in-Some.field-0 in
    let is : t.newest ≡ Some s = sym c.replace.ensures.value ∙ c.in-Some.is in
    atoms_enlisted t c.note.new.self s is c.note.ensures.rows c.replace.new.dest c.replace.ensures.after
