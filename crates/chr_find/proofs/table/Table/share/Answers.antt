use Rattle.std.proofs.Common.{◌≡◌, ◌∙◌, None, refl, sym, ℕ}
use Rattle.std.proofs.lemmas.Option.{none-some}
use Rattle.chr_find.specs.PendingIndexView.{indexed_atom}
use Rattle.chr_find.specs.TableView.{atom_at}
use Rattle.chr_find.proofs.Newest.{apart_none, for_all, newest_none}
use Rattle.chr_find.proofs.TableRows.{atoms_same, rows_shared, shown_same}
use Rattle.chr_find.proofs.TableSame.{ground_kept, listed_kept}
use Rattle.chr_find.proofs.table.Table.share.Goals as goal

pub invariant_of-result : goal.invariant_of-result
invariant_of-result g c =
    let t = c.args.self.now in
    let n = c.new.result in
    let same = rows_shared n t.index c.in_ok-rows.rows c.new.ensures.rows c.in_ok-rows.ensures c.requires.settled.index in
    let atoms : (i : ℕ) → indexed_atom n i ≡ atom_at t i = λ i. atoms_same n t.index same i ∙ sym (newest_none t.newest (indexed_atom t.index) i (for_all t c.requires.all)) in
    record {
      shown = shown_same n t.index same (c.new.ensures.plan ∙ c.in_ok-plan.ensures) t.shown;
      apart = apart_none None (indexed_atom n) refl;
      listed = listed_kept t n None atoms c.in_ok-share.field-0 (c.in_ok-share.ensures.lists (atom_at t) t.listed);
      ground = ground_kept t n None atoms;
    }

pub returns-clause-atoms : goal.returns-clause-atoms
returns-clause-atoms g c i =
    let t = c.args.self.now in
    atoms_same c.new.result t.index (rows_shared c.new.result t.index c.in_ok-rows.rows c.new.ensures.rows c.in_ok-rows.ensures c.requires.settled.index) i
    ∙ sym (newest_none t.newest (indexed_atom t.index) i (for_all t c.requires.all))

pub returns-clause-whole : goal.returns-clause-whole
returns-clause-whole g c =
    record { settled = record { index = c.new.ensures.settled; keyed = c.in_ok-share.ensures.settled }; all = λ own s h. absurd (none-some s h) }
