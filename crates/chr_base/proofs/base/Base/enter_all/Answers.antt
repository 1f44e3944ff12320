use Rattle.std.proofs.Common.{◌≡◌, ◌+◌, ℕ, List, ap, arith, length, subst, true}
use Rattle.std.specs.Prelude.{reverse}
use Rattle.std.specs.List.{list_all}
use Rattle.std.proofs.lemmas.Bool.{and_parts}
use Rattle.chr_semantics.specs.Search.{has_number}
use Rattle.chr_find.specs.TableView.{atom_at}
use Rattle.chr_find.proofs.KeyedTables.{room_within}
use Rattle.chr_base.specs.BaseView.{base_view}
use Rattle.chr_base.specs.Model.{BaseModel}
use Rattle.chr_base.specs.Leaving.{leaving_ids}
use Rattle.chr_base.proofs.Leavings.{changes_removed, first_different, first_standing, one_more, popped_ids, standing_without}
use Rattle.chr_base.proofs.base.Base.enter_all.Goals as goal

pub enter_without-requires-clause-there : goal.enter_without-requires-clause-there
enter_without-requires-clause-there g c = (first_standing c.args.leaving.items c.pop.new.self.items c.in-Some.first c.in-Some.ensures.items (atom_at c.args.self.now.table) c.requires.there).0

pub enter_without-requires-clause-among : goal.enter_without-requires-clause-among
enter_without-requires-clause-among g c =
    let left = c.pop.new.self.items in
    let first = c.in-Some.first in
    (and_parts (has_number c.args.fired.now.ids first.id.0) (list_all (has_number c.args.fired.now.ids) (leaving_ids left))
    (subst (λ (is : List ℕ). list_all (has_number c.args.fired.now.ids) is ≡ true) (popped_ids c.args.leaving.items left first c.in-Some.ensures.items) c.requires.among)).0

pub take_out_all-requires-clause-few : goal.take_out_all-requires-clause-few
take_out_all-requires-clause-few g c =
    let old = base_view c.args.self.now in
    let less = changes_removed old.store c.in-Some.first.id.0 in
    let now = ap (λ (b : BaseModel). b.store.changes) c.in_ok-enter_without-in-Some.ensures.ok in
    let count = one_more c.args.leaving.items c.pop.new.self.items c.in-Some.first c.in-Some.ensures.items in
    omega (arith, less, now, count, c.requires.few)

pub take_out_all-requires-clause-room : goal.take_out_all-requires-clause-room
take_out_all-requires-clause-room g c =
    let count = one_more c.args.leaving.items c.pop.new.self.items c.in-Some.first c.in-Some.ensures.items in
    c.in_ok-enter_without-in-Some.ensures.room (length c.pop.new.self.items) (room_within (length c.pop.new.self.items + 1) (length c.args.leaving.items) c.args.self.now.table (omega (arith, count)) c.requires.room)

pub take_out_all-requires-clause-there : goal.take_out_all-requires-clause-there
take_out_all-requires-clause-there g c =
    let left = c.pop.new.self.items in
    let first = c.in-Some.first in
    let different = first_different c.args.leaving.items left first c.in-Some.ensures.items c.requires.different in
    standing_without (atom_at c.args.self.now.table) (atom_at c.enter_without.new.self.table) first.id.0 (reverse left) c.in_ok-enter_without-in-Some.ensures.atoms different.0
    (first_standing c.args.leaving.items left first c.in-Some.ensures.items (atom_at c.args.self.now.table) c.requires.there).1

pub take_out_all-requires-clause-different : goal.take_out_all-requires-clause-different
take_out_all-requires-clause-different g c = (first_different c.args.leaving.items c.pop.new.self.items c.in-Some.first c.in-Some.ensures.items c.requires.different).1
