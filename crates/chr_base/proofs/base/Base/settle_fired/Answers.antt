use Rattle.std.proofs.Common.{arith, ◌≡◌, ◌≢◌, ℕ, List, subst, sym, true}
use Rattle.std.specs.Prelude.{AllPairs, reverse}
use Rattle.std.specs.List.{list_all}
use Rattle.chr_semantics.specs.Search.{has_number}
use Rattle.chr_find.specs.TableView.{atom_at}
use Rattle.chr_base.proofs.Agreements.{agrees_same}
use Rattle.chr_base.proofs.Leavings.{all_among, different_drop, passes_drop, standing_same}
use Rattle.chr_base.proofs.base.Base.settle_fired.Goals as goal

pub invariant_of-self : goal.invariant_of-self
invariant_of-self g c =
    let b = c.args.self.now in
    record { agrees = agrees_same _ _ _ _ _ b.agrees (atom_at c.settle.new.self) c.settle.ensures.same; lends = b.lends; ahead = b.ahead }

pub enter_all-requires-clause-few : goal.enter_all-requires-clause-few
enter_all-requires-clause-few g c = omega (arith, c.in_ok-leaving.ensures.few, c.requires.changes)

pub enter_all-requires-clause-there : goal.enter_all-requires-clause-there
enter_all-requires-clause-there g c =
    standing_same (atom_at c.settle.new.self) (atom_at c.room.new.self) (reverse c.in_ok-leaving.leaving.items) c.room.ensures.same c.in_ok-leaving.ensures.there

pub enter_all-requires-clause-different : goal.enter_all-requires-clause-different
enter_all-requires-clause-different g c =
    subst (AllPairs (λ i j. i ≢ j)) (sym c.in_ok-leaving.ensures.ids) (different_drop c.args.kept c.args.fired.now.ids c.requires.can.different)

pub enter_all-requires-clause-among : goal.enter_all-requires-clause-among
enter_all-requires-clause-among g c =
    let ids = c.args.fired.now.ids in
    subst (λ (is : List ℕ). list_all (has_number ids) is ≡ true) (sym c.in_ok-leaving.ensures.ids) (passes_drop (has_number ids) c.args.kept ids (all_among ids))
