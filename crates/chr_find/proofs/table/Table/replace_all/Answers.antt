use Rattle.std.proofs.Common.{◌+◌, ◌≤◌, arith, length}
use Rattle.chr_find.specs.TableView.{HasRoom, atom_at}
use Rattle.std.specs.Prelude.{vec_len}
use Rattle.chr_find.proofs.KeyedTables.{room_within}
use Rattle.chr_find.proofs.Rebinds.{last_there, next_on, none_left, one_less}
use Rattle.chr_find.proofs.table.Table.replace_all.Goals as goal

pub replace-requires-clause-there : goal.replace-requires-clause-there
replace-requires-clause-there g c = last_there (atom_at c.args.self.now) (atom_at c.loop-replaced.self) c.loop-replaced.left.items c.args.left.items c.pop.new.self.items c.in-Some.replaced c.loop-replaced.invariant.0 c.in-Some.ensures.items

pub loop-replaced-preserved : goal.loop-replaced-preserved
loop-replaced-preserved g c =
    let rs = c.pop.new.self.items in
    let less = one_less c.loop-replaced.left.items rs c.in-Some.replaced c.in-Some.ensures.items in (
      next_on (atom_at c.args.self.now) (atom_at c.loop-replaced.self) c.loop-replaced.left.items c.args.left.items rs c.in-Some.replaced c.loop-replaced.invariant.0 c.in-Some.ensures.items (atom_at c.replace.new.self) c.replace.ensures.atoms,
      (
        (λ n h.
            let room : HasRoom (n + length rs + 1) c.loop-replaced.self = room_within (n + length rs + 1) (n + length c.loop-replaced.left.items) c.loop-replaced.self (omega (arith, less)) (c.loop-replaced.invariant.1.0 n h) in
            c.replace.ensures.room (n + length rs) room),
        c.replace.ensures.all,
      ),
    )

pub returns : goal.returns
returns g c = none_left (atom_at c.args.self.now) (atom_at c.loop-replaced.self) c.loop-replaced.left.items c.args.left.items c.loop-replaced.invariant.0 (omega (arith, c.in_default.ensures.cases.0))

pub replace-requires-clause-room : goal.replace-requires-clause-room
replace-requires-clause-room g c =
    let less = one_less c.loop-replaced.left.items c.pop.new.self.items c.in-Some.replaced c.in-Some.ensures.items in
    let counted : 0 + length c.args.left.items ≤ vec_len c.args.left = omega (arith, c.args.left.ok.0) in
    let all : HasRoom (0 + length c.args.left.items) c.args.self.now = room_within (0 + length c.args.left.items) (vec_len c.args.left) c.args.self.now counted c.requires.room in
    room_within 1 (0 + length c.loop-replaced.left.items) c.loop-replaced.self (omega (arith, less)) (c.loop-replaced.invariant.1.0 0 all)
