use Rattle.std.proofs.Common.{◌<◌, ◌≤◌, ◌+◌, length, arith}
use Rattle.chr_store.proofs.SlotRows.{atom_of-below, atom_of-past, without-below, without-past}
use Rattle.chr_store.proofs.slots.Slots.slot_of.Goals as goal

pub returns-then-id-eq0-clause-absent : goal.returns-then-id-eq0-clause-absent
returns-then-id-eq0-clause-absent g c =
    let below : c.args.id.0 < 1 = omega arith in
    record { no_atom = atom_of-below 1 c.args.id.0 c.args.self.now.items.items below; kept = without-below 1 c.args.id.0 c.args.self.now.items.items below }

pub returns-else-slot-len-clause-absent : goal.returns-else-slot-len-clause-absent
returns-else-slot-len-clause-absent g c =
    let past : 1 + length c.args.self.now.items.items ≤ c.args.id.0 = omega (arith, c.args.self.now.items.ok.0) in
    record { no_atom = atom_of-past 1 c.args.id.0 c.args.self.now.items.items past; kept = without-past 1 c.args.id.0 c.args.self.now.items.items past }
