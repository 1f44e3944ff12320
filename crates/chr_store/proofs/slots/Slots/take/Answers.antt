use Rattle.std.proofs.Common.{◌∙◌, ap, sym, arith}
use Rattle.std.specs.Prelude.{option_map}
use Rattle.chr_store.specs.Rows.{row_atom}
use Rattle.chr_store.proofs.SlotRows.{atom_of-slot, rows_from-emptied}
use Rattle.chr_store.proofs.slots.Slots.take.Goals as goal

pub returns-in-Some-clause-rows : goal.returns-in-Some-clause-rows
returns-in-Some-clause-rows g c =
    rw c.take.ensures.after (rows_from-emptied 1 c.in-Some.slot c.args.id.0 c.args.self.now.items.items (omega (arith, c.in-Some.ensures.given.0)) (omega (arith, c.in-Some.ensures.given.1)))

pub returns-in-Some-clause-row : goal.returns-in-Some-clause-row
returns-in-Some-clause-row g c =
    ap (option_map row_atom) (c.take.ensures.value ∙ c.index_mut.ensures.value)
    ∙ sym (atom_of-slot 1 c.in-Some.slot c.args.id.0 c.args.self.now.items.items c.index_mut.result.now (omega (arith, c.in-Some.ensures.given.0)) (omega (arith, c.in-Some.ensures.given.1)))
