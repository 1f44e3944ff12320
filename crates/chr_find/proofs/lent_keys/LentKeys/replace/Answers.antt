use Rattle.std.proofs.Common.{Some, refl}
use Rattle.chr_keys.specs.PendingKeysView as noted
use Rattle.chr_find.specs.declared.lent_keys.LentKeys.{LentKeys}
use Rattle.chr_find.proofs.KeyedTables.{of_some}
use Rattle.chr_find.proofs.lent_keys.LentKeys.replace.Goals as goal

pub returns-in-Some-clause-room : goal.returns-in-Some-clause-room
returns-in-Some-clause-room g c = λ n room.
    let new : LentKeys g.row.A.Denot = record { keys = Some c.note.new.self } in
    of_some (noted.HasRoom n) new c.note.new.self refl (c.note.ensures.room n (room c.in-Some.keys c.in-Some.is))
