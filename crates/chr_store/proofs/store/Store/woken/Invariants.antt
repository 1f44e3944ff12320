use Rattle.std.proofs.Common.{◌≡◌, take}
use Rattle.std.specs.Prelude.{filter}
use Rattle.chr_semantics.specs.Search.{atom_of}
use Rattle.chr_store.specs.Numbers.{numbers}
use Rattle.chr_store.specs.SlotsView.{rows_in}
use Rattle.chr_store.specs.Waking.{wakes_atom}
use Rattle.chr_store.proofs.store.Store.woken.Given as goal

-- those of the identities so far that wake
abbrev pub invariant-loop-id : goal.invariant-loop-id
invariant-loop-id g l = numbers l.ids.items ≡ filter (λ i. wakes_atom l.bindings.subst (atom_of (rows_in l.self.slots) i)) (numbers (take l.id-index l.id-items))
