-- The identities of an entry.
use Rattle.std.specs.Prelude.{List}
use Rattle.chr_store.specs.declared.entry.EntryIds.{EntryIds}
use Rattle.chr_store.specs.declared.entry.EntryIds.TheVariants.{More, One, Three, Two}
use Rattle.chr_store.specs.declared.id.Id.{Id}

abbrev pub ids_in : {A : Type 0} → EntryIds A → List Id
ids_in (One ids) = ids
ids_in (Two ids) = ids
ids_in (Three ids) = ids
ids_in (More ids) = ids.items
