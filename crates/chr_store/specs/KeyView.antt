-- Keys, as the definitions have them.
use Rattle.std.specs.Prelude.{Option, option_map}
use Rattle.chr_semantics.specs.Keys as semantics
use Rattle.chr_semantics.specs.Keys.{number, name}
use Rattle.chr_store.specs.declared.key.Key.{Key}
use Rattle.chr_store.specs.declared.key.Key.TheVariants.{Int, Name}

abbrev pub key_view : Key → semantics.Key
key_view (Int z) = number z
key_view (Name f) = name f.0

abbrev pub keys_view : Option Key → Option semantics.Key
keys_view k = option_map key_view k
