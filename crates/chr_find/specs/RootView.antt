-- Roots, as the definitions have them.
use Rattle.std.specs.Prelude.{Option, option_map}
use Rattle.chr_semantics.specs.Keys as semantics
use Rattle.chr_semantics.specs.Keys.{key, name, number, unbound}
use Rattle.chr_find.specs.declared.root.Root.{Root}
use Rattle.chr_find.specs.declared.root.Root.TheVariants.{Int, Name, Unbound}

abbrev pub root_view : Root → semantics.Root
root_view (Int z) = key (number z)
root_view (Name f) = key (name f.0)
root_view (Unbound x) = unbound x

abbrev pub roots_view : Option Root → Option semantics.Root
roots_view k = option_map root_view k
