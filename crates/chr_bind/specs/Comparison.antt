-- Comparisons, as the definitions have them.
use Rattle.chr_semantics.specs.Program as semantics
use Rattle.chr_semantics.specs.Program.{less, greater, at_most, at_least, equals, differs}
use Rattle.chr_bind.specs.declared.comparison.Comparison.{Comparison}
use Rattle.chr_bind.specs.declared.comparison.Comparison.TheVariants.{Less, Greater, AtMost, AtLeast, Equals, Differs}

abbrev pub comparison_view : Comparison → semantics.Comparison
comparison_view Less = less
comparison_view Greater = greater
comparison_view AtMost = at_most
comparison_view AtLeast = at_least
comparison_view Equals = equals
comparison_view Differs = differs
