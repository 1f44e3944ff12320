use Rattle.std.proofs.Common.{◌≡◌, ◌++◌, drop, flat_map}
use Rattle.chr_semantics.specs.Suspicion.{names_in_item}
use Rattle.chr_read.specs.SyntaxView.{item_views}
use Rattle.chr_suspicions.specs.Words.{words_of}
use Rattle.chr_suspicions.proofs.names.push_names_of_items.Given as goal

abbrev pub invariant-loop-item : goal.invariant-loop-item
invariant-loop-item g l =
    words_of l.words.items ++ flat_map names_in_item (item_views (drop l.item-index l.items)) ≡ words_of l.initial.words.items ++ flat_map names_in_item (item_views l.items)
