use Rattle.std.proofs.Common.{flat_map, refl}
use Rattle.chr_semantics.specs.Suspicion.{names_in_item}
use Rattle.chr_read.specs.SyntaxView.{item_view, item_views}
use Rattle.chr_suspicions.specs.Words.{words_of}
use Rattle.chr_suspicions.proofs.Appended.{next_appended}
use Rattle.chr_suspicions.proofs.names.push_names_of_items.Goals as goal

pub loop-item-preserved : goal.loop-item-preserved
loop-item-preserved g c =
    next_appended (λ i. names_in_item (item_view i)) (λ is. flat_map names_in_item (item_views is)) (λ i is. refl) c.args.items.now c.loop-item.item-index c.item-item.result
    (words_of c.loop-item.words.items) (words_of c.push_names_of_item.new.words.items) _ c.loop-item-test.true c.item-item.is c.in_ok-push_names_of_item.ensures c.loop-item.invariant
