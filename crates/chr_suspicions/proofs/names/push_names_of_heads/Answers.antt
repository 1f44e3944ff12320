use Rattle.std.proofs.Common.{refl}
use Rattle.chr_semantics.specs.Suspicion.{names_in_item}
use Rattle.chr_read.specs.SyntaxView.{head_views, item_view}
use Rattle.chr_suspicions.specs.Words.{names_in_heads, words_of}
use Rattle.chr_suspicions.proofs.Appended.{next_appended}
use Rattle.chr_suspicions.proofs.names.push_names_of_heads.Goals as goal

pub loop-head-preserved : goal.loop-head-preserved
loop-head-preserved g c =
    next_appended (λ h. names_in_item (item_view h.item)) (λ hs. names_in_heads (head_views hs)) (λ h hs. refl) c.args.heads.now c.loop-head.head-index c.head-item.result
    (words_of c.loop-head.words.items) (words_of c.push_names_of_item.new.words.items) _ c.loop-head-test.true c.head-item.is c.in_ok-push_names_of_item.ensures c.loop-head.invariant
