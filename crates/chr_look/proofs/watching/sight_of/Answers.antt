use Rattle.std.proofs.Common.{◌∙◌, List, ap, length, sym}
use Rattle.std.proofs.lemmas.List.{length-map}
use Rattle.chr_semantics.specs.Changes.{Entries}
use Rattle.chr_semantics.specs.Search.{History}
use Rattle.chr_semantics.specs.State.{Element}
use Rattle.chr_store.specs.HistoryView.{fired_view}
use Rattle.chr_look.proofs.Watches.{stack_long}
use Rattle.chr_look.proofs.watching.sight_of.Goals as goal

pub returns : goal.returns
returns g c =
    let entries = sym (length-map c.list.result.now fired_view) ∙ ap (λ (h : History). length h) (c.list.ensures ∙ ap (λ (e : Entries). e.list) c.history.ensures) in
    let height = sym (stack_long c.stack.result.now) ∙ ap (λ (es : List Element). length es) c.stack.ensures in
    λ k. record { entries = entries k; height = height k }
