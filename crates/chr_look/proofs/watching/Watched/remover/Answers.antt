use Rattle.std.proofs.Common.{◌∙◌, ap, sym}
use Rattle.std.specs.Prelude.{option_and_then, slice_get}
use Rattle.chr_semantics.specs.Changes.{Entries}
use Rattle.chr_semantics.specs.Search.{History}
use Rattle.chr_machine.specs.Model.{Model}
use Rattle.chr_look.specs.Watching.{machine_in}
use Rattle.chr_look.proofs.Watches.{taken_is, viewed}
use Rattle.chr_look.proofs.watching.Watched.remover.Goals as goal

pub returns-in-None : goal.returns-in-None
returns-in-None g c are p q h one =
    let w = c.args.self.now in
    sym (ap (option_and_then (slice_get (machine_in w).base.entries.list)) (sym c.place.ensures ∙ c.in-None.is)) ∙ taken_is w c.args.removals.now c.args.id.0 are p q h one

pub returns-in-Some : goal.returns-in-Some
returns-in-Some g c are p q h one =
    let w = c.args.self.now in
    let entries = c.list-entries.ensures ∙ ap (λ (e : Entries). e.list) (c.history.ensures ∙ ap (λ (m : Model). m.base.entries) c.machine.ensures) in
    viewed c.get.result c.list-entries.result.now c.in-Some.place c.get.ensures.lookup.0 c.get.ensures.lookup.1 ∙ ap (λ (f : History). slice_get f c.in-Some.place) entries
    ∙ sym (ap (option_and_then (slice_get (machine_in w).base.entries.list)) (sym c.place.ensures ∙ c.in-Some.is)) ∙ taken_is w c.args.removals.now c.args.id.0 are p q h one
