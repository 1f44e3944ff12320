use Rattle.std.proofs.Common.{◌∙◌, ap, sym}
use Rattle.std.specs.Prelude.{option_and_then, slice_get}
use Rattle.chr_look.specs.LogView.{log_view}
use Rattle.chr_look.specs.declared.log.Log.{Log}
use Rattle.chr_look.proofs.Watches.{gone_is}
use Rattle.chr_look.proofs.watching.Watched.departure.Goals as goal

pub returns-in-None : goal.returns-in-None
returns-in-None g c are p q h one =
    let w = c.args.self.now in
    sym (ap (option_and_then (slice_get (log_view w.log).times)) (sym c.place.ensures ∙ c.in-None.is)) ∙ gone_is w c.args.removals.now c.args.id.0 are p q h one

pub returns-in-Some : goal.returns-in-Some
returns-in-Some g c are p q h one =
    let w = c.args.self.now in
    c.time.ensures ∙ ap (λ (l : Log g.row.A.Denot). slice_get (log_view l).times c.in-Some.place) c.log.ensures ∙ sym (ap (option_and_then (slice_get (log_view w.log).times)) (sym c.place.ensures ∙ c.in-Some.is))
    ∙ gone_is w c.args.removals.now c.args.id.0 are p q h one
