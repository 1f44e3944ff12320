use Rattle.std.proofs.Common.{◌∙◌, ap, refl, sym}
use Rattle.chr_trace.specs.State.{status_view}
use Rattle.chr_look.proofs.Befores.{ended_is}
use Rattle.chr_look.proofs.effects.told.Goals as goal

pub returns-in-Failed : goal.returns-in-Failed
returns-in-Failed g c p s now high solved solved_now opens kind = ended_is p s _ _ now (ap status_view (sym c.in-Failed.is) ∙ c.status.ensures) refl kind

pub returns-in-Faulted : goal.returns-in-Faulted
returns-in-Faulted g c p s now high solved solved_now opens kind = ended_is p s _ _ now (ap status_view (sym c.in-Faulted.is) ∙ c.status.ensures) refl kind
