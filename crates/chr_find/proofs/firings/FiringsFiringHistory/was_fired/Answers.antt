use Rattle.std.proofs.Common.{◌∙◌, ap, sym}
use Rattle.std.specs.Prelude.{is_some}
use Rattle.chr_find.specs.Firings.{firing}
use Rattle.chr_find.proofs.FiredHistory.{copied, history_stands}
use Rattle.chr_find.proofs.firings.FiringsFiringHistory.was_fired.Goals as goal

pub returns : goal.returns
returns g c = c.is_some.ensures ∙ (copied c.get.result ∙ (ap is_some c.get.ensures.value ∙ sym (history_stands c.args.self.now.all (firing c.args.rule c.args.ids.now))))
