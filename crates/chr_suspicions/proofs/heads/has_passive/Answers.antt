use Rattle.std.proofs.Common.{◌∙◌, Bool, ap}
use Rattle.std.specs.List.{list_any}
use Rattle.chr_suspicions.proofs.Marked.{any_passive}
use Rattle.chr_suspicions.proofs.heads.has_passive.Goals as goal

pub returns : goal.returns
returns g c =
    c.is_one_set.ensures ∙ ap (list_any (λ (b : Bool). b)) c.as_slice.ensures.value ∙ any_passive c.args.rule.now.passive.items c.args.rule.now.heads.items c.args.rule.now.flagged
