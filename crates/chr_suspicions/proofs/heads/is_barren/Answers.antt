use Rattle.std.proofs.Common.{◌∙◌, Bool, ap}
use Rattle.std.specs.List.{list_all}
use Rattle.chr_suspicions.proofs.Marked.{all_passive}
use Rattle.chr_suspicions.proofs.heads.is_barren.Goals as goal

pub returns : goal.returns
returns g c =
    c.are_all_set.ensures ∙ ap (list_all (λ (b : Bool). b)) c.as_slice.ensures.value ∙ all_passive c.args.rule.now.passive.items c.args.rule.now.heads.items c.args.rule.now.flagged
