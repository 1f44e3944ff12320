use Rattle.std.proofs.Common.{◌∙◌, ap}
use Rattle.chr_semantics.specs.Changes.{Entries}
use Rattle.chr_look.proofs.Watches.{goal_rule_is}
use Rattle.chr_look.proofs.watching.Watched.goal_rule.Goals as goal

pub returns : goal.returns
returns g c p q w =
    c.rule_of.ensures
    ∙ goal_rule_is p q c.args.self.now w c.list.result.now c.stack.result.now c.origin-entry.result (c.list.ensures ∙ ap (λ (e : Entries). e.list) c.history.ensures) c.stack.ensures c.origin-entry.ensures
