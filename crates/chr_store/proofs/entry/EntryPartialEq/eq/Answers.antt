use Rattle.std.proofs.Common.{◌∙◌, ap, sym}
use Rattle.chr_store.specs.declared.fired.Fired.{Fired}
use Rattle.chr_store.proofs.FiredRows.{other_rule, same_rule}
use Rattle.chr_store.proofs.entry.EntryPartialEq.eq.Goals as goal

pub returns-then-self-other : goal.returns-then-self-other
returns-then-self-other g c =
    let rule = sym (ap (λ (f : Fired). f.rule) c.self.view_is) ∙ (c.if-self-other.true ∙ ap (λ (f : Fired). f.rule) c.other.view_is) in
    same_rule c.args.self.now c.args.other.now c.ids.result.now c.ids-then-self-other.result.now c.eq.result rule c.eq.ensures c.ids.ensures.ids c.ids-then-self-other.ensures.ids

pub returns-else-self-other : goal.returns-else-self-other
returns-else-self-other g c =
    other_rule c.args.self.now c.args.other.now c.self.inside.rule c.other.inside.rule (ap (λ (f : Fired). f.rule) c.self.view_is) (ap (λ (f : Fired). f.rule) c.other.view_is) c.if-self-other.false
