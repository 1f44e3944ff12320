use Rattle.std.proofs.Common.{◌∙◌, ap, refl}
use Rattle.chr_store.specs.declared.fired.Fired.{Fired}
use Rattle.chr_store.proofs.FiredRows.{other_rule, same_rule}
use Rattle.chr_store.proofs.entry.RefFiredEquivalentEntry.equivalent.Goals as goal

pub returns-then-self-entry : goal.returns-then-self-entry
returns-then-self-entry g c =
    same_rule c.args.self.now.now c.args.entry.now c.as_slice.result.now c.ids.result.now c.eq.result (c.if-self-entry.true ∙ ap (λ (f : Fired). f.rule) c.entry.view_is) c.eq.ensures c.as_slice.ensures.ids c.ids.ensures.ids

pub returns-else-self-entry : goal.returns-else-self-entry
returns-else-self-entry g c = other_rule c.args.self.now.now c.args.entry.now c.args.self.now.now.rule c.entry.inside.rule refl (ap (λ (f : Fired). f.rule) c.entry.view_is) c.if-self-entry.false
