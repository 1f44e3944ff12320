use Rattle.std.proofs.Common.{sym, subst}
use Rattle.chr_map.specs.Order.{Ascends}
use Rattle.chr_map.proofs.Clauses.{either}
use Rattle.chr_map.proofs.Ordered.{ascends_edited}
use Rattle.chr_map.proofs.map.Map.edit.Goals as goal

pub invariant_of-self : goal.invariant_of-self
invariant_of-self g c = either _ _ _ c.edit_at.result c.edit_at.ensures.ok c.edit_at.ensures.err
    (λ h. subst (Ascends g.K.Ord.cmp) (sym (h c.self.invariant)) (ascends_edited g.K.Ord.cmp (g.E.Edit.edited c.args.edit.now) c.args.key.now _ c.self.invariant))
    (λ h. subst (Ascends g.K.Ord.cmp) (sym h) c.self.invariant)
