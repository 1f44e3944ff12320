use Rattle.std.proofs.Common.{sym, subst}
use Rattle.chr_map.specs.Order.{Ascends}
use Rattle.chr_map.proofs.Clauses.{either}
use Rattle.chr_map.proofs.Ordered.{ascends_removed}
use Rattle.chr_map.proofs.map.Map.take_out.Goals as goal

pub invariant_of-self : goal.invariant_of-self
invariant_of-self g c = either _ _ _ c.take_out.result c.take_out.ensures.ok c.take_out.ensures.err
    (λ h. subst (Ascends g.K.Ord.cmp) (sym (h c.self.invariant)) (ascends_removed g.K.Ord.cmp c.args.key.now _ c.self.invariant))
    (λ h. subst (Ascends g.K.Ord.cmp) (sym h) c.self.invariant)
