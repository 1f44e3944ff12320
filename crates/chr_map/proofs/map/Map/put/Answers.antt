use Rattle.std.proofs.Common.{sym, subst}
use Rattle.chr_map.specs.Order.{Ascends}
use Rattle.chr_map.proofs.Clauses.{either}
use Rattle.chr_map.proofs.Ordered.{ascends_put}
use Rattle.chr_map.proofs.map.Map.put.Goals as goal

pub invariant_of-self : goal.invariant_of-self
invariant_of-self g c = either _ _ _ c.put.result c.put.ensures.ok c.put.ensures.err
    (λ h. subst (Ascends g.K.Ord.cmp) (sym (h c.self.invariant)) (ascends_put g.K.Ord.cmp g.met.K.Ord.total c.args.key c.args.value _ c.self.invariant))
    (λ h. subst (Ascends g.K.Ord.cmp) (sym h) c.self.invariant)
