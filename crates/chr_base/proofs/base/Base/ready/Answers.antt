use Rattle.chr_find.specs.TableView.{atom_at}
use Rattle.chr_base.proofs.Agreements.{agrees_same}
use Rattle.chr_base.proofs.base.Base.ready.Goals as goal

pub invariant_of-self : goal.invariant_of-self
invariant_of-self g c =
    let b = c.freshen.new.self in
    record { agrees = agrees_same _ _ _ _ _ b.agrees (atom_at c.settle_for.new.self) c.settle_for.ensures.same; lends = b.lends; ahead = b.ahead }
