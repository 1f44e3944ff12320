use Rattle.chr_rules.proofs.Grown.{grows_both}
use Rattle.chr_rules.proofs.goals.sides.Goals as goal

pub returns-in_err-right-clause-grows : goal.returns-in_err-right-clause-grows
returns-in_err-right-clause-grows g c = grows_both _ _ _ c.tree.ensures.grows c.tree-2.ensures.grows

pub returns-clause-grows : goal.returns-clause-grows
returns-clause-grows g c = grows_both _ _ _ c.tree.ensures.grows c.tree-2.ensures.grows
