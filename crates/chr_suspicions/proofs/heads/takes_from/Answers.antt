use Rattle.std.proofs.Common.{arith, subst, sym}
use Rattle.chr_semantics.specs.declared.limits.TheConstants.{MAX_RULE_VARIABLES}
use Rattle.chr_suspicions.specs.Covering.{AreHeadsBelow}
use Rattle.chr_suspicions.proofs.Covered.{heads_small}
use Rattle.chr_suspicions.proofs.heads.takes_from.Goals as goal

pub covers-requires : goal.covers-requires
covers-requires g c = (omega arith, subst (AreHeadsBelow MAX_RULE_VARIABLES) (sym c.as_slice.ensures.value) (heads_small c.args.earlier.now c.requires))
