-- The law of the most general unifier.
use Rattle.chr_semantics.specs.Mgu.{UnifierLaw}
use Rattle.chr_semantics.proofs.Instances.{instance-solves}
use Rattle.chr_semantics.proofs.UnifierBinds.{unifier_binds}
use Rattle.chr_semantics.proofs.UnifierEqual.{mgu_makes_equal}
use Rattle.chr_semantics.proofs.UnifierGeneral.{mgu_is_general}
use Rattle.chr_semantics.proofs.UnifierNone.{mgu_none}

pub unifier_law : UnifierLaw
unifier_law = record { equal = mgu_makes_equal; general = mgu_is_general; same_result = instance-solves; binds = unifier_binds; only = mgu_none }
