use Rattle.std.proofs.Common.{ap}
use Rattle.chr_term.specs.Texts.{texts_of}
use Rattle.chr_term.proofs.Tables.{IsTable-empty}
use Rattle.chr_term.proofs.names.Names.empty.Goals as goal

pub invariant_of-result : goal.invariant_of-result
invariant_of-result g c = IsTable-empty _ _ (ap texts_of c.new.ensures.empty) c.new-2.ensures.empty
