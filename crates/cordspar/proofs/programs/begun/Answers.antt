use Rattle.std.proofs.Common.{refl}
use Rattle.embedding.specs.SessionView.{session_view}
use Rattle.cordspar.specs.Calls.{memory, wrong}
use Rattle.cordspar.proofs.programs.begun.Goals as goal

pub returns-in-Err-clause-refused : goal.returns-in-Err-clause-refused
returns-in-Err-clause-refused c = wrong c.in-Err.refusal c.in-Err.ensures.refused c.problem_of.ensures

pub returns-in-Err-handled-clause-refused : goal.returns-in-Err-handled-clause-refused
returns-in-Err-handled-clause-refused c = memory (session_view c.in-Ok.session) c.in-Ok.ensures.accepted refl
