use Rattle.std.proofs.Common.{refl}
use Rattle.cordspar.specs.Calls.IsProgramCall.{made, refused}
use Rattle.cordspar.proofs.programs.cordspar_program_new.Goals as goal

pub returns-in-Ok : goal.returns-in-Ok
returns-in-Ok c = made refl refl c.in-Ok.handle.value.value c.in-Ok.ensures.held

pub returns-in-Err : goal.returns-in-Err
returns-in-Err c = refused refl refl c.in-Err.ensures.refused
