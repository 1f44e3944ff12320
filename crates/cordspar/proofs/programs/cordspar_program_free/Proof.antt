-- The handle behind the pointer is taken over, and let go.
use Rattle.cordspar.proofs.Freed.{freed}
use Rattle.cordspar.specs.contracts.programs.cordspar_program_free as f
use Rattle.cordspar.proofs.programs.cordspar_program_free.Statement.{statement}
use Rattle.cordspar.proofs.programs.cordspar_program_free.Code as code
use Rattle.cordspar.proofs.handle.release.Met.{met}

pub cordspar_program_free_spec : {M : Type 1} → statement M
cordspar_program_free_spec 𝓤 𝓛 𝓜 𝓡 wired = freed 𝓤 𝓛 𝓜 𝓡 f.Key.name (code.unfolded 𝓤 𝓛.H 𝓜 𝓡 wired) (met 𝓤 𝓛 𝓜 𝓡 (code.calls-cordspar::handle::release 𝓡.env wired))
