-- What a log and a sight show.
use Rattle.std.specs.Prelude.{map}
use Rattle.chr_semantics.specs.Program.{Atom}
use Rattle.chr_term.specs.TermView.{atom_over}
use Rattle.chr_look.specs.Logs.{LogModel, Sight}
use Rattle.chr_look.specs.declared.log.Birth.{Birth}
use Rattle.chr_look.specs.declared.log.Log.{Log}
use Rattle.chr_look.specs.declared.log.Sight as rust

abbrev pub atom_of_birth : {A : Type 0} → Birth A → Atom
atom_of_birth b = atom_over b.sym b.args

abbrev pub log_view : {A : Type 0} → Log A → LogModel
log_view l = record { births = map (λ b. b.at) l.births.items; atoms = map atom_of_birth l.births.items; origins = map (λ b. b.origin) l.births.items; times = l.times.items; lows = l.lows.items }

abbrev pub sight_view : rust.Sight → Sight
sight_view s = record { entries = s.entries; height = s.height }
