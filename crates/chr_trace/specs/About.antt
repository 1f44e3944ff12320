-- What a line says about a constraint.
use Rattle.std.specs.Prelude.{ℕ, cond}
use Rattle.chr_semantics.specs.Program.{Atom}
use Rattle.chr_semantics.specs.Trace.{Line, activates, defaults, drops, propagates, reactivates, simplifies}
use Rattle.chr_store.specs.Numbers.{numbers}
use Rattle.chr_trace.specs.declared.about.About.{About}
use Rattle.chr_trace.specs.declared.about.About.TheVariants.{Activates, Reactivates, Drops, Defaults, Fires}

-- the line about the constraint a with the identity i
abbrev pub line_about : About → Atom → ℕ → Line
line_about Activates a i = activates a i
line_about Reactivates a i = reactivates a i
line_about (Drops j) a i = drops a i j
line_about (Defaults j) a i = defaults a i j
line_about (Fires j keeps label ids) a i = cond keeps (propagates a i j label.now (numbers ids.now)) (simplifies a i j label.now (numbers ids.now))
