use Rattle.std.proofs.Common.{take}
use Rattle.std.specs.List.{list_any}
use Rattle.chr_semantics.specs.Program.{Rule}
use Rattle.chr_semantics.specs.Suspicion.{makes}
use Rattle.chr_rules.specs.ProgramView.{rules_of}
use Rattle.chr_suspicions.specs.Marks.{Marks}
use Rattle.chr_suspicions.proofs.symbols.mark_bodies.Given as goal

abbrev pub invariant-loop-k : goal.invariant-loop-k
invariant-loop-k g l = Marks l.initial.flags (λ f. list_any (λ (r : Rule). list_any (makes f) r.body) (take l.k (rules_of l.program))) l.flags
