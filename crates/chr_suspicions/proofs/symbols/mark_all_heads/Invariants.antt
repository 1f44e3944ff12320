use Rattle.std.proofs.Common.{take}
use Rattle.std.specs.List.{list_any}
use Rattle.chr_semantics.specs.Suspicion.{has_head}
use Rattle.chr_rules.specs.ProgramView.{rules_of}
use Rattle.chr_suspicions.specs.Marks.{Marks}
use Rattle.chr_suspicions.proofs.symbols.mark_all_heads.Given as goal

abbrev pub invariant-loop-k : goal.invariant-loop-k
invariant-loop-k g l = Marks l.initial.flags (λ f. list_any (has_head f) (take l.k (rules_of l.program))) l.flags
