use Rattle.std.proofs.Common.{◌≡◌, map, take}
use Rattle.chr_semantics.specs.Subst.{Subst, apply}
use Rattle.chr_term.specs.TermView.{view}
use Rattle.chr_bind.specs.Matching.{AgreesWith}
use Rattle.chr_bind.proofs.guard.+instance.Given as goal

abbrev pub invariant-made_instances-loop-pattern : goal.invariant-made_instances-loop-pattern
invariant-made_instances-loop-pattern g l = (m : Subst) → AgreesWith l.matching m → map view l.items.items ≡ map (λ t. apply m (view t)) (take l.pattern-index l.patterns)
