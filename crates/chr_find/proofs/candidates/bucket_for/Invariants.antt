use Rattle.chr_bind.specs.Matching.{AgreesWith}
use Rattle.chr_semantics.specs.Subst.{Subst}
use Rattle.chr_term.specs.TermView.{atom_view}
use Rattle.chr_find.specs.Enough.{IsEnough}
use Rattle.chr_find.specs.PlanView.{lookups_of}
use Rattle.chr_find.proofs.candidates.bucket_for.Given as goal

abbrev pub invariant-loop-lookup : goal.invariant-loop-lookup
invariant-loop-lookup g l = (m : Subst) → AgreesWith l.fn.matching m → IsEnough (lookups_of l.fn.plan) (atom_view l.fn.sym l.fn.args) m l.best
