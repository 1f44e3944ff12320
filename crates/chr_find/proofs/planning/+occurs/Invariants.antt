use Rattle.std.proofs.Common.{◌≡◌, drop}
use Rattle.chr_semantics.specs.Subst.{occurs_any}
use Rattle.chr_term.specs.TermView.{trees_view}
use Rattle.chr_find.proofs.planning.+occurs.Given as goal

abbrev pub invariant-occurs_any-loop-term : goal.invariant-occurs_any-loop-term
invariant-occurs_any-loop-term g l = occurs_any l.var (trees_view l.terms) ≡ occurs_any l.var (trees_view (drop l.term-index l.terms))
