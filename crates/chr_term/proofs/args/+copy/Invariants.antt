use Rattle.std.proofs.Common.{◌≡◌, take, map}
use Rattle.chr_term.specs.TermView.{view}
use Rattle.chr_term.proofs.args.+copy.Given as goal

abbrev pub invariant-copy_all-loop-term : goal.invariant-copy_all-loop-term
invariant-copy_all-loop-term g l = map view l.copied.items ≡ map view (take l.term-index l.terms)
