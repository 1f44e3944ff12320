use Rattle.chr_term.specs.TermView.{view}
use Rattle.chr_term.proofs.Mapped.{map_pushed}
use Rattle.chr_term.proofs.args.+copy.Goals as goal

pub copy_all-loop-term-preserved : goal.copy_all-loop-term-preserved
copy_all-loop-term-preserved g t c =
    rw c.in_ok-push.ensures.items (map_pushed view view _ _ _ c.term-item.result _ c.loop-term.invariant c.loop-term-test.true c.in_ok-copy.ensures c.term-item.is)
