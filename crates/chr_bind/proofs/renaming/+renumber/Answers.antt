use Rattle.std.proofs.Common.{ap}
use Rattle.chr_term.specs.TermView.{view}
use Rattle.chr_term.proofs.Extensions.{extended_on}
use Rattle.chr_bind.proofs.Renamed.{renamed_more, renamed_var}
use Rattle.chr_bind.proofs.renaming.+renumber.Goals as goal

pub renumber-returns-in_ok-place-in-Var-clause-renamed : goal.renumber-returns-in_ok-place-in-Var-clause-renamed
renumber-returns-in_ok-place-in-Var-clause-renamed g t c =
    let stored = c.in_ok-place-in-Var.ensures.stored in
    rw (ap view c.in-Var.is)
    (renamed_var c.insert_full.new.self.keys c.in-Var.x c.in_ok-place-in-Var.place stored.0 stored.1 stored.2 c.in_ok-place-in-Var.ensures.within)

pub renumber_all-loop-term-preserved : goal.renumber_all-loop-term-preserved
renumber_all-loop-term-preserved g t c = (
  c.in_ok-renumber.ensures.names,
  extended_on _ _ _ c.loop-term.invariant.1 c.in_ok-renumber.ensures.extends,
  rw c.in_ok-push.ensures.items (renamed_more _ _ c.loop-term.items.items c.args.terms.now _ c.term-item.result c.loop-term.term-index c.in_ok-renumber.ensures.extends c.loop-term.invariant.2 c.in_ok-renumber.ensures.renamed c.loop-term-test.true c.term-item.is),
)
