use Rattle.std.proofs.Common.{◌<◌, arith, get_or, subst, take}
use Rattle.std.specs.Prelude.{All}
use Rattle.std.proofs.lemmas.List.{take_all}
use Rattle.std.proofs.lemmas.List.Elements.{All-more, All-weaker}
use Rattle.chr_term.specs.declared.names.StoredSymbol.{StoredSymbol}
use Rattle.chr_term.proofs.names.texts_used.Goals as goal
use Rattle.chr_term.proofs.names.texts_used.Goals.{else-entry-used, then-entry-used}

pub loop-entry-preserved : goal.loop-entry-preserved
loop-entry-preserved c =
    let none : StoredSymbol = record { text = 0; arity = 0 } in
    let used = c.if-entry-used.used in
    let inside = c.requires c.loop-entry.entry-index none c.loop-entry-test.true in
    elim c.if-entry-used.branch [
      | then-entry-used w ↦ (
        All-more (λ (e : StoredSymbol). e.text < used) c.args.entries.now c.loop-entry.entry-index none c.loop-entry-test.true
            (All-weaker (λ (e : StoredSymbol). e.text < c.loop-entry.used) (λ (e : StoredSymbol). e.text < used) (λ e lt. omega (arith, lt, w.used-is, w.if-entry-used.true)) (take c.loop-entry.entry-index c.args.entries.now) c.loop-entry.invariant.0)
            (omega (arith, w.used-is)),
        omega (arith, w.used-is, inside),
      )
      | else-entry-used w ↦ (
        All-more (λ (e : StoredSymbol). e.text < used) c.args.entries.now c.loop-entry.entry-index none c.loop-entry-test.true
            (All-weaker (λ (e : StoredSymbol). e.text < c.loop-entry.used) (λ (e : StoredSymbol). e.text < used) (λ e lt. omega (arith, lt, w.used-is)) (take c.loop-entry.entry-index c.args.entries.now) c.loop-entry.invariant.0)
            (omega (arith, w.used-is, w.if-entry-used.false)),
        omega (arith, w.used-is, c.loop-entry.invariant.1),
      )
    ]

pub returns-clause-used : goal.returns-clause-used
returns-clause-used c =
    subst (All (λ (e : StoredSymbol). e.text < c.loop-entry.used)) (take_all c.loop-entry.entry-index c.args.entries.now (omega (arith, c.loop-entry-test.false))) c.loop-entry.invariant.0
