use Rattle.std.proofs.Common.{◌≡◌, ◌∙◌, false, true, arith, sym}
use Rattle.chr_semantics.specs.Match.{Row}
use Rattle.chr_store.specs.Rows.{row_atom}
use Rattle.chr_find.proofs.Loops.{fails_at, holds_all, holds_more}
use Rattle.chr_find.proofs.RuleClashes.{clashes_all, clashes_here, head_clashes}
use Rattle.chr_find.proofs.scope.clashes.Goals as goal

pub returns-then-not-clashes_with : goal.returns-then-not-clashes_with
returns-then-not-clashes_with g c i =
    let row : Row = (i, row_atom c.args.row.now) in
    let r = c.args.rule.now in
    let none : c.clashes_with.result ≡ false = c.if-not-clashes_with.true in
    let here = head_clashes row c.loop-sym-item.result c.as_slice.result.now c.clashes_with.result c.as_slice.ensures.value (c.clashes_with.ensures i false) in
    sym (clashes_all row r.passive.items 0 r.heads.items
    ∙ fails_at (clashes_here row) c.deref-sym-items.result.now r.heads.items c.loop-sym.sym-index c.deref-sym-items.ensures.value c.loop-sym-item.result (omega (arith, c.loop-sym-test.true)) c.loop-sym-item.is (here ∙ none))

pub loop-sym-preserved : goal.loop-sym-preserved
loop-sym-preserved g c = λ i.
    let row : Row = (i, row_atom c.args.row.now) in
    let r = c.args.rule.now in
    let all : c.clashes_with.result ≡ true = c.if-not-clashes_with.false in
    let here = head_clashes row c.loop-sym-item.result c.as_slice.result.now c.clashes_with.result c.as_slice.ensures.value (c.clashes_with.ensures i false) in
    holds_more (clashes_here row) c.deref-sym-items.result.now r.heads.items c.loop-sym.sym-index c.deref-sym-items.ensures.value c.loop-sym-item.result (omega (arith, c.loop-sym-test.true)) c.loop-sym-item.is (c.loop-sym.invariant i) (here ∙ all)

pub returns : goal.returns
returns g c i =
    let row : Row = (i, row_atom c.args.row.now) in
    let r = c.args.rule.now in
    sym (clashes_all row r.passive.items 0 r.heads.items ∙ holds_all (clashes_here row) c.deref-sym-items.result.now r.heads.items c.loop-sym.sym-index c.deref-sym-items.ensures.value (omega (arith, c.loop-sym-test.false)) (c.loop-sym.invariant i))
