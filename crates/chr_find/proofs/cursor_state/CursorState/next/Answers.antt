use Rattle.std.proofs.Common.{◌∙◌, ◌+◌, arith, drop, sym}
use Rattle.chr_find.specs.Threshold.{next_threshold}
use Rattle.chr_find.specs.CursorStateView.{threshold_of}
use Rattle.chr_find.proofs.Thresholds.{on_before, on_later, on_same}
use Rattle.chr_find.proofs.SearchParts.{drop_at, drop_behind}
use Rattle.chr_find.proofs.cursor_state.CursorState.next.Goals as goal

pub returns-in-None : goal.returns-in-None
returns-in-None c = λ i. next_threshold c.args.from (threshold_of (sym c.in-On.is i) (sym (drop_behind c.args.after.now c.args.level (sym c.in-None.ensures)) i)) c.args.id

pub returns-then-bound-id : goal.returns-then-bound-id
returns-then-bound-id c =
    let rest = drop (c.args.level + 1) c.args.after.now in
    sym (on_later c.args.from c.in-Some.bound.0 c.args.id rest c.if-id-from.false c.if-bound-id.true)
    ∙ (λ i. next_threshold c.args.from (threshold_of (sym c.in-On.is i) (sym (drop_at c.args.after.now c.args.level c.in-Some.bound.0 (sym c.in-Some.ensures)) i)) c.args.id)

pub returns-then-bound-id-2 : goal.returns-then-bound-id-2
returns-then-bound-id-2 c =
    let rest = drop (c.args.level + 1) c.args.after.now in
    sym (on_same c.args.from c.in-Some.bound.0 c.args.id rest c.if-id-from.false c.if-bound-id-2.true)
    ∙ (λ i. next_threshold c.args.from (threshold_of (sym c.in-On.is i) (sym (drop_at c.args.after.now c.args.level c.in-Some.bound.0 (sym c.in-Some.ensures)) i)) c.args.id)

pub returns-else-bound-id-2 : goal.returns-else-bound-id-2
returns-else-bound-id-2 c =
    let rest = drop (c.args.level + 1) c.args.after.now in
    sym (on_before c.args.from c.in-Some.bound.0 c.args.id rest c.if-id-from.false (omega (arith, c.if-bound-id.false, c.if-bound-id-2.false)))
    ∙ (λ i. next_threshold c.args.from (threshold_of (sym c.in-On.is i) (sym (drop_at c.args.after.now c.args.level c.in-Some.bound.0 (sym c.in-Some.ensures)) i)) c.args.id)
