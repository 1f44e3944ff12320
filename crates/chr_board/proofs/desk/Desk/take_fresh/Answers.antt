-- Each turn gives up one more task.
use Rattle.std.proofs.Common.{◌≡◌, ◌∙◌, ◌-◌, ◌+◌, suc, ap, arith, sym}
use Rattle.chr_board.specs.DeskView.{desk_view}
use Rattle.chr_board.specs.OfferedView.{slip_view}
use Rattle.chr_board.specs.Picking.{pick}
use Rattle.chr_board.specs.Searching.{is_fresh}
use Rattle.chr_board.proofs.Picks.{later, later_one, pick_handed, pick_none, pick_passed}
use Rattle.chr_board.proofs.desk.Desk.take_fresh.Goals as goal

pub returns-in-Nothing-clause-picked : goal.returns-in-Nothing-clause-picked
returns-in-Nothing-clause-picked g c =
    let k = c.loop-passed.passed in
    let all = c.loop-passed.invariant ∙ ap (later k) (pick_none (is_fresh c.args.searches.now) (c.args.most - k) (desk_view c.loop-passed.self) c.in-Nothing.ensures.0) in
    record { desk = c.in-Nothing.ensures.1 ∙ sym (ap (λ p. p.desk) all); slip = sym (ap (λ p. p.slip) all); passed = omega (arith, ap (λ p. p.passed) all) }

pub returns-in-Fresh-clause-picked : goal.returns-in-Fresh-clause-picked
returns-in-Fresh-clause-picked g c =
    let k = c.loop-passed.passed in
    let fresh = is_fresh c.args.searches.now in
    let cur = desk_view c.loop-passed.self in
    let left : c.args.most - k ≡ suc (c.args.most - (k + 1)) = omega (arith, c.loop-passed-test.true) in
    let all = c.loop-passed.invariant
    ∙ (ap (λ n. later k (pick fresh n cur)) left ∙ ap (later k) (pick_handed fresh (c.args.most - (k + 1)) cur (desk_view c.take_next.new.self) (slip_view c.in-Fresh.slip) c.in-Fresh.ensures)) in
    record { desk = sym (ap (λ p. p.desk) all); slip = sym (ap (λ p. p.slip) all); passed = omega (arith, ap (λ p. p.passed) all) }

pub loop-passed-preserved : goal.loop-passed-preserved
loop-passed-preserved g c =
    let k = c.loop-passed.passed in
    let fresh = is_fresh c.args.searches.now in
    let new = desk_view c.take_next.new.self in
    let cur = desk_view c.loop-passed.self in
    let more = c.args.most - (k + 1) in
    let left : c.args.most - k ≡ suc more = omega (arith, c.loop-passed-test.true) in
    c.loop-passed.invariant
    ∙ (ap (λ n. later k (pick fresh n cur)) left
    ∙ (ap (later k) (pick_passed fresh more cur new c.in-Stale.ensures) ∙ later_one k (pick fresh more new)))

pub returns-clause-picked : goal.returns-clause-picked
returns-clause-picked g c =
    let k = c.loop-passed.passed in
    let none : c.args.most - k ≡ 0 = omega (arith, c.loop-passed-test.false) in
    let all = c.loop-passed.invariant ∙ ap (λ n. later k (pick (is_fresh c.args.searches.now) n (desk_view c.loop-passed.self))) none in
    record { desk = sym (ap (λ p. p.desk) all); slip = sym (ap (λ p. p.slip) all); passed = omega (arith, ap (λ p. p.passed) all, c.loop-passed-test.false, c.loop-passed.auto.passed-end) }
