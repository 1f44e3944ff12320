use Rattle.std.proofs.Common.{◌∙◌, ap, arith, drop, length, sym}
use Rattle.chr_keys.specs.Lists.{is_in_list}
use Rattle.chr_keys.specs.KeyChangeView.{changed_after}
use Rattle.chr_keys.specs.SymbolKeys.{symbol_key_of}
use Rattle.chr_keys.proofs.Changes.{made_next, none_left, unmade_next}
use Rattle.chr_keys.proofs.KeyChanges.{change_alike}
use Rattle.chr_keys.proofs.pending_keys.PendingKeys.settle.Goals as goal

pub returns-in_err-make-clause-same : goal.returns-in_err-make-clause-same
returns-in_err-make-clause-same g c = λ f k i.
    let s = c.loop-change.self in
    unmade_next changed_after change_alike s.pending.left (drop 1 s.pending.left) c.in-Some.change.now c.in-Some.ensures.some (is_in_list s.keys.lists) (is_in_list c.make.new.lists.lists) (symbol_key_of f k, i) (c.in_err-make.ensures.again (symbol_key_of f k, i))
    ∙ c.loop-change.invariant f k i

pub loop-change-smaller : goal.loop-change-smaller
loop-change-smaller g c =
    let some = ap length c.in-Some.ensures.some in
    let left = ap length c.advance.ensures in
    omega (arith, some, left)

pub loop-change-preserved : goal.loop-change-preserved
loop-change-preserved g c = λ f k i.
    let s = c.loop-change.self in
    made_next changed_after change_alike s.pending.left (drop 1 s.pending.left) c.in-Some.change.now c.in-Some.ensures.some c.advance.new.self.left (is_in_list s.keys.lists) (is_in_list c.make.new.lists.lists) (symbol_key_of f k, i) c.advance.ensures (c.in_ok-make.ensures.ok (symbol_key_of f k, i))
    ∙ c.loop-change.invariant f k i

pub returns-clause-same : goal.returns-clause-same
returns-clause-same g c = c.loop-change.invariant

pub returns-clause-ok : goal.returns-clause-ok
returns-clause-ok g c = record { listed = λ f k i. none_left changed_after change_alike c.loop-change.self.pending.left (is_in_list c.loop-change.self.keys.lists) (symbol_key_of f k, i) c.in_default.ensures.none }
