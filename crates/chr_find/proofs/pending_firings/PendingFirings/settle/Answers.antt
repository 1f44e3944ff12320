use Rattle.std.proofs.Common.{◌∙◌, ap, arith, drop, length, sym}
use Rattle.chr_store.specs.declared.fired.Fired.{Fired}
use Rattle.chr_find.specs.Firings.{firing, is_in}
use Rattle.chr_find.specs.PendingFiringsView.{with_firing}
use Rattle.chr_keys.proofs.Changes.{made_next, none_left, unmade_next}
use Rattle.chr_find.proofs.FiringMaps.{one_more}
use Rattle.chr_find.proofs.FiringNotes.{firing_alike}
use Rattle.chr_find.proofs.pending_firings.PendingFirings.settle.Goals as goal

pub returns-in_err-enter-clause-same : goal.returns-in_err-enter-clause-same
returns-in_err-enter-clause-same g c = λ r ids.
    let s = c.loop-fired.self in
    let n : Fired = c.in-Some.fired.now in
    unmade_next with_firing firing_alike s.pending.left (drop 1 s.pending.left) n c.in-Some.ensures.some (is_in s.firings.all) (is_in c.enter.new.self.all) (firing r ids)
    (firing_alike n (is_in c.enter.new.self.all) (is_in s.firings.all) (firing r ids) (c.in_err-enter.ensures.err r ids))
    ∙ c.loop-fired.invariant (firing r ids)

pub loop-fired-smaller : goal.loop-fired-smaller
loop-fired-smaller g c =
    let some = ap length c.in-Some.ensures.some in
    let left = ap length c.advance.ensures in
    omega (arith, some, left)

pub loop-fired-preserved : goal.loop-fired-preserved
loop-fired-preserved g c = λ x.
    let s = c.loop-fired.self in
    let n : Fired = c.in-Some.fired.now in
    made_next with_firing firing_alike s.pending.left (drop 1 s.pending.left) n c.in-Some.ensures.some c.advance.new.self.left (is_in s.firings.all) (is_in c.enter.new.self.all) x c.advance.ensures
    (c.in_ok-enter.ensures.ok x.rule x.ids ∙ sym (one_more n x.rule x.ids (is_in s.firings.all x)))
    ∙ c.loop-fired.invariant x

pub returns-clause-same : goal.returns-clause-same
returns-clause-same g c = λ r ids. c.loop-fired.invariant (firing r ids)

pub returns-clause-ok : goal.returns-clause-ok
returns-clause-ok g c x = let s = c.loop-fired.self in none_left with_firing firing_alike s.pending.left (is_in s.firings.all) x c.in_default.ensures.none
