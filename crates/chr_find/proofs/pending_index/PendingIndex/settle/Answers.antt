use Rattle.std.proofs.Common.{◌≡◌, ◌∙◌, ap, arith, drop, length, subst}
use Rattle.chr_find.specs.IndexChangeView.{rows_after}
use Rattle.chr_find.specs.IndexKeys.{held}
use Rattle.chr_find.specs.declared.plan.Plan.{Plan}
use Rattle.chr_find.proofs.NoteSteps.{rows_alike}
use Rattle.chr_keys.proofs.Changes.{made_next, none_left, unmade_next}
use Rattle.chr_find.proofs.pending_index.PendingIndex.settle.Goals as goal

pub returns-in_err-make-clause-rows : goal.returns-in_err-make-clause-rows
returns-in_err-make-clause-rows g c = λ q.
    let s = c.loop-note.self in
    let n = c.in-Some.note.now in
    unmade_next (rows_after s.plan) (rows_alike s.plan) s.pending.left (drop 1 s.pending.left) n c.in-Some.ensures.some (held s.rows) (held c.make.new.rows) q
    (subst (λ (p : Plan g.row.A.Denot). rows_after p n (held c.make.new.rows) q ≡ rows_after p n (held s.rows) q) c.value.ensures (c.in_err-make.ensures.again q))
    ∙ c.loop-note.invariant.0 q

pub loop-note-smaller : goal.loop-note-smaller
loop-note-smaller g c =
    let some = ap length c.in-Some.ensures.some in
    let left = ap length c.advance.ensures in
    omega (arith, some, left)

pub loop-note-preserved : goal.loop-note-preserved
loop-note-preserved g c =
    let s = c.loop-note.self in
    let n = c.in-Some.note.now in (
      (λ q.
          made_next (rows_after s.plan) (rows_alike s.plan) s.pending.left (drop 1 s.pending.left) n c.in-Some.ensures.some c.advance.new.self.left (held s.rows) (held c.make.new.rows) q c.advance.ensures
          (subst (λ (p : Plan g.row.A.Denot). held c.make.new.rows q ≡ rows_after p n (held s.rows) q) c.value.ensures (c.in_ok-make.ensures.ok q))
          ∙ c.loop-note.invariant.0 q),
      c.loop-note.invariant.1,
    )

pub returns-clause-rows : goal.returns-clause-rows
returns-clause-rows g c = c.loop-note.invariant.0

pub returns-clause-ok : goal.returns-clause-ok
returns-clause-ok g c q = let s = c.loop-note.self in none_left (rows_after s.plan) (rows_alike s.plan) s.pending.left (held s.rows) q c.in_default.ensures.none
