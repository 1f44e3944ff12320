use Rattle.chr_find.specs.IndexChangeView.{rows_after}
use Rattle.chr_find.specs.IndexKeys.{held}
use Rattle.chr_find.proofs.NoteSteps.{rows_alike}
use Rattle.chr_keys.proofs.Changes.{one_more}
use Rattle.chr_find.proofs.pending_index.PendingIndex.note.Goals as goal

pub returns-clause-rows : goal.returns-clause-rows
returns-clause-rows g c = λ q.
    let s = c.args.self.now in
    one_more (rows_after s.plan) (rows_alike s.plan) s.pending.left c.note.new.self.left c.args.note (held s.rows) q c.note.ensures.left
