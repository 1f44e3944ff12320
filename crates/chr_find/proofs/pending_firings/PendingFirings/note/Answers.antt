use Rattle.std.proofs.Common.{◌∙◌}
use Rattle.chr_find.specs.Firings.{firing, is_in}
use Rattle.chr_find.specs.PendingFiringsView.{noted_firing, with_firing}
use Rattle.chr_keys.proofs.Changes as notes
use Rattle.chr_find.proofs.FiringMaps.{one_more}
use Rattle.chr_find.proofs.FiringNotes.{firing_alike}
use Rattle.chr_find.proofs.pending_firings.PendingFirings.note.Goals as goal

pub returns : goal.returns
returns g c = λ r ids.
    let s = c.args.self.now in
    notes.one_more with_firing firing_alike s.pending.left c.note.new.self.left c.args.fired (is_in s.firings.all) (firing r ids) c.note.ensures.left
    ∙ one_more c.args.fired r ids (noted_firing s (firing r ids))
