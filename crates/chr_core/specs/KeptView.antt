-- A kept answer, as the laws have it.
use Rattle.chr_laws.specs.Kept.{Answered}
use Rattle.chr_find.specs.SnapshotView.{task_view}
use Rattle.chr_core.specs.declared.kept.Kept.{Kept}

abbrev pub kept_view : Kept → Answered
kept_view k = record { round = k.round; index = k.index; task = task_view k.task; ids = k.ids }
