-- A schedule that grows by one event.
use Rattle.std.proofs.Common.{[], ◌∷◌}
use Rattle.std.proofs.lemmas.List.Sums.{fold-append}
use Rattle.chr_semantics.specs.Schedule.{no_progress, next, AppendedLaw}

pub appended_law : AppendedLaw
appended_law p q es e = fold-append (next p q) no_progress es (e ∷ [])
