use Rattle.std.proofs.Common.{ap, sym, ◌∙◌, []}
use Rattle.chr_find.specs.Threshold.{admits}
use Rattle.chr_find.specs.CursorStateView.{threshold_of}
use Rattle.chr_find.proofs.Thresholds.{on_end}
use Rattle.chr_find.proofs.cursor_state.CursorState.is_free.Goals as goal

pub returns-in-On : goal.returns-in-On
returns-in-On c lowest rest = on_end lowest rest ∙ ap (λ m. admits lowest (threshold_of m rest) []) (sym c.in-On.is)
