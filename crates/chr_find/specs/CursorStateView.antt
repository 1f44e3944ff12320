-- The threshold that a mode stands for.
use Rattle.std.specs.Prelude.{ℕ, List}
use Rattle.chr_find.specs.Threshold.{Threshold, before, free, on}
use Rattle.chr_find.specs.declared.cursor_state.CursorState.{CursorState}
use Rattle.chr_find.specs.declared.cursor_state.CursorState.TheVariants.{Free, On, Before}

abbrev pub threshold_of : CursorState → List ℕ → Threshold
threshold_of Free rest = free
threshold_of On rest = on rest
threshold_of Before rest = before
