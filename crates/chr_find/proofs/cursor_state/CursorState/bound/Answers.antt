use Rattle.std.proofs.Common.{◌∙◌, sym}
use Rattle.chr_find.specs.Threshold.{threshold_bound}
use Rattle.chr_find.specs.CursorStateView.{threshold_of}
use Rattle.chr_find.proofs.SearchParts.{drop_at, drop_behind}
use Rattle.chr_find.proofs.cursor_state.CursorState.bound.Goals as goal

pub returns-in-None : goal.returns-in-None
returns-in-None c = λ i. threshold_bound c.args.from (threshold_of (sym c.in-On.is i) (sym (drop_behind c.args.after.now c.args.level (sym c.in-None.ensures)) i))

pub returns-in-Some : goal.returns-in-Some
returns-in-Some c = c.min.ensures ∙ (λ i. threshold_bound c.args.from (threshold_of (sym c.in-On.is i) (sym (drop_at c.args.after.now c.args.level c.in-Some.bound.0 (sym c.in-Some.ensures)) i)))
