use Rattle.std.proofs.Common.{◌≡◌, ◌-◌}
use Rattle.chr_board.specs.DeskView.{desk_view}
use Rattle.chr_board.specs.Picking.{pick}
use Rattle.chr_board.specs.Searching.{is_fresh}
use Rattle.chr_board.proofs.Picks.{later}
use Rattle.chr_board.proofs.desk.Desk.take_fresh.Given as goal

-- so many were given up, and what is left to be picked is picked
abbrev pub invariant-loop-passed : goal.invariant-loop-passed
invariant-loop-passed g l = pick (is_fresh l.searches) l.most (desk_view l.initial.self) ≡ later l.passed (pick (is_fresh l.searches) (l.most - l.passed) (desk_view l.self))
