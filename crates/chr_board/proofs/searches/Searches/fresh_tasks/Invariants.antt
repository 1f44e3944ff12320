use Rattle.std.proofs.Common.{◌≡◌, length, take}
use Rattle.std.specs.Prelude.{filter}
use Rattle.chr_board.specs.Searching.{is_open}
use Rattle.chr_board.proofs.searches.Searches.fresh_tasks.Given as goal

abbrev pub invariant-loop-found : goal.invariant-loop-found
invariant-loop-found g l = l.count ≡ length (filter (is_open l.self) (take l.found-index l.self.tasks.items))
