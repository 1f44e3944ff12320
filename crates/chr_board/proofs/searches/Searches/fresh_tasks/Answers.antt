-- There are at most as many as there are tasks.
use Rattle.std.proofs.Common.{arith, length, not, refl, take}
use Rattle.std.proofs.lemmas.List.{length-take}
use Rattle.std.proofs.lemmas.List.Filters.{length-filter_both}
use Rattle.chr_board.specs.Searching.{is_open}
use Rattle.chr_board.proofs.searches.Searches.fresh_tasks.Goals as goal

pub overflow_add-count : goal.overflow_add-count
overflow_add-count g c =
    let seen = take c.loop-found.found-index c.args.self.now.tasks.items in
    omega (arith, c.loop-found.invariant, length-filter_both (is_open c.args.self.now) (λ r. not (is_open c.args.self.now r)) (λ r. refl) seen, length-take c.loop-found.found-index c.args.self.now.tasks.items)
