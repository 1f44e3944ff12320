use Rattle.std.proofs.Common.{rules}
use Rattle.std.proofs.lemmas.Fn.{filter_same}
use Rattle.chr_board.proofs.searches.Searches.end.Goals as goal

pub returns-clause-begun : goal.returns-clause-begun
returns-clause-begun g c = filter_same _ _ _ (λ x b f' k. search rules) _ _ c.retain.ensures.filtered
