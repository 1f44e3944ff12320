use Rattle.chr_read.specs.Reads.{in_body, in_guarded, in_query}
use Rattle.chr_read.proofs.items.items.Goals as goal

pub returns-clause-in_body : goal.returns-clause-in_body
returns-clause-in_body g c s = c.item_list.ensures.reads (in_body s)

pub returns-clause-in_guarded : goal.returns-clause-in_guarded
returns-clause-in_guarded g c s gs = c.item_list.ensures.reads (in_guarded s gs)

pub returns-clause-in_query : goal.returns-clause-in_query
returns-clause-in_query g c l = c.item_list.ensures.reads (in_query l)
