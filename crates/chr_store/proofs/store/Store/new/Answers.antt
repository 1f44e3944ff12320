use Rattle.std.proofs.Math.Path.{fun_ext}
use Rattle.chr_store.proofs.store.Store.new.Goals as goal

pub returns : goal.returns
returns g c = λ i. record { rows = c.new.ensures.rows i; next_id = c.new.ensures.next i; stamps = fun_ext c.new-3.ensures.counts i; changes = 0 }

pub invariant_of-result-clause-listed : goal.invariant_of-result-clause-listed
invariant_of-result-clause-listed g c = λ look. rw c.new.ensures.rows (c.new-2.ensures look)
