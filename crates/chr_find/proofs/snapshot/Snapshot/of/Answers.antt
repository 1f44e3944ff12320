use Rattle.std.proofs.Common.{◌∙◌, sym}
use Rattle.chr_find.proofs.NotDead.{not_dead_alike}
use Rattle.chr_find.proofs.snapshot.Snapshot.of.Goals as goal

pub invariant_of-result : goal.invariant_of-result
invariant_of-result g c = record { whole = c.in_ok-table.ensures.whole; keyed = c.in_ok-table.ensures.keyed c.requires.keyed; free = λ i le. c.in_ok-table.ensures.atoms i ∙ c.requires.free i le }

pub returns : goal.returns
returns g c = λ q is. record {
  rows = record { rises = is.rows.rises; same = λ i. is.rows.same i ∙ sym (c.in_ok-table.ensures.atoms i) };
  history = λ r ids alive. is.history r ids (not_dead_alike c.args.table.now c.args.next.0 c.in_ok-table.table c.in_ok-table.ensures.atoms ids alive) ∙ sym (c.in_ok-firings.ensures r ids);
  next = is.next;
  tasks = is.tasks;
  guest = is.guest;
}
