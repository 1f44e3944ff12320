use Rattle.std.proofs.Common.{◌≡◌, ◌≤◌, ◌+◌, ◌-◌, length}
use Rattle.chr_trace.specs.ScribeView.{bindings_by}
use Rattle.chr_trace.proofs.scribe.Scribe.count_bound.Given as goal

abbrev pub invariant-loop-k : goal.invariant-loop-k
invariant-loop-k g l = record {
  few : l.count ≤ l.k;
  counted : length (bindings_by l.self 0 (length l.self.var_names.now)) ≡ l.count + length (bindings_by l.self l.k (length l.self.var_names.now - l.k));
}
