-- The heads so far are counted, and those left are still to be.
use Rattle.std.proofs.Common.{◌≡◌, ◌+◌, ◌≤◌, drop}
use Rattle.chr_semantics.specs.Footprint.{marks_added}
use Rattle.chr_semantics.specs.Touch.{rule}
use Rattle.chr_laws.specs.Sums.{sum_of}
use Rattle.chr_core.proofs.Heads.{head_marks}
use Rattle.chr_core.proofs.stamps.own_heads.Given as goal

abbrev pub invariant-loop-head : goal.invariant-loop-head
invariant-loop-head g l = record {
  whole : sum_of (marks_added l.sym.0) (head_marks l.rule.heads.items) ≡ l.sum + sum_of (marks_added l.sym.0) (head_marks (drop l.head-index l.rule.heads.items));
  bound : l.sum ≤ l.head-index;
}
