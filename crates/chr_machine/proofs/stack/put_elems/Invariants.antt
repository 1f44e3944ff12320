use Rattle.std.proofs.Common.{◌≡◌, ◌≤◌, ◌+◌, ◌++◌, map, vec_len, vec_capacity}
use Rattle.chr_trace.specs.State.{elem_view, stack_view}
use Rattle.chr_machine.proofs.stack.put_elems.Given as goal

abbrev pub invariant-loop-elem : goal.invariant-loop-elem
invariant-loop-elem g l = record {
  same : map elem_view l.initial.elems.items ++ stack_view l.initial.stack.items ≡ map elem_view l.elems.items ++ stack_view l.stack.items;
  room : vec_len l.stack + vec_len l.elems ≤ vec_capacity l.stack;
}

abbrev pub decreases-loop-elem : goal.decreases-loop-elem
decreases-loop-elem g l = vec_len l.elems
