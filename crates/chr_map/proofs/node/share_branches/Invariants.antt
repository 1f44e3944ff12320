use Rattle.std.proofs.Common.{◌≡◌, ◌<◌, length, map, take, vec_len, vec_capacity}
use Rattle.chr_map.specs.Entries.{branch_seen}
use Rattle.chr_map.proofs.node.share_branches.Given as goal

abbrev pub invariant-loop-branch : goal.invariant-loop-branch
invariant-loop-branch g l = record {
  same : map branch_seen l.shared.items ≡ map branch_seen (take l.branch-index l.branches.items);
  count : vec_len l.shared ≡ l.branch-index;
  room : length l.branches.items < vec_capacity l.shared;
}
