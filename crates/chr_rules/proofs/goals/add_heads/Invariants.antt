use Rattle.std.proofs.Common.{◌≡◌, drop}
use Rattle.chr_semantics.specs.Meaning.{head_from, in_turn, scope}
use Rattle.chr_read.specs.SyntaxView.{head_views}
use Rattle.chr_rules.specs.Heads.{heads_of, IsFlagged}
use Rattle.chr_rules.proofs.goals.add_heads.Given as goal

abbrev pub invariant-loop-head : goal.invariant-loop-head
invariant-loop-head g l = record {
  same : in_turn head_from (scope l.initial.names l.initial.variables, heads_of l.initial.heads) (head_views l.written) ≡ in_turn head_from (scope l.names l.variables, heads_of l.heads) (head_views (drop l.head-index l.written));
  flagged : IsFlagged l.heads;
}
