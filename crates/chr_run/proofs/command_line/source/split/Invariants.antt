-- The line goes on up to here.
use Rattle.std.proofs.Common.{◌≡◌, ◌++◌, take, drop}
use Rattle.chr_run.specs.Command.{first_line, after_line}
use Rattle.chr_run.proofs.command_line.source.split.Given as goal

abbrev pub invariant-loop-k : goal.invariant-loop-k
invariant-loop-k l = record {
  line : first_line l.text ≡ take l.k l.text ++ first_line (drop l.k l.text);
  rest : after_line l.text ≡ after_line (drop l.k l.text);
}
