use Rattle.std.proofs.Common.{◌≡◌, ℕ, ◌++◌, drop}
use Rattle.std.specs.Prelude.{slice_get}
use Rattle.chr_rules.specs.Index.{pairs_in}
use Rattle.chr_rules.proofs.Listed.{pairs_from}
use Rattle.chr_rules.proofs.index.append_rule.Given as goal

abbrev pub invariant-loop-place : goal.invariant-loop-place
invariant-loop-place g l = (f : ℕ) → pairs_in (slice_get l.index.items f) ≡ pairs_in (slice_get l.initial.index.items f) ++ pairs_from l.number l.rule.passive.items l.place (drop l.place l.rule.heads.items) f
