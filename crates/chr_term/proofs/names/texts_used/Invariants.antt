use Rattle.std.proofs.Common.{◌<◌, ◌≤◌, All, take}
use Rattle.chr_term.proofs.names.texts_used.Given as goal

abbrev pub invariant-loop-entry : goal.invariant-loop-entry
invariant-loop-entry l = All (λ e. e.text < l.used) (take l.entry-index l.entries) × (l.used ≤ l.texts)
