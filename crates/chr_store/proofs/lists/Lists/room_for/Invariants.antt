use Rattle.std.proofs.Common.{◌≡◌, ◌+◌, ◌-◌, vec_len}
use Rattle.chr_store.specs.Looks.{ids_under}
use Rattle.chr_store.specs.declared.lists.Look.{Look}
use Rattle.chr_store.proofs.lists.Lists.room_for.Given as goal

abbrev pub decreases-loop-self : goal.decreases-loop-self
decreases-loop-self g l = l.place + 1 - vec_len l.self.by_symbol

-- the lists that were made are empty
abbrev pub invariant-loop-self : goal.invariant-loop-self
invariant-loop-self g l = (look : Look) → ids_under l.self look ≡ ids_under l.initial.self look
