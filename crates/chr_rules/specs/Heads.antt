-- Heads as they are collected.
use Rattle.std.specs.Prelude.{◌≡◌, List, length}
use Rattle.chr_semantics.specs.Program.{Head}
use Rattle.chr_rules.specs.RuleView.{heads_view}
use Rattle.chr_rules.specs.declared.goals.Heads.{Heads}

abbrev pub heads_of : {A : Type 0} → Heads A → List Head
heads_of h = heads_view h.atoms.items h.passive.items

-- each head has its flag
abbrev pub IsFlagged : {A : Type 0} → Heads A → Type 0
IsFlagged h = length h.passive.items ≡ length h.atoms.items
