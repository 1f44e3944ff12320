-- That a text is accepted, whatever it stands for.
use Rattle.std.specs.Prelude.{◌≡◌, ℕ, List, Option, Some, None, Result, Ok, Err}
use Rattle.chr_semantics.specs.Names.{Names}
use Rattle.chr_semantics.specs.Program as semantics
use Rattle.chr_semantics.specs.Accepted.{IsAcceptedProgram, IsAcceptedQuery}
use Rattle.chr_semantics.specs.Checked.{Checked}

abbrev pub IsSomeProgram : List ℕ → Type 0
IsSomeProgram text = (c : Checked) × IsAcceptedProgram text c

abbrev pub IsSomeQuery : Checked → List ℕ → Type 0
IsSomeQuery c text = (names : Names) × (q : semantics.Query) × IsAcceptedQuery c text names q

-- the program that the text is accepted as, or why it is not accepted
abbrev pub IsProgramAnswer : {V F : Type 0} → (V → Checked) → List ℕ → Result V F → Type 0
IsProgramAnswer view text (Ok v) = IsAcceptedProgram text (view v) × ((c : Checked) → IsAcceptedProgram text c → view v ≡ c)
IsProgramAnswer view text (Err e) = IsSomeProgram text → ⊥

-- nothing is wrong with what is accepted, and something with what is not
abbrev pub IsVerdict : {F : Type 0} → Type 0 → Option F → Type 0
IsVerdict Accepted None = Accepted
IsVerdict Accepted (Some e) = Accepted → ⊥
