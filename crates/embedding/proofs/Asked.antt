-- A query over the program of a session.
use Rattle.std.proofs.Common.{◌≡◌, ◌≤◌, ℕ, List, take}
use Rattle.chr_semantics.specs.Checked.{Checked}
use Rattle.chr_semantics.specs.declared.limits.TheConstants.{MAX_TRANSITIONS}
use Rattle.chr_rules.specs.ProgramView.{checked_view}
use Rattle.chr_rules.specs.declared.program.Program.{Program as Read}
use Rattle.embedding.specs.Refusals.{IsQueryRefusal, IsRefusal}
use Rattle.embedding.specs.declared.refusal.Refusal.{Refusal}
use Rattle.embedding.specs.declared.refusal.Refusal.TheVariants.{Program, Rules, Query, Goals, BudgetTooLarge, Memory}

-- a query is refused within the budget
pub refused : (c : Checked) (text : List ℕ) (n : ℕ) (e : Refusal) → n ≤ MAX_TRANSITIONS → IsQueryRefusal c text e → IsRefusal c text n e
refused c text n (Program e) few is = absurd is
refused c text n (Rules e) few is = absurd is
refused c text n (Query e) few is = (few, is)
refused c text n (Goals e) few is = (few, is)
refused c text n BudgetTooLarge few is = absurd is
refused c text n Memory few is = absurd is

-- a program without the names that came after its own
pub forgotten : {A : Type 0} → (own : ℕ) (old new : Read A) → (checked_view new).names ≡ take own (checked_view old).names → (checked_view new).declared ≡ (checked_view old).declared → (checked_view new).rules ≡ (checked_view old).rules → checked_view new ≡ record (checked_view old) { names = take own (checked_view old).names }
forgotten own old new names declared rules = λ i. record { names = names i; declared = declared i; rules = rules i }
