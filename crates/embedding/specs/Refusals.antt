-- Why a text is refused.
use Rattle.std.specs.Prelude.{◌<◌, ◌≤◌, ℕ, List}
use Rattle.chr_semantics.specs.Accepted.{IsAcceptedQuery}
use Rattle.chr_semantics.specs.Checked.{Checked, checked, checked_query}
use Rattle.chr_semantics.specs.Grammar.{IsProgram, IsQuery}
use Rattle.chr_semantics.specs.Names.{Names}
use Rattle.chr_semantics.specs.Program.{Query as Asked}
use Rattle.chr_semantics.specs.Reading.{IsRead}
use Rattle.chr_semantics.specs.Syntax as syntax
use Rattle.chr_semantics.specs.declared.limits.TheConstants.{MAX_TRANSITIONS}
use Rattle.chr_read.specs.Refusals as read
use Rattle.chr_rules.specs.Checks.{IsError}
use Rattle.embedding.specs.declared.refusal.Refusal.{Refusal}
use Rattle.embedding.specs.declared.refusal.Refusal.TheVariants.{Program, Rules, Query, Goals, BudgetTooLarge, Memory}

-- the text of a program is not read so, or it is read and there is this mistake
abbrev pub IsProgramRefusal : List ℕ → Refusal → Type 0
IsProgramRefusal text (Program e) = read.IsRefusal IsProgram text e
IsProgramRefusal text (Rules e) = (spelled : syntax.Program) × IsRead IsProgram text spelled × IsError e (checked spelled)
IsProgramRefusal text _ = ⊥

-- the same of a query over an accepted program
abbrev pub IsQueryRefusal : Checked → List ℕ → Refusal → Type 0
IsQueryRefusal c text (Query e) = read.IsRefusal IsQuery text e
IsQueryRefusal c text (Goals e) = (spelled : syntax.Query) × IsRead IsQuery text spelled × IsError e (checked_query c spelled)
IsQueryRefusal c text _ = ⊥

-- The budget is looked at first, then the query. Memory is refused to the run of a query that is accepted.
abbrev pub IsRefusal : Checked → List ℕ → ℕ → Refusal → Type 0
IsRefusal c text n BudgetTooLarge = MAX_TRANSITIONS < n
IsRefusal c text n Memory = (n ≤ MAX_TRANSITIONS) × (names : Names) × (q : Asked) × IsAcceptedQuery c text names q
IsRefusal c text n e = (n ≤ MAX_TRANSITIONS) × IsQueryRefusal c text e
