-- What a session shows.
use Rattle.std.specs.Prelude.{◌≡◌, ◌≤◌, ℕ, List, take}
use Rattle.chr_semantics.specs.Accepted.{IsAcceptedQuery}
use Rattle.chr_semantics.specs.Checked.{Checked}
use Rattle.chr_semantics.specs.Names.{Names}
use Rattle.chr_semantics.specs.Outcome.{outcome_after}
use Rattle.chr_semantics.specs.Program.{Query}
use Rattle.chr_semantics.specs.declared.limits.TheConstants.{MAX_TRANSITIONS}
use Rattle.chr_machine.specs.OutcomeView.{outcome_view}
use Rattle.chr_machine.specs.declared.outcome.Outcome.{Outcome}
use Rattle.chr_rules.specs.ProgramView.{checked_view, names_of}
use Rattle.chr_rules.specs.declared.program.Program.{Program}
use Rattle.embedding.specs.declared.session.Session.{Session}

-- the program with the names of the last query
abbrev pub session_program : {A : Type 0} → Session A → Program A
session_program s = s.program

-- the program as it was read
abbrev pub session_view : {A : Type 0} → Session A → Checked
session_view s = record (checked_view s.program) { names = take s.own (names_of s.program) }

-- The text spells this query over the program, with these names, and the outcome is what the first n transitions of that give.
pub record IsAnswer {A : Type 0} (c : Checked) (text : List ℕ) (n : ℕ) (names : Names) (o : Outcome A) : Type 0 where
  pub few : n ≤ MAX_TRANSITIONS
  pub query : Query
  pub is_query : IsAcceptedQuery c text names query
  pub outcome_is : outcome_view o ≡ outcome_after names c.rules query n
