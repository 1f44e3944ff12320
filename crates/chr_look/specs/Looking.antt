-- What a run does with a rule and a list of constraints.
use Rattle.std.specs.Prelude.{◌≡◌, ℕ, ◌+◌, Bool, List, Option, Some, None, cond, map, slice_get}
use Rattle.chr_semantics.specs.Life.{could_from, look_in, looks}
use Rattle.chr_semantics.specs.Program.{Program, Query, Rule}
use Rattle.chr_semantics.specs.State.{start}
use Rattle.chr_semantics.specs.Verdict as semantics
use Rattle.chr_semantics.specs.Verdict.{is_could_fire, verdict}
use Rattle.chr_machine.specs.Model.{Model, state_in}
use Rattle.chr_look.specs.VerdictView.{verdict_view}
use Rattle.chr_look.specs.declared.looking.ListLog.{ListLog}
use Rattle.chr_look.specs.declared.looking.Search.{Search}

-- a search: its transition, the constraint that was active, and the verdict there
abbrev pub search_view : {A : Type 0} → Search A → ℕ × ℕ × semantics.Verdict
search_view s = (s.at, s.active.0, verdict_view s.verdict)

pub record ListModel : Type 0 where
  pub searches : List (ℕ × ℕ × semantics.Verdict)
  pub could_from : Option ℕ

abbrev pub list_view : {A : Type 0} → ListLog A → ListModel
list_view l = record { searches = map search_view l.searches.items; could_from = l.could_from }

-- the searches for the rule with the list in the first n transitions, and from when on the list could fire it
pub record IsListLog (p : Program) (q : Query) (n r : ℕ) (rule : Rule) (ids : List ℕ) (log : ListModel) : Type 0 where
  pub searches_are : log.searches ≡ looks p (start q) n r rule ids
  pub could_is : log.could_from ≡ could_from p (start q) n r rule ids

-- the search of the next transition
abbrev pub IsSearch : Model → ℕ → List ℕ → Option (ℕ × ℕ × semantics.Verdict) → Type 0
IsSearch m r ids found = (rule : Rule) → slice_get m.rules r ≡ Some rule → found ≡ look_in m.rules (state_in m) (m.steps + 1) r rule ids

-- what is noted of a state, where nothing was before
abbrev pub noted_by : Bool → ℕ → Option ℕ → Option ℕ
noted_by could k (Some j) = Some j
noted_by could k None = cond could (Some k) None

abbrev pub NotesState : Model → ℕ → List ℕ → Option ℕ → Option ℕ → Type 0
NotesState m r ids old new = (rule : Rule) → slice_get m.rules r ≡ Some rule → new ≡ noted_by (is_could_fire (verdict (state_in m) r rule ids)) m.steps old
