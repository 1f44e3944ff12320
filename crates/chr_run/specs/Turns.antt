-- How far a run with workers has come.
use Rattle.std.specs.Prelude.{◌≡◌, ◌≢◌, ◌⊎◌, ℕ, ◌≤◌, List, Option, Result, OnErr, OnOk}
use Rattle.std.specs.Io.KnownBytes.{Appends}
use Rattle.chr_semantics.specs.State.{running}
use Rattle.chr_semantics.specs.Text.{lines_text}
use Rattle.chr_shelf.specs.declared.run.RunName.{Ghosts}
use Rattle.chr_machine.specs.Model.{Model}
use Rattle.chr_policy.specs.CoordinatorView.{IsAtRest, machine_by, names_by, query_by, workers_by}
use Rattle.chr_policy.specs.declared.coordinator.Coordinator.{Coordinator}
use Rattle.chr_run.specs.Output.{AppendsLess, AppendsPart}
use Rattle.chr_run.specs.Sending.{whole_text}

-- n transitions were made, or as many as there are
pub record IsThrough (n : ℕ) (m : Model) : Type 0 where
  pub within : m.steps ≤ n
  pub all : (m.steps ≡ n) ⊎ (m.status ≢ running)

-- A first part of the text of n transitions is out, and not all of it: of the lines of some of them, or of all lines with the end.
abbrev pub IsPart : ℕ → Model → Option (List ℕ) → Option (List ℕ) → Type 0
IsPart n m old new = ((m.steps ≤ n) × AppendsPart old new (lines_text m.lines)) ⊎ (IsThrough n m × AppendsLess old new (whole_text m))

module _ {J A : Type 0} {G : Ghosts J} where
  -- it is the same run
  pub record IsOfRun (old new : Coordinator J A G) : Type 0 where
    pub names_are : names_by new ≡ names_by old
    pub query_is : query_by new ≡ query_by old
    pub workers_are : workers_by new ≡ workers_by old

  -- where nothing is refused, the run is through with n transitions, and its text is out; else a first part of it, and not all
  pub record Turns {E : Type 0} (n : ℕ) (old new : Coordinator J A G) (before after : Option (List ℕ)) (r : Result (Unit {0}) E) : Type 0 where
    pub same : IsOfRun old new
    pub through : OnOk r (IsThrough n (machine_by new))
    pub rests : OnOk r (IsAtRest new)
    pub text : OnOk r (Appends before after (whole_text (machine_by new)))
    pub part : OnErr r (IsPart n (machine_by new) before after)
