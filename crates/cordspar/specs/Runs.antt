-- What C sees of a run.
use Rattle.std.specs.Prelude.{◌≡◌, ◌==◌, ℕ, ◌+◌, ◌-◌, Bool, List, [], ◌++◌, Option, None, cond, length, nat_lt, slice_get}
use Rattle.chr_semantics.specs.Names.{Names}
use Rattle.chr_semantics.specs.Outcome.{Outcome}
use Rattle.chr_semantics.specs.Program.{Program}
use Rattle.chr_semantics.specs.Text.{lines_text, outcome}
use Rattle.chr_trace.specs.State.{status_view}
use Rattle.cordspar.specs.Lines.{lines_in}
use Rattle.cordspar.specs.declared.run.Counts.{Counts}
use Rattle.cordspar.specs.declared.run.Place.{Place}
use Rattle.cordspar.specs.declared.run.Run.{Run}

-- how many lines the parts of an outcome have, but for its bindings
pub record IsCounted (o : Outcome) (c : Counts) : Type 0 where
  pub trace : c.trace ≡ length o.lines
  pub stack : c.stack ≡ length o.state.stack
  pub store : c.store ≡ length o.state.store
  pub history : c.history ≡ length o.state.history

-- an outcome with its trace, or without
abbrev pub traced_outcome : Bool → Outcome → Outcome
traced_outcome traced o = record o { lines = cond traced o.lines [] }

-- the run shows this outcome
pub record IsShown (names : Names) (rules : Program) (o : Outcome) (r : Run) : Type 0 where
  pub status : status_view r.status ≡ o.state.status
  pub steps : r.steps ≡ o.steps
  pub text : r.lined ≡ lines_text (o.lines ++ outcome names o.var_names rules o.state)
  pub counts : IsCounted o r.counts

-- the run shows this outcome, with its trace or without
abbrev pub IsRunOf : Names → Program → Outcome → Bool → Run → Type 0
IsRunOf names rules o traced r = IsShown names rules (traced_outcome traced o) r

-- The lines of the parts: behind those of the trace stands one on the end, and before those of each other part one with its name.
abbrev pub stack_at : Run → ℕ
stack_at r = r.counts.trace + 2

abbrev pub store_at : Run → ℕ
store_at r = stack_at r + r.counts.stack + 1

abbrev pub bindings_at : Run → ℕ
bindings_at r = store_at r + r.counts.store + 1

abbrev pub history_at : Run → ℕ
history_at r = length (lines_in r.lined) - r.counts.history

abbrev pub at_place : ℕ → ℕ → Place
at_place first count = record { first = first; count = count }

-- which lines a part has
abbrev pub place_of : Run → ℕ → Place
place_of r part =
    cond (part == 0) (at_place 0 r.counts.trace)
    (cond (part == 1) (at_place (stack_at r) r.counts.stack)
    (cond (part == 2) (at_place (store_at r) r.counts.store)
    (cond (part == 3) (at_place (bindings_at r) (history_at r - (bindings_at r + 1)))
    (cond (part == 4) (at_place (history_at r) r.counts.history) (at_place 0 0)))))

-- a line of a part
abbrev pub item_of : Run → ℕ → ℕ → Option (List ℕ)
item_of r part k = cond (nat_lt k (place_of r part).count) (slice_get (lines_in r.lined) ((place_of r part).first + k)) None
