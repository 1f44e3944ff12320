-- That a machine stands where the transitions of a query's run lead.
use Rattle.std.specs.Prelude.{◌≡◌, ℕ, []}
use Rattle.chr_semantics.specs.Calls.{rise_by_calls}
use Rattle.chr_semantics.specs.Changes.{empty_store, no_entries}
use Rattle.chr_semantics.specs.Names.{Names}
use Rattle.chr_semantics.specs.Program.{Program, Query}
use Rattle.chr_semantics.specs.Stamps.{stamp}
use Rattle.chr_semantics.specs.State.{start}
use Rattle.chr_semantics.specs.Touch.{Mark}
use Rattle.chr_machine.specs.MachineView.{Further}
use Rattle.chr_machine.specs.Model.{Model}
use Rattle.chr_core.specs.Marks.{mark_stamp}

-- a machine before the first transition of a query
abbrev pub begun : Names → Program → Query → Model
begun names p r = record {
  names = names;
  rules = p;
  var_names = r.var_names;
  stack = (start r).stack;
  status = (start r).status;
  base = record { store = empty_store; entries = no_entries; subst = []; next_var = (start r).next_var };
  steps = 0;
  lines = [];
}

-- its transitions are those of the run of the query, and its stamps rose as they do in that run
pub record IsAt (names : Names) (p : Program) (r : Query) (m : Model) : Type 0 where
  pub run : Further m.steps (begun names p r) m
  pub stamps_are : (x : Mark) → mark_stamp m.base.store m.base.entries x ≡ stamp p (rise_by_calls p) (start r) m.steps x
