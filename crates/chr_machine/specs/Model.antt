-- What an execution shows.
use Rattle.std.specs.Prelude.{ℕ, ◌+◌, ◌++◌, [], ◌∷◌, List, length}
use Rattle.chr_semantics.specs.Changes.{empty_store, no_entries}
use Rattle.chr_semantics.specs.Names.{Names, VarNames}
use Rattle.chr_semantics.specs.Program.{Program}
use Rattle.chr_semantics.specs.State.{Element, State, Status}
use Rattle.chr_semantics.specs.Text.{line_text}
use Rattle.chr_semantics.specs.Trace.{Line}
use Rattle.chr_rules.specs.ProgramView.{names_of, rules_of}
use Rattle.chr_trace.specs.State.{stack_view, status_view}
use Rattle.chr_base.specs.Model.{BaseModel}
use Rattle.chr_base.specs.BaseView.{base_view, program_of}
use Rattle.chr_machine.specs.declared.course.Course.{Course}
use Rattle.chr_machine.specs.declared.execution.Execution.{Execution}

-- The course of a run: the names and rules of the program, the names of the query's variables, what is below the stack, the number of
-- transitions, and their lines.
pub record CourseModel : Type 0 where
  pub names : Names
  pub rules : Program
  pub var_names : VarNames
  pub base : BaseModel
  pub steps : ℕ
  pub lines : List (List ℕ)

abbrev pub course_of : {A : Type 0} → Course A → CourseModel
course_of c = record {
  names = names_of (program_of c.base);
  rules = rules_of (program_of c.base);
  var_names = c.var_names;
  base = base_view c.base;
  steps = c.steps;
  lines = c.lines.made;
}

-- the text of a line of the next transition
abbrev pub line_in : CourseModel → Line → List ℕ
line_in c l = line_text c.names c.var_names (c.steps + 1) l

-- a transition later, with this below the stack, and with this line
abbrev pub logged : BaseModel → Line → CourseModel → CourseModel
logged b l c = record c { base = b; steps = c.steps + 1; lines = c.lines ++ line_in c l ∷ [] }

-- before the first transition
abbrev pub first_course : Names → Program → VarNames → CourseModel
first_course names rules vars = record {
  names = names;
  rules = rules;
  var_names = vars;
  base = record { store = empty_store; entries = no_entries; subst = []; next_var = length vars };
  steps = 0;
  lines = [];
}

-- the same with the stack, and how the run stands
pub record Model : Type 0 where
  pub names : Names
  pub rules : Program
  pub var_names : VarNames
  pub stack : List Element
  pub status : Status
  pub base : BaseModel
  pub steps : ℕ
  pub lines : List (List ℕ)

abbrev pub model_with : List Element → Status → CourseModel → Model
model_with es w c = record {
  names = c.names;
  rules = c.rules;
  var_names = c.var_names;
  stack = es;
  status = w;
  base = c.base;
  steps = c.steps;
  lines = c.lines;
}

abbrev pub model_of : {A : Type 0} → Execution A → Model
model_of e = model_with (stack_view e.stack.items) (status_view e.status) (course_of e.course)

-- the state of the definitions
abbrev pub state_in : Model → State
state_in m = record {
  stack = m.stack;
  store = m.base.store.rows;
  subst = m.base.subst;
  history = m.base.entries.list;
  next_id = m.base.store.next_id;
  next_var = m.base.next_var;
  status = m.status;
}
