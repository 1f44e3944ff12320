-- What the calls of C answer.
use Rattle.std.specs.Prelude.{◌≡◌, ◌==◌, ◌≤◌, ℕ, Bool, List, [], Option, Some, None, not}
use denote.RawPtr.{Ptr}
use Rattle.chr_semantics.specs.Accepted.{IsAcceptedProgram, IsAcceptedQuery}
use Rattle.chr_semantics.specs.Checked.{Checked}
use Rattle.chr_semantics.specs.Names.{Names}
use Rattle.chr_semantics.specs.Outcome.{outcome_after}
use Rattle.chr_semantics.specs.Program.{Query}
use Rattle.chr_semantics.specs.State.{Status, done, failed, faulted, running, start}
use Rattle.chr_semantics.specs.Step.{after}
use Rattle.chr_semantics.specs.Value.{Fault, unbound, not_number, overflow, zero_divisor}
use Rattle.chr_semantics.specs.declared.limits.TheConstants.{MAX_TRANSITIONS}
use Rattle.chr_rules.specs.ProgramView.{names_of}
use Rattle.chr_trace.specs.State.{status_view}
use Rattle.embedding.specs.Refusals.{IsProgramRefusal, IsRefusal}
use Rattle.embedding.specs.SessionView.{session_program, session_view}
use Rattle.embedding.specs.declared.refusal.Refusal.{Refusal}
use Rattle.cordspar.specs.Problems.{call_problem, problem_of}
use Rattle.cordspar.specs.Runs.{IsRunOf, item_of, place_of}
use Rattle.cordspar.specs.declared.held.Held.{Held}
use Rattle.cordspar.specs.declared.held.Held.TheVariants as held
use Rattle.cordspar.specs.declared.problem.Problem.{Problem}
use Rattle.cordspar.specs.declared.run.Run.{Run}

-- how a run stands, as the exit status of `chr`
abbrev pub status_code : Status → ℕ
status_code done = 0
status_code failed = 3
status_code (faulted f) = 4
status_code running = 5

abbrev pub fault_number : Fault → ℕ
fault_number unbound = 1
fault_number not_number = 2
fault_number overflow = 3
fault_number zero_divisor = 4

abbrev pub fault_code : Status → ℕ
fault_code (faulted f) = fault_number f
fault_code done = 0
fault_code failed = 0
fault_code running = 0

-- it holds the program of the text
abbrev pub IsProgramHeld : List ℕ → Held → Type 0
IsProgramHeld text (held.Program s) = IsAcceptedProgram text (session_view s)
IsProgramHeld text (held.Run r) = ⊥

-- the text is refused, or memory to the handle on its program
pub data IsProgramProblem (text : List ℕ) (p : Problem) : Type 0 where
  wrong : (r : Refusal) → IsProgramRefusal text r → p ≡ problem_of r → IsProgramProblem text p
  memory : (c : Checked) → IsAcceptedProgram text c → p ≡ call_problem 8 → IsProgramProblem text p

-- a program is asked for
pub data IsProgramCall (text : List ℕ) (out out' : Ptr) (error error' : Problem) (result : ℕ) : Type 0 where
  made : result ≡ 0 → error' ≡ error → (program : Held) → IsProgramHeld text program → IsProgramCall text out out' error error' result
  refused : result ≡ 2 → out' ≡ out → IsProgramProblem text error' → IsProgramCall text out out' error error' result

-- it holds the same program, without the names of queries, or the same run
abbrev pub IsSameHeld : Held → Held → Type 0
IsSameHeld (held.Program s) (held.Program t) = session_view t ≡ session_view s
IsSameHeld (held.Run r) (held.Run t) = t ≡ r
IsSameHeld (held.Program s) (held.Run r) = ⊥
IsSameHeld (held.Run r) (held.Program s) = ⊥

-- The text spells a query over the program, with these names, and the run is that of its first n transitions.
pub record IsRunMade (c : Checked) (text : List ℕ) (n : ℕ) (traced : Bool) (names : Names) (code : ℕ) (r : Run) : Type 0 where
  pub few : n ≤ MAX_TRANSITIONS
  pub query : Query
  pub is_query : IsAcceptedQuery c text names query
  pub run : IsRunOf names c.rules (outcome_after names c.rules query n) traced r
  pub code_is : code ≡ status_code (after c.rules (start query) n).status

-- of what was held as a program, and of what is held as it now
abbrev pub IsMade : Held → Held → List ℕ → ℕ → Bool → ℕ → Held → Type 0
IsMade (held.Program s) (held.Program t) text n traced code (held.Run r) = IsRunMade (session_view s) text n traced (names_of (session_program t)) code r
IsMade _ _ text n traced code _ = ⊥

-- a query is refused, or the handle is none on a program
abbrev pub IsRunProblem : Held → List ℕ → ℕ → Problem → Type 0
IsRunProblem (held.Program s) text n p = (r : Refusal) × IsRefusal (session_view s) text n r × (p ≡ problem_of r)
IsRunProblem (held.Run r) text n p = p ≡ call_problem 22

-- a run is asked for
pub data IsRunCall (old new : Held) (text : List ℕ) (n trace : ℕ) (out out' : Ptr) (error error' : Problem) (result : ℕ) : Type 0 where
  made : error' ≡ error → (run : Held) → IsMade old new text n (not (trace == 0)) result run → IsRunCall old new text n trace out out' error error' result
  refused : result ≡ 2 → out' ≡ out → IsRunProblem old text n error' → IsRunCall old new text n trace out out' error error' result

-- What is read of a handle; nothing of one on a program.
abbrev pub steps_in : Held → ℕ
steps_in (held.Run r) = r.steps
steps_in (held.Program s) = 0

abbrev pub fault_in : Held → ℕ
fault_in (held.Run r) = fault_code (status_view r.status)
fault_in (held.Program s) = 0

abbrev pub count_in : Held → ℕ → ℕ
count_in (held.Run r) part = (place_of r part).count
count_in (held.Program s) part = 0

abbrev pub text_in : Held → List ℕ
text_in (held.Run r) = r.lined
text_in (held.Program s) = []

abbrev pub bytes_of : Option (List ℕ) → List ℕ
bytes_of (Some line) = line
bytes_of None = []

abbrev pub item_in : Held → ℕ → ℕ → List ℕ
item_in (held.Run r) part k = bytes_of (item_of r part k)
item_in (held.Program s) part k = []
