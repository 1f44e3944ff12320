-- What the worked examples say of a program and a query.
use Rattle.std.specs.Prelude.{◌≡◌, ℕ, ◌-◌, List, map, length, Option, slice_get}
use Rattle.chr_semantics.specs.Program.{Program, Query}
use Rattle.chr_semantics.specs.Match.{Row}
use Rattle.chr_semantics.specs.State.{Status, running, State, rows, start}
use Rattle.chr_semantics.specs.Step.{after}
use Rattle.chr_semantics.specs.Names.{Names}
use Rattle.chr_semantics.specs.Text.{trace, element_text, known_text, bindings_from, status_text, entry_text, outcome, text}
use Rattle.chr_semantics.specs.Examples.Terms.{names}

-- a program with the symbols that it declares, which are numbered from 7, and a query
pub record Example : Type 0 where
  pub symbols : Names
  pub program : Program
  pub query : Query

-- the state after n steps
abbrev pub state_after : Example → ℕ → State
state_after e n = after e.program (start e.query) n

-- the run ends with this status, after exactly n transitions
abbrev pub EndsAfter : Example → ℕ → Status → Type 0
EndsAfter e n w = ((state_after e (n - 1)).status ≡ running) × ((state_after e n).status ≡ w)

-- the bytes of the run of at most n transitions
abbrev pub whole_text : Example → ℕ → List ℕ
whole_text e n = text (names e.symbols) e.program e.query n

-- the trace of the first n transitions, line by line
abbrev pub trace_lines : Example → ℕ → List (List ℕ)
trace_lines e n = trace (names e.symbols) e.query.var_names e.program (start e.query) 1 n

-- the line of the k-th transition
abbrev pub trace_line : Example → ℕ → Option (List ℕ)
trace_line e k = slice_get (trace_lines e k) (k - 1)

-- what stands after the trace, line by line
abbrev pub outcome_lines : Example → ℕ → List (List ℕ)
outcome_lines e n = outcome (names e.symbols) e.query.var_names e.program (state_after e n)

-- the parts of that
abbrev pub end_word : Example → ℕ → List ℕ
end_word e n = status_text (state_after e n).status

abbrev pub stack_lines : Example → ℕ → List (List ℕ)
stack_lines e n = let s = state_after e n in map (element_text (names e.symbols) e.query.var_names s.subst) s.stack

abbrev pub store_lines : Example → ℕ → List (List ℕ)
store_lines e n = map (λ (r : Row). known_text (names e.symbols) e.query.var_names r.1 r.0) (rows (state_after e n))

abbrev pub binding_lines : Example → ℕ → List (List ℕ)
binding_lines e n = bindings_from (names e.symbols) e.query.var_names (state_after e n).subst 0 (length e.query.var_names)

abbrev pub history_lines : Example → ℕ → List (List ℕ)
history_lines e n = map (entry_text e.program) (state_after e n).history
