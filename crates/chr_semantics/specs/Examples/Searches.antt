-- The examples of searches.
use Rattle.std.specs.Prelude.{ℕ, List, [], ◌∷◌, Option, codes}
use Rattle.chr_semantics.specs.Tree.{var}
use Rattle.chr_semantics.specs.Program.{Goal, Program, tell}
use Rattle.chr_semantics.specs.State.{rows}
use Rattle.chr_semantics.specs.Keys.{Key, rows_keyed}
use Rattle.chr_semantics.specs.Tries.{tries_bounds}
use Rattle.chr_semantics.specs.Tasks.{Task}
use Rattle.chr_semantics.specs.Snapshot.{Snapshot, snapshot_for_task, snapshot_of}
use Rattle.chr_semantics.specs.Examples.Terms.{number, head, chr}
use Rattle.chr_semantics.specs.Examples.Example.{Example, state_after}

-- r @ go, p(1,X) ==> o(X).
abbrev pub indexed_program : Program
indexed_program =
    record { label = codes "r"; kept = 2; heads = head 7 [] ∷ head 8 (number 1 ∷ var 0 ∷ []) ∷ []; guard = []; body = chr 9 (var 0 ∷ []) ∷ []; head_vars = 1; vars = 1 } ∷ []

-- its query: p(1,7), p(2,8), p(A,9), and then this goal
abbrev pub indexed : Goal → Example
indexed last = record {
  symbols = (codes "go", 0) ∷ (codes "p", 2) ∷ (codes "o", 1) ∷ [];
  program = indexed_program;
  query = record {
    goals = chr 8 (number 1 ∷ number 7 ∷ []) ∷ chr 8 (number 2 ∷ number 8 ∷ []) ∷ chr 8 (var 0 ∷ number 9 ∷ []) ∷ last ∷ [];
    var_names = codes "A" ∷ [];
  };
}

abbrev pub going : Example
going = indexed (chr 7 [])

abbrev pub binding : Example
binding = indexed (tell (var 0) (number 1))

-- the identities of p/2 by key, as stored and as shown after ten transitions
abbrev pub stored_by : Example → Option Key → List ℕ
stored_by e = rows_keyed (state_after e 10).store 8

abbrev pub shown_by : Example → Option Key → List ℕ
shown_by e = rows_keyed (snapshot_of e.program (state_after e 10)).rows 8

-- what a task is handed after n transitions
abbrev pub handed : Example → ℕ → Task → Snapshot
handed e n t = snapshot_for_task e.program (state_after e n) t

abbrev pub handed_by : Example → Task → Option Key → List ℕ
handed_by e t = rows_keyed (handed e 10 t).rows 8

-- the least and the most tries of the search of the step after n transitions
abbrev pub tries_after : Example → ℕ → ℕ → ℕ → ℕ × ℕ
tries_after e n i j = let s = state_after e n in tries_bounds e.program (rows s) s.history i j
