-- The examples of speculation.
use Rattle.std.specs.Prelude.{ℕ, ◌++◌, cond, nat_lt, List, [], ◌∷◌, Option, codes, replicate}
use Rattle.chr_semantics.specs.Tree.{var}
use Rattle.chr_semantics.specs.Program.{tell, compare, less, Head, Rule, Program}
use Rattle.chr_semantics.specs.State.{State, start}
use Rattle.chr_semantics.specs.Touch.{Mark, touched}
use Rattle.chr_semantics.specs.Tasks.{Task, tasks}
use Rattle.chr_semantics.specs.Schedule.{Event, publish, arrive, move, Progress, no_progress, next, Counts, counts, Refusal, first_refusal}
use Rattle.chr_semantics.specs.Examples.Terms.{number, head, passive_head, chr, term}
use Rattle.chr_semantics.specs.Examples.Example.{Example, state_after}

-- n Steps
abbrev pub moves : ℕ → List Event
moves n = replicate n move

-- the numbers of the Steps that raise a count
abbrev pub steps_where : (Progress → ℕ) → Program → State → Progress → List Event → List ℕ
steps_where count p q g [] = []
steps_where count p q g (e ∷ es) =
    let h = next p q g e in
    cond (nat_lt (count g) (count h)) (h.steps ∷ steps_where count p q h es) (steps_where count p q h es)

-- the numbers of the Steps of a schedule that are used, and of those that are own
abbrev pub used_steps : Example → List Event → List ℕ
used_steps e = steps_where (λ g. g.used) e.program (start e.query) no_progress

abbrev pub own_steps : Example → List Event → List ℕ
own_steps e = steps_where (λ g. g.own) e.program (start e.query) no_progress

-- the counts of a schedule, its first refusal, and the tasks after n steps
abbrev pub counts_in : Example → List Event → Counts
counts_in e = counts e.program (start e.query)

abbrev pub refusal_in : Example → List Event → Option Refusal
refusal_in e = first_refusal e.program (start e.query) no_progress 0

abbrev pub tasks_after : Example → ℕ → List Task
tasks_after e n = tasks e.program (state_after e n)

-- how often the transitions of the first 100 steps touch a symbol or a rule
abbrev pub touched_in : Example → Mark → ℕ
touched_in e = touched e.program (start e.query) 100

-- the answers to the first two, or three, tasks of round 0
abbrev pub two_answers : List Event
two_answers = arrive 0 0 ∷ arrive 0 1 ∷ []

abbrev pub three_answers : List Event
three_answers = arrive 0 0 ∷ arrive 0 1 ∷ arrive 0 2 ∷ []

-- k Steps, a Publish, these events, and n Steps
abbrev pub published_after : ℕ → List Event → ℕ → List Event
published_after k es n = moves k ++ publish ∷ (es ++ moves n)

-- p1 @ act ==> s(1).
abbrev pub makes_s : Rule
makes_s = record { label = codes "p1"; kept = 1; heads = head 7 [] ∷ []; guard = []; body = chr 9 (number 1 ∷ []) ∷ []; head_vars = 0; vars = 0 }

-- r @ act, q(X), s(X) ==> out(X).    for the head `act`, passive or not
abbrev pub makes_out : Head → Rule
makes_out act = record {
  label = codes "r";
  kept = 3;
  heads = act ∷ head 8 (var 0 ∷ []) ∷ head 9 (var 0 ∷ []) ∷ [];
  guard = [];
  body = chr 10 (var 0 ∷ []) ∷ [];
  head_vars = 1;
  vars = 1;
}

-- p1 @ act ==> s(1). r @ act, q(X), s(X) ==> out(X).    q(1), act.
abbrev pub speculating : Example
speculating = record {
  symbols = (codes "act", 0) ∷ (codes "q", 1) ∷ (codes "s", 1) ∷ (codes "out", 1) ∷ [];
  program = makes_s ∷ makes_out (head 7 []) ∷ [];
  query = record { goals = chr 8 (number 1 ∷ []) ∷ chr 7 [] ∷ []; var_names = [] };
}

-- p1 @ act ==> s(1). r @ act # passive, q(X), s(X) ==> out(X).    q(1), act.
abbrev pub speculating_passive : Example
speculating_passive = record speculating { program = makes_s ∷ makes_out (passive_head 7 []) ∷ [] }

-- a @ p ==> q. b @ r ==> t. c @ q ==> u.    p, r.
abbrev pub guest_waits : Example
guest_waits = record {
  symbols = (codes "p", 0) ∷ (codes "q", 0) ∷ (codes "r", 0) ∷ (codes "t", 0) ∷ (codes "u", 0) ∷ [];
  program =
      record { label = codes "a"; kept = 1; heads = head 7 [] ∷ []; guard = []; body = chr 8 [] ∷ []; head_vars = 0; vars = 0 }
      ∷ record { label = codes "b"; kept = 1; heads = head 9 [] ∷ []; guard = []; body = chr 10 [] ∷ []; head_vars = 0; vars = 0 }
      ∷ record { label = codes "c"; kept = 1; heads = head 8 [] ∷ []; guard = []; body = chr 11 [] ∷ []; head_vars = 0; vars = 0 }
      ∷ [];
  query = record { goals = chr 7 [] ∷ chr 9 [] ∷ []; var_names = [] };
}

-- a @ p(X) ==> X = 1. b @ r(1) ==> t.    p(A), r(A).
abbrev pub guest_changes : Example
guest_changes = record {
  symbols = (codes "p", 1) ∷ (codes "r", 1) ∷ (codes "t", 0) ∷ [];
  program =
      record { label = codes "a"; kept = 1; heads = head 7 (var 0 ∷ []) ∷ []; guard = []; body = tell (var 0) (number 1) ∷ []; head_vars = 1; vars = 1 }
      ∷ record { label = codes "b"; kept = 1; heads = head 8 (number 1 ∷ []) ∷ []; guard = []; body = chr 9 [] ∷ []; head_vars = 0; vars = 0 }
      ∷ [];
  query = record { goals = chr 7 (var 0 ∷ []) ∷ chr 8 (var 0 ∷ []) ∷ []; var_names = codes "A" ∷ [] };
}

-- a @ go(Y) ==> Y = 1. r @ go(Z), p(1) # passive ==> o.    p(Y), go(Y).
abbrev pub partner_bound : Example
partner_bound = record {
  symbols = (codes "go", 1) ∷ (codes "p", 1) ∷ (codes "o", 0) ∷ [];
  program =
      record { label = codes "a"; kept = 1; heads = head 7 (var 0 ∷ []) ∷ []; guard = []; body = tell (var 0) (number 1) ∷ []; head_vars = 1; vars = 1 }
      ∷ record { label = codes "r"; kept = 2; heads = head 7 (var 0 ∷ []) ∷ passive_head 8 (number 1 ∷ []) ∷ []; guard = []; body = chr 9 [] ∷ []; head_vars = 1; vars = 1 }
      ∷ [];
  query = record { goals = chr 8 (var 0 ∷ []) ∷ chr 7 (var 0 ∷ []) ∷ []; var_names = codes "Y" ∷ [] };
}

-- no rule    p(1), q(X), 1 < 2, X = X, X = a.
abbrev pub three_solves : Example
three_solves = record {
  symbols = (codes "p", 1) ∷ (codes "q", 1) ∷ (codes "a", 0) ∷ [];
  program = [];
  query = record {
    goals = chr 7 (number 1 ∷ []) ∷ chr 8 (var 0 ∷ []) ∷ compare less (number 1) (number 2) ∷ tell (var 0) (var 0) ∷ tell (var 0) (term 9 []) ∷ [];
    var_names = codes "X" ∷ [];
  };
}

-- r @ p(b) ==> true. t @ q ==> true.    ten times p(X), then X = a, q.
abbrev pub many_wait : Example
many_wait = record {
  symbols = (codes "p", 1) ∷ (codes "q", 0) ∷ (codes "a", 0) ∷ (codes "b", 0) ∷ [];
  program =
      record { label = codes "r"; kept = 1; heads = head 7 (term 10 [] ∷ []) ∷ []; guard = []; body = []; head_vars = 0; vars = 0 }
      ∷ record { label = codes "t"; kept = 1; heads = head 8 [] ∷ []; guard = []; body = []; head_vars = 0; vars = 0 }
      ∷ [];
  query = record { goals = replicate 10 (chr 7 (var 0 ∷ [])) ++ tell (var 0) (term 9 []) ∷ chr 8 [] ∷ []; var_names = codes "X" ∷ [] };
}

-- nine times    p, p, p, p, p, p, p, p ==> true.    p.
abbrev pub many_occurrences : Example
many_occurrences = record {
  symbols = (codes "p", 0) ∷ [];
  program = replicate 9 (record { label = codes "r"; kept = 8; heads = replicate 8 (head 7 []); guard = []; body = []; head_vars = 0; vars = 0 });
  query = record { goals = chr 7 [] ∷ []; var_names = [] };
}

-- a @ p(X) ==> 1 < 2. b @ p(b) ==> true.    p(A).
abbrev pub wakes_itself : Example
wakes_itself = record {
  symbols = (codes "p", 1) ∷ (codes "b", 0) ∷ [];
  program =
      record { label = codes "a"; kept = 1; heads = head 7 (var 0 ∷ []) ∷ []; guard = []; body = compare less (number 1) (number 2) ∷ []; head_vars = 1; vars = 1 }
      ∷ record { label = codes "b"; kept = 1; heads = head 7 (term 8 [] ∷ []) ∷ []; guard = []; body = []; head_vars = 0; vars = 0 }
      ∷ [];
  query = record { goals = chr 7 (var 0 ∷ []) ∷ []; var_names = codes "A" ∷ [] };
}
