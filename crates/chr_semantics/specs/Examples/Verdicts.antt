-- The examples of verdicts.
use Rattle.std.specs.Prelude.{ℕ, List, [], ◌∷◌, Option, codes}
use Rattle.chr_semantics.specs.Tree.{Tree, var}
use Rattle.chr_semantics.specs.Program.{Rule, Test, compares, fail, greater, is_integer}
use Rattle.chr_semantics.specs.State.{start}
use Rattle.chr_semantics.specs.Life.{came, could_from, firings, gone, looks, made_by, taken_by, woken}
use Rattle.chr_semantics.specs.Lists.{fronts, furthest, like, of_stage}
use Rattle.chr_semantics.specs.Verdict.{Verdict, tested, verdict}
use Rattle.chr_semantics.specs.Examples.Terms.{chr, head, nil, number, pair, term}
use Rattle.chr_semantics.specs.Examples.Example.{Example, state_after}

-- same @ neq(X,X) <=> fail.
abbrev pub same_rule : Rule
same_rule = record { label = codes "same"; kept = 0; heads = head 7 (var 0 ∷ var 0 ∷ []) ∷ []; guard = []; body = fail ∷ []; head_vars = 1; vars = 1 }

-- prune @ neq(X,Y) \ dom(Y,L) <=> integer(X) | del(X,L,Y).
abbrev pub prune_rule : Rule
prune_rule = record {
  label = codes "prune";
  kept = 1;
  heads = head 7 (var 0 ∷ var 1 ∷ []) ∷ head 8 (var 1 ∷ var 2 ∷ []) ∷ [];
  guard = is_integer (var 0) ∷ [];
  body = chr 9 (var 0 ∷ var 2 ∷ var 1 ∷ []) ∷ [];
  head_vars = 3;
  vars = 3;
}

-- both rules    neq(A,B), dom(B,[1,2]).
abbrev pub pruning : Example
pruning = record {
  symbols = (codes "neq", 2) ∷ (codes "dom", 2) ∷ (codes "del", 3) ∷ [];
  program = same_rule ∷ prune_rule ∷ [];
  query = record {
    goals = chr 7 (var 0 ∷ var 1 ∷ []) ∷ chr 8 (var 1 ∷ pair (number 1) (pair (number 2) nil) ∷ []) ∷ [];
    var_names = codes "A" ∷ codes "B" ∷ [];
  };
}

-- positive @ p(X) <=> X > 0 | true.
abbrev pub positive_rule : Rule
positive_rule = record { label = codes "positive"; kept = 0; heads = head 7 (var 0 ∷ []) ∷ []; guard = compares greater (var 0) (number 0) ∷ []; body = []; head_vars = 1; vars = 1 }

-- it with a query p(t), whose first variable is A
abbrev pub positive : Tree → Example
positive t = record {
  symbols = (codes "p", 1) ∷ (codes "a", 0) ∷ [];
  program = positive_rule ∷ [];
  query = record { goals = chr 7 (t ∷ []) ∷ []; var_names = codes "A" ∷ [] };
}

-- twice @ q(f(X),X) <=> true.
abbrev pub twice_rule : Rule
twice_rule = record { label = codes "twice"; kept = 0; heads = head 7 (term 8 (var 0 ∷ []) ∷ var 0 ∷ []) ∷ []; guard = []; body = []; head_vars = 1; vars = 1 }

-- it with a query q(t,2)
abbrev pub unlike_first : Tree → Example
unlike_first t = record {
  symbols = (codes "q", 2) ∷ (codes "f", 1) ∷ (codes "g", 1) ∷ [];
  program = twice_rule ∷ [];
  query = record { goals = chr 7 (t ∷ number 2 ∷ []) ∷ []; var_names = [] };
}

-- a symbol without arguments
abbrev constant : ℕ → Tree
constant f = term f []

-- assign @ task(T,P), free(M) <=> run(T,M).
abbrev pub assign_rule : Rule
assign_rule = record {
  label = codes "assign";
  kept = 0;
  heads = head 7 (var 0 ∷ var 1 ∷ []) ∷ head 8 (var 2 ∷ []) ∷ [];
  guard = [];
  body = chr 9 (var 0 ∷ var 2 ∷ []) ∷ [];
  head_vars = 3;
  vars = 3;
}

-- urgent @ task(T,high), free(M) <=> run(T,M), idle(M).
abbrev pub urgent_rule : Rule
urgent_rule = record {
  label = codes "urgent";
  kept = 0;
  heads = head 7 (var 0 ∷ constant 15 ∷ []) ∷ head 8 (var 1 ∷ []) ∷ [];
  guard = [];
  body = chr 9 (var 0 ∷ var 1 ∷ []) ∷ chr 10 (var 1 ∷ []) ∷ [];
  head_vars = 2;
  vars = 2;
}

-- finish @ done(T), run(T,M) <=> free(M).
abbrev pub finish_rule : Rule
finish_rule = record {
  label = codes "finish";
  kept = 0;
  heads = head 11 (var 0 ∷ []) ∷ head 9 (var 0 ∷ var 1 ∷ []) ∷ [];
  guard = [];
  body = chr 8 (var 1 ∷ []) ∷ [];
  head_vars = 2;
  vars = 2;
}

-- the three rules    task(t1,low), task(t2,high), free(m1), done(t1).
abbrev pub scheduling : Example
scheduling = record {
  symbols = (codes "task", 2) ∷ (codes "free", 1) ∷ (codes "run", 2) ∷ (codes "idle", 1) ∷ (codes "done", 1) ∷ (codes "t1", 0) ∷ (codes "low", 0) ∷ (codes "t2", 0) ∷ (codes "high", 0) ∷ (codes "m1", 0) ∷ [];
  program = assign_rule ∷ urgent_rule ∷ finish_rule ∷ [];
  query = record {
    goals = chr 7 (constant 12 ∷ constant 13 ∷ []) ∷ chr 7 (constant 14 ∷ constant 15 ∷ []) ∷ chr 8 (constant 16 ∷ []) ∷ chr 11 (constant 12 ∷ []) ∷ [];
    var_names = [];
  };
}

-- base @ edge(X,Y) ==> path(X,Y).
abbrev pub base_rule : Rule
base_rule = record { label = codes "base"; kept = 1; heads = head 7 (var 0 ∷ var 1 ∷ []) ∷ []; guard = []; body = chr 8 (var 0 ∷ var 1 ∷ []) ∷ []; head_vars = 2; vars = 2 }

-- trans @ edge(X,Y), path(Y,Z) ==> path(X,Z).
abbrev pub trans_rule : Rule
trans_rule = record {
  label = codes "trans";
  kept = 2;
  heads = head 7 (var 0 ∷ var 1 ∷ []) ∷ head 8 (var 1 ∷ var 2 ∷ []) ∷ [];
  guard = [];
  body = chr 8 (var 0 ∷ var 2 ∷ []) ∷ [];
  head_vars = 3;
  vars = 3;
}

-- dup @ path(X,Y) \ path(X,Y) <=> true.
abbrev pub dup_rule : Rule
dup_rule = record { label = codes "dup"; kept = 1; heads = head 8 (var 0 ∷ var 1 ∷ []) ∷ head 8 (var 0 ∷ var 1 ∷ []) ∷ []; guard = []; body = []; head_vars = 2; vars = 2 }

-- the three rules    edge(a,b), edge(b,a).
abbrev pub paths : Example
paths = record {
  symbols = (codes "edge", 2) ∷ (codes "path", 2) ∷ (codes "a", 0) ∷ (codes "b", 0) ∷ [];
  program = base_rule ∷ trans_rule ∷ dup_rule ∷ [];
  query = record { goals = chr 7 (constant 9 ∷ constant 10 ∷ []) ∷ chr 7 (constant 10 ∷ constant 9 ∷ []) ∷ []; var_names = [] };
}

-- in the first n transitions: what fired; when a constraint came and went, and which firings made it and took it out; where a list was looked
-- for, and from when on it could fire
abbrev pub firings_in : Example → ℕ → List (ℕ × ℕ × List ℕ)
firings_in e n = firings e.program (start e.query) n

abbrev pub came_in : Example → ℕ → ℕ → Option ℕ
came_in e n i = came e.program (start e.query) n i

abbrev pub gone_in : Example → ℕ → ℕ → Option ℕ
gone_in e n i = gone e.program (start e.query) n i

abbrev pub taken_in : Example → ℕ → ℕ → Option (ℕ × List ℕ)
taken_in e n i = taken_by e.program (start e.query) n i

abbrev pub made_in : Example → ℕ → ℕ → Option (ℕ × List ℕ)
made_in e n i = made_by e.program (start e.query) n i

abbrev pub looks_in : Example → ℕ → ℕ → Rule → List ℕ → List (ℕ × ℕ × Verdict)
looks_in e n r rule ids = looks e.program (start e.query) n r rule ids

abbrev pub could_in : Example → ℕ → ℕ → Rule → List ℕ → Option ℕ
could_in e n r rule ids = could_from e.program (start e.query) n r rule ids

abbrev pub woken_in : Example → ℕ → ℕ → List ℕ
woken_in e n i = woken e.program (start e.query) n i

-- the k-th test after n transitions, as it stands
abbrev pub test_after : Example → ℕ → Rule → List ℕ → ℕ → Option Test
test_after e n rule ids k = tested (state_after e n) rule ids k

-- the verdict after n transitions
abbrev pub verdict_after : Example → ℕ → ℕ → Rule → List ℕ → Verdict
verdict_after e n r rule ids = verdict (state_after e n) r rule ids

-- the fronts that are looked at for the rule r, in the state after n transitions
abbrev pub fronts_after : Example → ℕ → ℕ → Rule → List (List ℕ)
fronts_after e n r rule = fronts (state_after e n) r rule

-- the n of them that came furthest
abbrev pub furthest_after : Example → ℕ → ℕ → Rule → List (List ℕ × Verdict)
furthest_after e n r rule = furthest (state_after e n) r rule 5 [] (fronts (state_after e n) r rule)

-- how many of k constraints are like the heads, and how many lists have a verdict of a kind
abbrev pub like_after : Example → ℕ → ℕ → Rule → ℕ → ℕ
like_after e n r rule k = like (state_after e n) r rule k (fronts (state_after e n) r rule)

abbrev pub stage_after : Example → ℕ → ℕ → Rule → ℕ → ℕ
stage_after e n r rule k = of_stage (state_after e n) r rule k (fronts (state_after e n) r rule)
