-- The examples of runs.
use Rattle.std.specs.Prelude.{[], ◌∷◌, codes}
use Rattle.chr_semantics.specs.Tree.{Tree, var}
use Rattle.chr_semantics.specs.Program.{tell, evaluate, compare, less, greater, at_least, differs, compares, Rule, Program}
use Rattle.chr_semantics.specs.Examples.Terms.{number, head, passive_head, chr, term, plus, minus, times, divided, nil, pair}
use Rattle.chr_semantics.specs.Examples.Example.{Example}

-- no rule    true.
abbrev pub nothing : Example
nothing = record { symbols = []; program = []; query = record { goals = []; var_names = [] } }

-- no rule    p.
abbrev pub only_p : Example
only_p = record { symbols = (codes "p", 0) ∷ []; program = []; query = record { goals = chr 7 [] ∷ []; var_names = [] } }

-- gcd2 @ gcd(N) \ gcd(M) <=> M >= N | L is M-N, gcd(L).
abbrev pub subtract : Rule
subtract = record {
  label = codes "gcd2";
  kept = 1;
  heads = head 7 (var 0 ∷ []) ∷ head 7 (var 1 ∷ []) ∷ [];
  guard = compares at_least (var 1) (var 0) ∷ [];
  body = evaluate (var 2) (minus (var 1) (var 0)) ∷ chr 7 (var 2 ∷ []) ∷ [];
  head_vars = 2;
  vars = 3;
}

-- gcd1 @ gcd(0) <=> true. and subtract
abbrev pub gcd_rules : Program
gcd_rules = record { label = codes "gcd1"; kept = 0; heads = head 7 (number 0 ∷ []) ∷ []; guard = []; body = []; head_vars = 0; vars = 0 } ∷ subtract ∷ []

-- gcd_rules    gcd(4), gcd(2).
abbrev pub gcd_example : Example
gcd_example = record {
  symbols = (codes "gcd", 1) ∷ [];
  program = gcd_rules;
  query = record { goals = chr 7 (number 4 ∷ []) ∷ chr 7 (number 2 ∷ []) ∷ []; var_names = [] };
}

-- a @ p ==> q. b @ q, p <=> true.    p.
abbrev pub two_rules : Example
two_rules = record {
  symbols = (codes "p", 0) ∷ (codes "q", 0) ∷ [];
  program =
      record { label = codes "a"; kept = 1; heads = head 7 [] ∷ []; guard = []; body = chr 8 [] ∷ []; head_vars = 0; vars = 0 }
      ∷ record { label = codes "b"; kept = 0; heads = head 8 [] ∷ head 7 [] ∷ []; guard = []; body = []; head_vars = 0; vars = 0 }
      ∷ [];
  query = record { goals = chr 7 [] ∷ []; var_names = [] };
}

-- dup @ p(X) \ p(X) <=> true.    p(1), p(1).
abbrev pub duplicate : Example
duplicate = record {
  symbols = (codes "p", 1) ∷ [];
  program = record { label = codes "dup"; kept = 1; heads = head 7 (var 0 ∷ []) ∷ head 7 (var 0 ∷ []) ∷ []; guard = []; body = []; head_vars = 1; vars = 1 } ∷ [];
  query = record { goals = chr 7 (number 1 ∷ []) ∷ chr 7 (number 1 ∷ []) ∷ []; var_names = [] };
}

-- dup @ p(X) # passive \ p(X) <=> true.    p(1), p(1).
abbrev pub passive : Example
passive = record {
  symbols = (codes "p", 1) ∷ [];
  program = record { label = codes "dup"; kept = 1; heads = passive_head 7 (var 0 ∷ []) ∷ head 7 (var 0 ∷ []) ∷ []; guard = []; body = []; head_vars = 1; vars = 1 } ∷ [];
  query = record { goals = chr 7 (number 1 ∷ []) ∷ chr 7 (number 1 ∷ []) ∷ []; var_names = [] };
}

-- no rule    p(X), q(Y), X = a.
abbrev pub waking : Example
waking = record {
  symbols = (codes "p", 1) ∷ (codes "q", 1) ∷ (codes "a", 0) ∷ [];
  program = [];
  query = record { goals = chr 7 (var 0 ∷ []) ∷ chr 8 (var 1 ∷ []) ∷ tell (var 0) (term 9 []) ∷ []; var_names = codes "X" ∷ codes "Y" ∷ [] };
}

-- r @ p(a) <=> q(b).    p(X), X = a.
abbrev pub late_match : Example
late_match = record {
  symbols = (codes "p", 1) ∷ (codes "q", 1) ∷ (codes "a", 0) ∷ (codes "b", 0) ∷ [];
  program = record { label = codes "r"; kept = 0; heads = head 7 (term 9 [] ∷ []) ∷ []; guard = []; body = chr 8 (term 10 [] ∷ []) ∷ []; head_vars = 0; vars = 0 } ∷ [];
  query = record { goals = chr 7 (var 0 ∷ []) ∷ tell (var 0) (term 9 []) ∷ []; var_names = codes "X" ∷ [] };
}

-- no rule    X = f(X).
abbrev pub itself_inside : Example
itself_inside = record {
  symbols = (codes "f", 1) ∷ [];
  program = [];
  query = record { goals = tell (var 0) (term 7 (var 0 ∷ [])) ∷ []; var_names = codes "X" ∷ [] };
}

-- no rule    A = B, p(B).
abbrev pub two_variables : Example
two_variables = record {
  symbols = (codes "p", 1) ∷ [];
  program = [];
  query = record { goals = tell (var 0) (var 1) ∷ chr 7 (var 1 ∷ []) ∷ []; var_names = codes "A" ∷ codes "B" ∷ [] };
}

-- no rule    X is Y+1.
abbrev pub unbound_value : Example
unbound_value = record {
  symbols = [];
  program = [];
  query = record { goals = evaluate (var 0) (plus (var 1) (number 1)) ∷ []; var_names = codes "X" ∷ codes "Y" ∷ [] };
}

-- no rule    X is t.    for a term t without variables; the symbol 7 is `a`
abbrev pub evaluating : Tree → Example
evaluating t = record { symbols = (codes "a", 0) ∷ []; program = []; query = record { goals = evaluate (var 0) t ∷ []; var_names = codes "X" ∷ [] } }

-- r @ go, p(X), q(Y) ==> X =\= Y | o(X,Y).    p(1), p(2), q(1), q(2), go.
abbrev pub join : Example
join = record {
  symbols = (codes "go", 0) ∷ (codes "p", 1) ∷ (codes "q", 1) ∷ (codes "o", 2) ∷ [];
  program =
      record {
        label = codes "r";
        kept = 3;
        heads = head 7 [] ∷ head 8 (var 0 ∷ []) ∷ head 9 (var 1 ∷ []) ∷ [];
        guard = compares differs (var 0) (var 1) ∷ [];
        body = chr 10 (var 0 ∷ var 1 ∷ []) ∷ [];
        head_vars = 2;
        vars = 2;
      }
      ∷ [];
  query = record { goals = chr 8 (number 1 ∷ []) ∷ chr 8 (number 2 ∷ []) ∷ chr 9 (number 1 ∷ []) ∷ chr 9 (number 2 ∷ []) ∷ chr 7 [] ∷ []; var_names = [] };
}

-- p(X) <=> X > 0 | true.
abbrev pub positive : Rule
positive = record { label = codes "#1"; kept = 0; heads = head 7 (var 0 ∷ []) ∷ []; guard = compares greater (var 0) (number 0) ∷ []; body = []; head_vars = 1; vars = 1 }

-- positive    p(A).
abbrev pub unbound_guard : Example
unbound_guard = record {
  symbols = (codes "p", 1) ∷ [];
  program = positive ∷ [];
  query = record { goals = chr 7 (var 0 ∷ []) ∷ []; var_names = codes "A" ∷ [] };
}

-- positive    p(A), A = 3.
abbrev pub bound_guard : Example
bound_guard = record {
  symbols = (codes "p", 1) ∷ [];
  program = positive ∷ [];
  query = record { goals = chr 7 (var 0 ∷ []) ∷ tell (var 0) (number 3) ∷ []; var_names = codes "A" ∷ [] };
}

-- r @ p(1) <=> q(2).    p(1), p(2).
abbrev pub one_number : Example
one_number = record {
  symbols = (codes "p", 1) ∷ (codes "q", 1) ∷ [];
  program = record { label = codes "r"; kept = 0; heads = head 7 (number 1 ∷ []) ∷ []; guard = []; body = chr 8 (number 2 ∷ []) ∷ []; head_vars = 0; vars = 0 } ∷ [];
  query = record { goals = chr 7 (number 1 ∷ []) ∷ chr 7 (number 2 ∷ []) ∷ []; var_names = [] };
}

-- no rule    p(X), 1 = 2, q.
abbrev pub failing : Example
failing = record {
  symbols = (codes "p", 1) ∷ (codes "q", 0) ∷ [];
  program = [];
  query = record { goals = chr 7 (var 0 ∷ []) ∷ tell (number 1) (number 2) ∷ chr 8 [] ∷ []; var_names = codes "X" ∷ [] };
}

-- no rule    p(X), 1 < 2.
abbrev pub comparing : Example
comparing = record {
  symbols = (codes "p", 1) ∷ [];
  program = [];
  query = record { goals = chr 7 (var 0 ∷ []) ∷ compare less (number 1) (number 2) ∷ []; var_names = codes "X" ∷ [] };
}

-- no rule    p(X), Y is 1 // 0.
abbrev pub faulting : Example
faulting = record {
  symbols = (codes "p", 1) ∷ [];
  program = [];
  query = record { goals = chr 7 (var 0 ∷ []) ∷ evaluate (var 1) (divided (number 1) (number 0)) ∷ []; var_names = codes "X" ∷ codes "Y" ∷ [] };
}

-- no rule    p([1,2|T]), T = [3].
abbrev pub open_list : Example
open_list = record {
  symbols = (codes "p", 1) ∷ [];
  program = [];
  query = record { goals = chr 7 (pair (number 1) (pair (number 2) (var 0)) ∷ []) ∷ tell (var 0) (pair (number 3) nil) ∷ []; var_names = codes "T" ∷ [] };
}

-- no rule    X = (1+2)*3-(4-5).
abbrev pub operators : Example
operators = record {
  symbols = [];
  program = [];
  query = record { goals = tell (var 0) (minus (times (plus (number 1) (number 2)) (number 3)) (minus (number 4) (number 5))) ∷ []; var_names = codes "X" ∷ [] };
}

-- no rule    f(X,b) = f(a,Y).
abbrev pub functors : Example
functors = record {
  symbols = (codes "f", 2) ∷ (codes "a", 0) ∷ (codes "b", 0) ∷ [];
  program = [];
  query = record { goals = tell (term 7 (var 0 ∷ term 9 [] ∷ [])) (term 7 (term 8 [] ∷ var 1 ∷ [])) ∷ []; var_names = codes "X" ∷ codes "Y" ∷ [] };
}
