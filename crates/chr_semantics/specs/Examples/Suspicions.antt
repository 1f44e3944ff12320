-- The examples of suspicions.
use Rattle.std.specs.Prelude.{[], ◌∷◌, None, codes, false}
use Rattle.chr_semantics.specs.Tree.{var}
use Rattle.chr_semantics.specs.Program.{Rule}
use Rattle.chr_semantics.specs.Syntax as syntax
use Rattle.chr_semantics.specs.Examples.Terms.{chr, head, number, passive_head, term}

-- r @ p(X) <=> q(X).
abbrev pub general : Rule
general = record { label = codes "r"; kept = 0; heads = head 7 (var 0 ∷ []) ∷ []; guard = []; body = chr 8 (var 0 ∷ []) ∷ []; head_vars = 1; vars = 1 }

-- special @ q(X), p(1) <=> true.
abbrev pub special : Rule
special = record { label = codes "special"; kept = 0; heads = head 8 (var 0 ∷ []) ∷ head 7 (number 1 ∷ []) ∷ []; guard = []; body = []; head_vars = 1; vars = 1 }

-- p(X) \ p(X) <=> true.
abbrev pub duplicates : Rule
duplicates = record { label = codes "#1"; kept = 1; heads = head 7 (var 0 ∷ []) ∷ head 7 (var 0 ∷ []) ∷ []; guard = []; body = []; head_vars = 1; vars = 1 }

-- again @ p(X) <=> p(X), q(1+2).
abbrev pub again : Rule
again = record {
  label = codes "again";
  kept = 0;
  heads = head 7 (var 0 ∷ []) ∷ [];
  guard = [];
  body = chr 7 (var 0 ∷ []) ∷ chr 8 (term 2 (number 1 ∷ number 2 ∷ []) ∷ []) ∷ [];
  head_vars = 1;
  vars = 1;
}

-- p(X) # passive <=> true.
abbrev pub passive_rule : Rule
passive_rule = record { label = codes "#1"; kept = 0; heads = passive_head 7 (var 0 ∷ []) ∷ []; guard = []; body = []; head_vars = 1; vars = 1 }

-- p(X,Y,_Z) <=> q(X,_).
abbrev pub lone : syntax.Rule
lone = record {
  label = None;
  heads = record { item = syntax.plain (syntax.call (codes "p") (syntax.exprs_of (syntax.variable (codes "X") ∷ syntax.variable (codes "Y") ∷ syntax.variable (codes "_Z") ∷ []))); passive = false } ∷ [];
  behind = [];
  arrow = syntax.simplification;
  guard = [];
  body = syntax.plain (syntax.call (codes "q") (syntax.exprs_of (syntax.variable (codes "X") ∷ syntax.variable (codes "_") ∷ []))) ∷ [];
}
