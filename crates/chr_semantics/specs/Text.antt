-- The text of a run: its trace, and the parts of the state where it ends (this project's own format).
use Rattle.std.specs.Prelude.{ℕ, zero, suc, ◌+◌, cond, List, [], ◌∷◌, ◌++◌, map, length, Option, Some, None, slice_get, codes, flat_map}
use Rattle.std.specs.Str.{byte}
use Rattle.std.specs.Fmt.{decimal}
use Rattle.chr_semantics.specs.Tree.{Tree}
use Rattle.chr_semantics.specs.Subst.{value_at, binds_var, Subst}
use Rattle.chr_semantics.specs.Value.{Fault, unbound, not_number, overflow, zero_divisor}
use Rattle.chr_semantics.specs.Program.{Atom, Comparison, less, greater, at_most, at_least, equals, differs, Goal, constraint, tell, evaluate, compare, fail, Rule, Program, Query}
use Rattle.chr_semantics.specs.Match.{Row}
use Rattle.chr_semantics.specs.State.{Element, goal, known, active, Status, running, done, failed, faulted, State, resolved_atom, rows, start}
use Rattle.chr_semantics.specs.Step.{goal_instance, step, after}
use Rattle.chr_semantics.specs.Trace.{Line, solves, fails, faults, activates, reactivates, drops, defaults, simplifies, propagates, line}
use Rattle.chr_semantics.specs.Names.{Names, VarNames, var_name}
use Rattle.chr_semantics.specs.Print.{node_printing, printings_of, term_text}

abbrev pub atom_text : Names → VarNames → Atom → List ℕ
atom_text names vars a = (node_printing names a.sym (printings_of names vars a.args)).text

abbrev pub comparison_text : Comparison → List ℕ
comparison_text less = codes " < "
comparison_text greater = codes " > "
comparison_text at_most = codes " =< "
comparison_text at_least = codes " >= "
comparison_text equals = codes " =:= "
comparison_text differs = codes " =\\= "

abbrev pub infix_text : Names → VarNames → Tree → List ℕ → Tree → List ℕ
infix_text names vars t sign u = term_text names vars t ++ (sign ++ term_text names vars u)

abbrev pub goal_text : Names → VarNames → Goal → List ℕ
goal_text names vars (constraint a) = atom_text names vars a
goal_text names vars (tell t u) = infix_text names vars t (codes " = ") u
goal_text names vars (evaluate t u) = infix_text names vars t (codes " is ") u
goal_text names vars (compare c t u) = infix_text names vars t (comparison_text c) u
goal_text names vars fail = codes "fail"

-- G#i
abbrev pub known_text : Names → VarNames → Atom → ℕ → List ℕ
known_text names vars a i = atom_text names vars a ++ (byte "#" ∷ decimal i)

-- G#i:j
abbrev pub active_text : Names → VarNames → Atom → ℕ → ℕ → List ℕ
active_text names vars a i j = known_text names vars a i ++ (byte ":" ∷ decimal j)

-- the numbers after the first, each with its comma
abbrev pub more_ids_text : List ℕ → List ℕ
more_ids_text [] = []
more_ids_text (i ∷ is) = byte "," ∷ (decimal i ++ more_ids_text is)

-- numbers with commas between them
abbrev pub ids_text : List ℕ → List ℕ
ids_text [] = []
ids_text (i ∷ is) = decimal i ++ more_ids_text is

-- LABEL ids
abbrev pub firing_text : List ℕ → List ℕ → List ℕ
firing_text label ids = label ++ (byte " " ∷ ids_text ids)

abbrev pub fault_text : Fault → List ℕ
fault_text unbound = codes "unbound"
fault_text not_number = codes "type"
fault_text overflow = codes "overflow"
fault_text zero_divisor = codes "zero_divisor"

-- the line of the k-th transition, after its number
abbrev pub line_words : Names → VarNames → Line → List ℕ
line_words names vars (solves g) = codes " solve " ++ goal_text names vars g
line_words names vars (fails g) = codes " solve " ++ (goal_text names vars g ++ codes " fails")
line_words names vars (faults g f) = codes " solve " ++ (goal_text names vars g ++ (codes " fault " ++ fault_text f))
line_words names vars (activates a i) = codes " activate " ++ known_text names vars a i
line_words names vars (reactivates a i) = codes " reactivate " ++ known_text names vars a i
line_words names vars (drops a i j) = codes " drop " ++ active_text names vars a i j
line_words names vars (defaults a i j) = codes " default " ++ active_text names vars a i j
line_words names vars (simplifies a i j label ids) = codes " simplify " ++ (active_text names vars a i j ++ (byte " " ∷ firing_text label ids))
line_words names vars (propagates a i j label ids) = codes " propagate " ++ (active_text names vars a i j ++ (byte " " ∷ firing_text label ids))

abbrev pub line_text : Names → VarNames → ℕ → Line → List ℕ
line_text names vars k l = decimal k ++ line_words names vars l

-- the text of the k-th transition, where there is one
abbrev pub line_texts : Names → VarNames → ℕ → Option Line → List (List ℕ)
line_texts names vars k None = []
line_texts names vars k (Some l) = line_text names vars k l ∷ []

-- the trace of the next n steps, the first of them the k-th transition
abbrev pub trace : Names → VarNames → Program → State → ℕ → ℕ → List (List ℕ)
trace names vars p s k zero = []
trace names vars p s k (suc n) = line_texts names vars k (line p s) ++ trace names vars p (step p s) (k + 1) n

abbrev pub status_text : Status → List ℕ
status_text running = codes "budget"
status_text done = codes "done"
status_text failed = codes "failed"
status_text (faulted f) = codes "fault " ++ fault_text f

-- an element of the stack, resolved
abbrev pub element_text : Names → VarNames → Subst → Element → List ℕ
element_text names vars s (goal g) = goal_text names vars (goal_instance (value_at s) g)
element_text names vars s (known i a) = known_text names vars (resolved_atom s a) i
element_text names vars s (active i j a) = active_text names vars (resolved_atom s a) i j

-- the binding of the query's variable x, where its name begins with a capital and it is bound
abbrev pub binding_text : Names → VarNames → Subst → ℕ → Option (List ℕ) → List (List ℕ)
binding_text names vars s x None = []
binding_text names vars s x (Some name) = cond (binds_var s x) ((name ++ (codes " = " ++ term_text names vars (value_at s x))) ∷ []) []

-- the bindings of the next n variables from x on, by number
abbrev pub bindings_from : Names → VarNames → Subst → ℕ → ℕ → List (List ℕ)
bindings_from names vars s x zero = []
bindings_from names vars s x (suc n) = binding_text names vars s x (var_name vars x) ++ bindings_from names vars s (x + 1) n

abbrev pub label_of : Option Rule → List ℕ
label_of None = []
label_of (Some r) = r.label

abbrev pub entry_text : Program → ℕ × List ℕ → List ℕ
entry_text p e = firing_text (label_of (slice_get p e.0)) e.1

-- a part of the text: its word with the number of its lines, and the lines
abbrev pub part : List ℕ → List (List ℕ) → List (List ℕ)
part word ls = (word ++ decimal (length ls)) ∷ ls

-- the parts after the trace: the end, the stack from the top, the store, the bindings, the history
abbrev pub outcome : Names → VarNames → Program → State → List (List ℕ)
outcome names vars p s =
    (codes "end " ++ status_text s.status)
    ∷ (part (codes "stack ") (map (element_text names vars s.subst) s.stack)
    ++ (part (codes "store ") (map (λ (r : Row). known_text names vars r.1 r.0) (rows s))
    ++ (part (codes "bindings ") (bindings_from names vars s.subst 0 (length vars))
    ++ part (codes "history ") (map (entry_text p) s.history))))

-- each line ends with a line feed
abbrev pub lines_text : List (List ℕ) → List ℕ
lines_text ls = flat_map (λ l. l ++ byte "\n" ∷ []) ls

-- the text of the first n transitions of a query
abbrev pub text : Names → Program → Query → ℕ → List ℕ
text names p q n = lines_text (trace names q.var_names p (start q) 1 n ++ outcome names q.var_names p (after p (start q) n))
