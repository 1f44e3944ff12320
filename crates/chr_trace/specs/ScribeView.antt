-- What a scribe writes: texts with its names, of goals and terms with its bindings applied.
use Rattle.std.specs.Prelude.{ℕ, Bool, cond, List, ◌∷◌, ◌++◌, map, Option, Some, None}
use Rattle.std.specs.Str.{byte}
use Rattle.std.specs.Fmt.{decimal}
use Rattle.chr_semantics.specs.Match.{Row}
use Rattle.chr_semantics.specs.Names.{var_name}
use Rattle.chr_semantics.specs.Print.{term_text}
use Rattle.chr_semantics.specs.Program.{Atom, Goal}
use Rattle.chr_semantics.specs.State.{Element, resolved_atom}
use Rattle.chr_semantics.specs.Step.{goal_instance}
use Rattle.chr_semantics.specs.Subst.{binds_var, value_at}
use Rattle.chr_semantics.specs.Text.{active_text, atom_text, binding_text, bindings_from, element_text, firing_text, goal_text, known_text, line_text}
use Rattle.chr_semantics.specs.Trace.{Line}
use Rattle.chr_semantics.specs.Tree.{Tree, Trees}
use Rattle.chr_rules.specs.RuleView.{goal_view}
use Rattle.chr_rules.specs.declared.goal.Goal as declared
use Rattle.chr_term.specs.TermView.{atom_over}
use Rattle.chr_term.specs.declared.term.Sym.{Sym}
use Rattle.chr_trace.specs.declared.scribe.Scribe.{Scribe}

-- an atom and a goal with the bindings applied
abbrev pub shown_atom : {A : Type 0} → Scribe A → Sym → Trees → Atom
shown_atom w f ts = resolved_atom w.bindings.now.subst (atom_over f ts)

abbrev pub shown_goal : {A : Type 0} → Scribe A → declared.Goal A → Goal
shown_goal w g = goal_instance (value_at w.bindings.now.subst) (goal_view g)

-- the texts with the scribe's names
abbrev pub term_by : {A : Type 0} → Scribe A → Tree → List ℕ
term_by w t = term_text w.names.now w.var_names.now t

abbrev pub atom_by : {A : Type 0} → Scribe A → Atom → List ℕ
atom_by w a = atom_text w.names.now w.var_names.now a

abbrev pub goal_by : {A : Type 0} → Scribe A → Goal → List ℕ
goal_by w g = goal_text w.names.now w.var_names.now g

abbrev pub known_by : {A : Type 0} → Scribe A → Atom → ℕ → List ℕ
known_by w a i = known_text w.names.now w.var_names.now a i

abbrev pub active_by : {A : Type 0} → Scribe A → Atom → ℕ → ℕ → List ℕ
active_by w a i j = active_text w.names.now w.var_names.now a i j

abbrev pub line_by : {A : Type 0} → Scribe A → ℕ → Line → List ℕ
line_by w k l = line_text w.names.now w.var_names.now k l

-- the line of the k-th transition: its number, a word, and the text that it is about
abbrev pub about_line : ℕ → List ℕ → List ℕ → List ℕ
about_line k word text = decimal k ++ (word ++ text)

-- the same at the j-th occurrence
abbrev pub at_line : ℕ → List ℕ → List ℕ → ℕ → List ℕ
at_line k word text j = about_line k word (text ++ (byte ":" ∷ decimal j))

-- the same where the rule with this label fires with these identities
abbrev pub fired_line : ℕ → List ℕ → List ℕ → ℕ → List ℕ → List ℕ → List ℕ
fired_line k word text j label ids = about_line k word ((text ++ (byte ":" ∷ decimal j)) ++ (byte " " ∷ firing_text label ids))

-- an element of a stack, which the scribe resolves
abbrev pub element_by : {A : Type 0} → Scribe A → Element → List ℕ
element_by w e = element_text w.names.now w.var_names.now w.bindings.now.subst e

-- the lines of a store's rows, which the scribe resolves
abbrev pub rows_by : {A : Type 0} → Scribe A → List Row → List (List ℕ)
rows_by w rows = map (λ (r : Row). known_by w r.1 r.0) (map (λ (r : Row). (r.0, resolved_atom w.bindings.now.subst r.1)) rows)

-- the lines of the bindings of the next n variables from x on, and of one variable
abbrev pub bindings_by : {A : Type 0} → Scribe A → ℕ → ℕ → List (List ℕ)
bindings_by w x n = bindings_from w.names.now w.var_names.now w.bindings.now.subst x n

abbrev pub binding_by : {A : Type 0} → Scribe A → ℕ → List (List ℕ)
binding_by w x = binding_text w.names.now w.var_names.now w.bindings.now.subst x (var_name w.var_names.now x)

abbrev pub name_if : Bool → Option (List ℕ) → Option (List ℕ)
name_if b None = None
name_if b (Some name) = cond b (Some name) None

-- the name of a variable, where it prints by it and is bound
abbrev pub bound_name : {A : Type 0} → Scribe A → ℕ → Option (List ℕ)
bound_name w x = name_if (binds_var w.bindings.now.subst x) (var_name w.var_names.now x)
