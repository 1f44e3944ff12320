-- What a search of a course comes to, and what a firing changes there.
use Rattle.std.specs.Prelude.{◌≡◌, ℕ, ◌+◌, ◌-◌, ◌≤◌, List, All, Option, Some, cond, drop, false, length, map, nat_lt, slice_get, true}
use Rattle.std.specs.List.{fold}
use Rattle.chr_semantics.specs.Bounds.{IsBounded}
use Rattle.chr_semantics.specs.Changes.{entered, removed}
use Rattle.chr_semantics.specs.Match.{Row, fits}
use Rattle.chr_semantics.specs.Program.{Atom, Rule, occurrence}
use Rattle.chr_semantics.specs.Search.{Found, atom_of, fired_before, firing, ids_of, no_firing, no_occurrence, search_for}
use Rattle.chr_semantics.specs.State.{Element, active, goal, resolved_atom}
use Rattle.chr_semantics.specs.Step.{body_of}
use Rattle.chr_semantics.specs.Subst.{Subst}
use Rattle.chr_semantics.specs.Trace.{Line, defaults, drops, propagates, simplifies}
use Rattle.chr_semantics.specs.declared.limits.TheConstants.{MAX_HEADS}
use Rattle.chr_rules.specs.RuleView.{goal_view, rule_view}
use Rattle.chr_find.specs.declared.active.Active.{Active}
use Rattle.chr_term.specs.TermView.{atom_over}
use Rattle.chr_base.specs.Agreement.{is_alive}
use Rattle.chr_base.specs.BaseView.{base_view}
use Rattle.chr_base.specs.Model.{BaseModel, rows_of}
use Rattle.chr_base.specs.Searching.{FindsFirst, occurrence_of}
use Rattle.chr_machine.specs.Model.{CourseModel, course_of, line_in, logged}
use Rattle.chr_machine.specs.declared.course.Course.{Course}
use Rattle.chr_machine.specs.declared.turning.ActiveConstraint.{ActiveConstraint}
use Rattle.chr_machine.specs.declared.turning.Firing.{Firing}
use Rattle.chr_machine.specs.declared.turning.Turn.{Turn}
use Rattle.chr_machine.specs.declared.turning.Turn.TheVariants.{Drops, Defaults, Fires}

-- the goal of an active constraint, and what it is on the stack
abbrev pub atom_at : {A : Type 0} → ActiveConstraint A → Atom
atom_at x = atom_over x.sym x.args.now

abbrev pub top_at : {A : Type 0} → ActiveConstraint A → Element
top_at x = active x.id.0 x.occurrence (atom_at x)

-- the search for the constraint i, whose goal is a, at its occurrence j
abbrev pub search_in : CourseModel → ℕ → ℕ → Atom → Found
search_in c i j a = search_for c.rules (rows_of c.base) c.base.entries.list a.sym i j

-- the active constraint has that occurrence
pub record IsAt {A : Type 0} (c : CourseModel) (s : Active A) (x : ActiveConstraint A) : Type 0 where
  pub id : s.id.0 ≡ x.id.0
  pub occurs : occurrence c.rules x.sym.0 x.occurrence ≡ Some (occurrence_of s)

-- the search for the constraint, a at its occurrence j, found a firing with these identities
pub record IsFiring {A : Type 0} (c : CourseModel) (s : Active A) (j : ℕ) (a : Atom) (ids : List ℕ) : Type 0 where
  pub rows : List Row
  pub matched : Subst
  pub found : search_in c s.id.0 j a ≡ firing s.number (rule_view s.rule.now) s.place rows
  pub ids_are : ids_of rows ≡ ids
  pub fit : fits (rule_view s.rule.now).heads rows ≡ Some matched
  pub standing : All (λ (r : Row). atom_of (rows_of c.base) r.0 ≡ Some r.1) rows
  pub few : length ids ≤ MAX_HEADS
  pub is_new : fired_before c.base.entries.list s.number ids ≡ false
  pub bounded : IsBounded (rule_view s.rule.now)
  pub of_program : slice_get c.rules s.number ≡ Some (rule_view s.rule.now)
  pub lives : is_alive c.base.store s.id.0 ≡ true
  pub first : FindsFirst c.base s (Some ids)

-- what is below the stack after a firing
abbrev pub fired_base : BaseModel → ℕ → Rule → List ℕ → BaseModel
fired_base b number rule ids = record b {
  store = fold removed b.store (drop rule.kept ids);
  entries = entered b.entries number ids;
  next_var = b.next_var + (rule.vars - rule.head_vars);
}

-- the line of a firing
abbrev pub firing_line : ℕ → ℕ → Atom → Rule → ℕ → List ℕ → Line
firing_line i j a rule place ids = cond (nat_lt place rule.kept) (propagates a i j rule.label ids) (simplifies a i j rule.label ids)

-- A firing of the active constraint that is ready: its line is drafted, and it has the goals of the body.
pub record IsPrepared {A : Type 0} (x : ActiveConstraint A) (f : Firing A) (d : Course A) : Type 0 where
  pub id : f.active.id.0 ≡ x.id.0
  pub is : IsFiring (course_of d) f.active x.occurrence (atom_at x) f.ids
  pub goals_are : map (λ g. goal (goal_view g)) f.goals.items ≡ body_of (rule_view f.active.rule.now) is.rows (base_view d.base).next_var
  pub drafted : d.lines.draft ≡ Some (line_in (course_of d) (firing_line x.id.0 x.occurrence (resolved_atom (base_view d.base).subst (atom_at x)) (rule_view f.active.rule.now) f.active.place f.ids))

-- What comes of an active constraint: a Drop or a Default, whose line is there, or a firing that is ready, with nothing else that shows.
abbrev pub Turns : {A : Type 0} → CourseModel → ActiveConstraint A → Turn A → Course A → Type 0
Turns c x Drops d = (search_in c x.id.0 x.occurrence (atom_at x) ≡ no_occurrence) × (course_of d ≡ logged c.base (drops (resolved_atom c.base.subst (atom_at x)) x.id.0 x.occurrence) c)
Turns c x (Defaults j) d = (j ≡ x.occurrence + 1) × (search_in c x.id.0 x.occurrence (atom_at x) ≡ no_firing) × (course_of d ≡ logged c.base (defaults (resolved_atom c.base.subst (atom_at x)) x.id.0 x.occurrence) c)
Turns c x (Fires f) d = (course_of d ≡ c) × IsPrepared x f d

-- what is below the stack once a firing is made
module _ {A : Type 0} (f : Firing A) (d : Course A) where
  abbrev pub AreFired : CourseModel → Type 0
  AreFired new =
      (x : ActiveConstraint A) → IsPrepared x f d → (let c = course_of d in let rule = rule_view f.active.rule.now in
      new ≡ logged (fired_base c.base f.active.number rule f.ids) (firing_line x.id.0 x.occurrence (resolved_atom c.base.subst (atom_at x)) rule f.active.place f.ids) c)
