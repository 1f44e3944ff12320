-- What is taken of rows and of a history.
use Rattle.std.specs.Prelude.{◌≡◌, Bool, ℕ, true, false, not, ◌==◌, ◌&&◌, List, Option, None, Some, filter, is_some, map}
use Rattle.std.specs.List.{list_all}
use Rattle.chr_rules.specs.RuleView.{rule_view}
use Rattle.chr_semantics.specs.Keys.{clashes}
use Rattle.chr_semantics.specs.Match as semantics
use Rattle.chr_semantics.specs.Program.{Occurrence}
use Rattle.chr_semantics.specs.Search.{History, atom_of, live_entries}
use Rattle.chr_semantics.specs.State.{resolved_atom}
use Rattle.chr_semantics.specs.Subst.{Subst}
use Rattle.chr_find.specs.declared.scope.Scope.{Scope}
use Rattle.chr_find.specs.declared.scope.Scope.TheVariants.{Nothing, Rule, Whole}

-- the rows with a substitution applied
abbrev pub rows_under : Subst → List semantics.Row → List semantics.Row
rows_under s rows = map (λ (c : semantics.Row). (c.0, resolved_atom s c.1)) rows

module _ {A : Type 0} where
  abbrev pub keeps_row : Scope A → semantics.Row → Bool
  keeps_row Nothing c = false
  keeps_row (Rule n r) c = not (clashes (rule_view r.now) c)
  keeps_row Whole c = true

  abbrev pub keeps_rule : Scope A → ℕ → Bool
  keeps_rule Nothing n = false
  keeps_rule (Rule m r) n = n == m
  keeps_rule Whole n = true

  abbrev pub rows_kept : Scope A → Subst → List semantics.Row → List semantics.Row
  rows_kept scope s rows = filter (keeps_row scope) (rows_under s rows)

  -- the entry is of a rule that is kept, and its identities all have rows
  abbrev pub takes : Scope A → List semantics.Row → ℕ × List ℕ → Bool
  takes scope rows f = keeps_rule scope f.0 && list_all (λ i. is_some (atom_of rows i)) f.1

  -- the entries whose identities all have rows
  abbrev pub entries_kept : Scope A → List semantics.Row → History → History
  entries_kept scope rows h = filter (λ (f : ℕ × List ℕ). keeps_rule scope f.0) (live_entries rows h)

  -- it is that of the occurrence
  abbrev pub IsScope : Option Occurrence → Scope A → Type 0
  IsScope None Nothing = Unit {0}
  IsScope None (Rule n r) = ⊥
  IsScope None Whole = ⊥
  IsScope (Some o) Nothing = ⊥
  IsScope (Some o) (Rule n r) = (n ≡ o.number) × (rule_view r.now ≡ o.rule)
  IsScope (Some o) Whole = ⊥
