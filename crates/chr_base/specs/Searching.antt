-- What a search of a base finds.
use Rattle.std.specs.Prelude.{◌≡◌, ℕ, All, List, Option, Some}
use Rattle.chr_rules.specs.RuleView.{rule_view}
use Rattle.chr_semantics.specs.Cursor.{IsSpent}
use Rattle.chr_semantics.specs.Match.{Row, fits}
use Rattle.chr_semantics.specs.Program.{Atom, Occurrence, Rule}
use Rattle.chr_semantics.specs.Search.{atom_of, ids_of}
use Rattle.chr_semantics.specs.State.{Element}
use Rattle.chr_semantics.specs.Step.{body_of}
use Rattle.chr_semantics.specs.Subst.{Subst}
use Rattle.chr_semantics.specs.Profile.{counted_of}
use Rattle.chr_find.specs.First.{IsFirst}
use Rattle.chr_find.specs.TriedView.{AreTried}
use Rattle.chr_find.specs.declared.active.Active.{Active}
use Rattle.chr_find.specs.declared.active.Cursor.{Cursor}
use Rattle.chr_find.specs.declared.tried.Tried.{Tried}
use Rattle.chr_base.specs.Model.{BaseModel, rows_of}

-- the occurrence at which a constraint is active
abbrev pub occurrence_of : {A : Type 0} → Active A → Occurrence
occurrence_of s = record { number = s.number; rule = rule_view s.rule.now; place = s.place }

module _ {A : Type 0} (b : BaseModel) (s : Active A) where
  -- for the active constraint, where it lives
  abbrev pub ForOwn : (Row → Type 0) → Type 0
  ForOwn P = (a : Atom) → atom_of (rows_of b) s.id.0 ≡ Some a → P (s.id.0, a)

  -- the first tuple that can fire
  abbrev pub FindsFirst : Option (List ℕ) → Type 0
  FindsFirst found = ForOwn (λ a. IsFirst (rows_of b) b.entries.list s.number (rule_view s.rule.now) s.place a found)

  -- the same tuple, where the tuples that can fire lie ahead of the cursor
  abbrev pub FindsNext : Cursor → Option (List ℕ) → Type 0
  FindsNext c found =
      ForOwn (λ a. IsSpent (rows_of b) b.entries.list s.number (rule_view s.rule.now) s.place a c.after c.from
      → IsFirst (rows_of b) b.entries.list s.number (rule_view s.rule.now) s.place a found)

  -- how many lists a search that begins anew looks at
  abbrev pub IsTried : Tried → Type 0
  IsTried = AreTried (λ count. counted_of count (rows_of b) b.entries.list s.id.0 (occurrence_of s) (atom_of (rows_of b) s.id.0))

-- the goals are those of the rule's body, where the constraints with these identities fit its heads
abbrev pub IsBodyFor : BaseModel → Rule → List ℕ → List Element → Type 0
IsBodyFor b rule ids goals =
    (t : List Row) → ids_of t ≡ ids → All (λ (r : Row). atom_of (rows_of b) r.0 ≡ Some r.1) t
    → (m : Subst) → fits rule.heads t ≡ Some m → goals ≡ body_of rule t b.next_var
