-- What the search of a table finds.
use Rattle.std.specs.Prelude.{◌≡◌, ◌+◌, ℕ, List, [], Option, Some, is_some, slice_get}
use Rattle.chr_rules.specs.RuleView.{rule_view}
use Rattle.chr_semantics.specs.Cursor.{IsSpent}
use Rattle.chr_semantics.specs.Join.{own_joined}
use Rattle.chr_semantics.specs.Match as semantics
use Rattle.chr_semantics.specs.Program.{Atom, Head, Rule}
use Rattle.chr_semantics.specs.Search.{History}
use Rattle.chr_semantics.specs.Trail.{own_trail}
use Rattle.chr_semantics.specs.Tries.{capped, tried_tuples}
use Rattle.chr_find.specs.Finds.{Finds}
use Rattle.chr_find.specs.First.{IsFirst}
use Rattle.chr_find.specs.Partial.{Counts}
use Rattle.chr_find.specs.Threshold.{Threshold, passed}
use Rattle.chr_find.specs.Joins.{IsQuiet}
use Rattle.chr_find.specs.PlanView.{lookups_of}
use Rattle.chr_find.specs.Shown.{ForRows}
use Rattle.chr_find.specs.TableView.{HasRows, atom_at}
use Rattle.chr_find.specs.TriedView.{AreTried}
use Rattle.chr_find.specs.declared.active.Active.{Active}
use Rattle.chr_find.specs.declared.active.Cursor.{Cursor}
use Rattle.chr_find.specs.declared.table.Table.{Table}
use Rattle.chr_find.specs.declared.tried.Tried.{Tried}

abbrev pub rule_of : {A : Type 0} → Active A → Rule
rule_of s = rule_view s.rule.now

module _ {A : Type 0} (h : History) (t : Table A) (s : Active A) where
  -- for the constraints of the table, where the active one is among them
  abbrev pub ForOwn : (List semantics.Row → semantics.Row → Type 0) → Type 0
  ForOwn P = (rows : List semantics.Row) → HasRows t rows → (a : Atom) → atom_at t s.id.0 ≡ Some a → P rows (s.id.0, a)

  -- what the join finds in the lists, where from the quiet head on no constraint is new
  abbrev pub FindsJoined : ℕ → ℕ → Threshold → Option (List ℕ) → ℕ → ℕ → Type 0
  FindsJoined from quiet threshold found told now =
      (a : Atom) → atom_at t s.id.0 ≡ Some a → (x : Head) → slice_get (rule_of s).heads s.place ≡ Some x
      → ForRows (lookups_of t.index.plan) t.index.rows (λ rows. IsQuiet rows (rule_of s).heads s.place s.id.0 from quiet
      → Finds h s.number (rule_of s).guard [] (passed from threshold (own_joined rows (rule_of s) s.place x (s.id.0, a))) found told now)

  -- how many partial lists of it fit
  abbrev pub FitsJoined : Option (List ℕ) → ℕ → ℕ → Type 0
  FitsJoined found told now =
      (a : Atom) → atom_at t s.id.0 ≡ Some a → (x : Head) → slice_get (rule_of s).heads s.place ≡ Some x
      → ForRows (lookups_of t.index.plan) t.index.rows (λ rows. Counts h s.number (rule_of s).guard [] (own_trail rows (rule_of s) s.place x (s.id.0, a)) (is_some found) told now)

  -- the first tuple that can fire, and the tries of the definitions
  abbrev pub FindsFirst : Option (List ℕ) → ℕ → ℕ → Type 0
  FindsFirst found told now = ForOwn (λ rows a. IsFirst rows h s.number (rule_of s) s.place a found × (now ≡ capped (told + tried_tuples rows h s.number (rule_of s) s.place a)))

  -- the same tuple, where the tuples that can fire lie ahead of the cursor
  abbrev pub FindsNext : Cursor → Option (List ℕ) → Type 0
  FindsNext c found = ForOwn (λ rows a. IsSpent rows h s.number (rule_of s) s.place a c.after c.from → IsFirst rows h s.number (rule_of s) s.place a found)

  -- the tries and the partial lists of the definitions
  abbrev pub HasTried : Tried → Type 0
  HasTried tried = ForOwn (λ rows a. AreTried (λ count. capped (count rows h s.number (rule_of s) s.place a)) tried)
