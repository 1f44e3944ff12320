-- How a table stands to the constraints and their bindings.
use Rattle.std.specs.Prelude.{◌≡◌, ◌≤◌, ◌||◌, ℕ, Bool, true, false, nat_le, nat_lt, List, [], ◌∷◌, Option, None, is_some, option_map}
use Rattle.std.specs.Coded.{×_prop, Unit-prop, le_prop}
use Rattle.std.specs.List.{list_all}
use Rattle.std.proofs.Props.{props}
use Rattle.chr_semantics.specs.Changes.{Entries, Store}
use Rattle.chr_semantics.specs.Program.{Atom}
use Rattle.chr_semantics.specs.Search.{atom_of, fired_before}
use Rattle.chr_semantics.specs.State.{resolved_atom}
use Rattle.chr_semantics.specs.Subst.{IsSolved, Subst}
use Rattle.chr_find.specs.AtomCode.{atoms}
use Rattle.chr_find.specs.Shown.{AllOver, Rises}
use Rattle.chr_semantics.specs.Match.{Row}

-- the constraint of an identity is in the store
abbrev pub is_alive : Store → ℕ → Bool
is_alive m i = is_some (atom_of m.rows i)

-- or is yet to come
abbrev pub is_not_dead : Store → ℕ → Bool
is_not_dead m i = is_alive m i || nat_le m.next_id i

-- with the bindings applied
abbrev pub under : Subst → Option Atom → Option Atom
under s = option_map (resolved_atom s)

-- The identities of the store ascend and are below the next one, and so are those of the history. The table has the constraints, which
-- the bindings bring to what the store has, and has brought there already unless it is stale.
pub record Agrees (m : Store) (h : Entries) (s : Subst) (at : ℕ → Option Atom) (stale : Bool) : Type 0 where
  pub rises : Rises m.rows
  pub given : (i : ℕ) → m.next_id ≤ i → atom_of m.rows i ≡ None
  pub entered : (r : ℕ) (ids : List ℕ) → fired_before h.list r ids ≡ true → list_all (λ i. nat_lt i m.next_id) ids ≡ true
  pub solved : IsSolved s
  pub shown : (i : ℕ) → under s (at i) ≡ under s (atom_of m.rows i)
  pub resolved : stale ≡ false → (i : ℕ) → at i ≡ under s (atom_of m.rows i)

-- each of these facts has one proof at most
AllOver-prop : (n : ℕ) (rows : List Row) → IsProp (AllOver n rows)
AllOver-prop n [] = Unit-prop
AllOver-prop n (c ∷ rows) = ×_prop le_prop (AllOver-prop n rows)

pub Rises-prop : (rows : List Row) → IsProp (Rises rows)
Rises-prop [] = Unit-prop
Rises-prop (c ∷ rows) = ×_prop (AllOver-prop c.0 rows) (Rises-prop rows)

-- the set for `by { Prim.hlevel agreements }` after a ghost field that says `Agrees`
pub ruleset agreements = (Rises-prop, atoms, props)
