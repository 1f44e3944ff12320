-- Constraints that are to be removed, which stand in a table.
use Rattle.std.specs.Prelude.{◌≡◌, ℕ, List, [], ◌∷◌, Option, Some, map, reverse}
use Rattle.chr_semantics.specs.Program.{Atom}
use Rattle.chr_store.specs.Rows.{row_atom}
use Rattle.chr_base.specs.declared.firing.Leaving.{Leaving}

module _ {A : Type 0} where
  -- the identities, the last one first
  abbrev pub leaving_ids : List (Leaving A) → List ℕ
  leaving_ids ls = map (λ (l : Leaving A). l.id.0) (reverse ls)

  -- each row stands at its identity
  abbrev pub AreStanding : (ℕ → Option Atom) → List (Leaving A) → Type 0
  AreStanding at [] = Unit {0}
  AreStanding at (l ∷ ls) = (at l.id.0 ≡ Some (row_atom l.row)) × AreStanding at ls
