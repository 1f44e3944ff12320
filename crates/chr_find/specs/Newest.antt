-- The newest constraint of a table, which stands beside the lists.
use Rattle.std.specs.Prelude.{◌≡◌, ◌==◌, ℕ, Option, Some, None, cond}
use Rattle.chr_semantics.specs.Program.{Atom}
use Rattle.chr_store.specs.Rows.{row_atom}
use Rattle.chr_find.specs.declared.constraint.Constraint.{Constraint}

module _ {A : Type 0} where
  -- with the newest constraint, if there is one
  abbrev pub with_newest : Option (Constraint A) → (ℕ → Option Atom) → ℕ → Option Atom
  with_newest None f = f
  with_newest (Some s) f = λ i. cond (i == s.id.0) (Some (row_atom s.row)) (f i)

  -- the newest constraint has no other at its identity
  abbrev pub IsApart : Option (Constraint A) → (ℕ → Option Atom) → Type 0
  IsApart o f = (s : Constraint A) → o ≡ Some s → f s.id.0 ≡ None

  -- it is not the one with the identity
  abbrev pub IsNot : Option (Constraint A) → ℕ → Type 0
  IsNot o i = (s : Constraint A) → o ≡ Some s → s.id.0 ≡ i → ⊥

  -- it is
  pub record IsThe (o : Option (Constraint A)) (i : ℕ) : Type 0 where
    pub newest : Constraint A
    pub is : o ≡ Some newest
    pub id : newest.id.0 ≡ i
