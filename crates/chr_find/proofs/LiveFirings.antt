-- The rows of a table that live.
use Rattle.std.proofs.Common.{◌≡◌, ◌∙◌, ◌==◌, ℕ, Bool, true, false, cond, List, [], ◌∷◌, ap, refl, sym}
use Rattle.std.specs.List.{list_all}
use Rattle.std.specs.Prelude.{Option, Some, is_some}
use Rattle.std.proofs.lemmas.Bool.{and_from, eq-eqb}
use Rattle.chr_semantics.proofs.Lists.{list_all-more}
use Rattle.chr_semantics.specs.Match as semantics
use Rattle.chr_semantics.specs.Program.{Atom}
use Rattle.chr_semantics.specs.Search.{History, atom_of}
use Rattle.chr_find.specs.FiringHistory.{IsLike}
use Rattle.chr_find.specs.TableView.{HasRows, atom_at, lives}
use Rattle.chr_find.specs.declared.table.Table.{Table}

first_some : (b : Bool) (a : Atom) (o : Option Atom) → b ≡ true → is_some (cond b (Some a) o) ≡ true
first_some b a o e = rw e refl

later_some : (b : Bool) (a : Atom) (o : Option Atom) → is_some o ≡ true → is_some (cond b (Some a) o) ≡ true
later_some true a o e = refl
later_some false a o e = e

abbrev pub live_in : List semantics.Row → ℕ → Bool
live_in rows i = is_some (atom_of rows i)

pub all_live : (rows : List semantics.Row) → list_all (λ (c : semantics.Row). live_in rows c.0) rows ≡ true
all_live [] = refl
all_live (x ∷ xs) =
    and_from (live_in (x ∷ xs) x.0) _ (first_some (x.0 == x.0) x.1 (atom_of xs x.0) (eq-eqb x.0 x.0 refl))
    (list_all-more (λ (y : semantics.Row). live_in xs y.0) (λ (y : semantics.Row). live_in (x ∷ xs) y.0) xs (λ y h. later_some (x.0 == y.0) x.1 (atom_of xs y.0) h) (all_live xs))

module _ {A : Type 0} (t : Table A) (rows : List semantics.Row) (has : HasRows t rows) where
  pub own_live : (i : ℕ) (a : Atom) → atom_at t i ≡ Some a → live_in rows i ≡ true
  own_live i a e = ap is_some (has.same i ∙ e)

  -- histories that are alike for the table are alike for its rows
  pub agree : (k h : History) → IsLike (lives t) k h → IsLike (live_in rows) k h
  agree k h alike r ids live = alike r ids (list_all-more (live_in rows) (lives t) ids (λ i e. sym (ap is_some (has.same i)) ∙ e) live)
