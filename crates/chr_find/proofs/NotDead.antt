-- Identities of which none is that of a dead constraint.
use Rattle.std.proofs.Common.{◌≡◌, ◌∙◌, ◌==◌, ◌||◌, ℕ, Bool, true, false, cond, List, ap, arith, refl, sym}
use Rattle.std.specs.List.{list_all}
use Rattle.std.specs.Prelude.{Option, Some, is_some, nat_le}
use Rattle.std.proofs.lemmas.Bool.{le-leb, or_left, or_right}
use Rattle.std.proofs.lemmas.Bool.Decides.{Decides-eqb}
use Rattle.chr_semantics.proofs.Lists.{list_all-more}
use Rattle.chr_semantics.specs.Program.{Atom}
use Rattle.chr_find.specs.SnapshotView.{is_not_dead}
use Rattle.chr_find.specs.TableView.{atom_at, lives}
use Rattle.chr_find.specs.declared.table.Table.{Table}

module _ {A : Type 0} (t : Table A) (n : ℕ) where
  -- who lives is not dead
  pub live_not_dead : (ids : List ℕ) → list_all (lives t) ids ≡ true → list_all (is_not_dead t n) ids ≡ true
  live_not_dead ids = list_all-more (lives t) (is_not_dead t n) ids (λ i e. or_left (lives t i) (nat_le n i) e)

  -- the same constraints live
  pub not_dead_alike : (u : Table A) → ((i : ℕ) → atom_at u i ≡ atom_at t i) → (ids : List ℕ) → list_all (is_not_dead u n) ids ≡ true → list_all (is_not_dead t n) ids ≡ true
  not_dead_alike u same ids = list_all-more (is_not_dead u n) (is_not_dead t n) ids (λ i e. ap (λ (o : Option Atom). is_some o || nat_le n i) (sym (same i)) ∙ e)

  -- and one more under the next identity
  pub guest_not_dead : (u : Table A) (k : ℕ) (a : Atom) → k ≡ n → ((i : ℕ) → atom_at u i ≡ cond (i == k) (Some a) (atom_at t i)) → (ids : List ℕ) → list_all (lives u) ids ≡ true → list_all (is_not_dead t n) ids ≡ true
  guest_not_dead u k a next same ids = list_all-more (lives u) (is_not_dead t n) ids (λ i e. by_test i (i == k) refl (ap is_some (sym (same i)) ∙ e))
    where
      by_test : (i : ℕ) (b : Bool) → (i == k) ≡ b → is_some (cond b (Some a) (atom_at t i)) ≡ true → is_not_dead t n i ≡ true
      by_test i true at e = let is : i ≡ k = (Decides-eqb i k).0 at in or_right (lives t i) (nat_le n i) (le-leb n i (omega (arith, is, next)))
      by_test i false at e = or_left (lives t i) (nat_le n i) e
