-- Tables in which no constraint has variables.
use Rattle.std.proofs.Common.{◌≡◌, ◌∙◌, ◌==◌, ◌<◌, ◌||◌, ℕ, Bool, true, false, not, cond, List, [], ◌∷◌, ap, arith, refl, subst, sym}
use Rattle.std.specs.Prelude.{Option, Some, None, filter, option_map}
use Rattle.std.proofs.lemmas.Bool.{eq-eqb, ne_eqb, not-false}
use Rattle.std.proofs.lemmas.Bool.Decides.{Decides-eqb}
use Rattle.chr_map.specs.Order.{Ascends}
use Rattle.chr_semantics.specs.Match as semantics
use Rattle.chr_semantics.specs.Program.{Atom}
use Rattle.chr_semantics.specs.Search.{atom_of, ids_of}
use Rattle.chr_semantics.specs.State.{resolved_atom}
use Rattle.chr_semantics.specs.Subst.{Subst}
use Rattle.chr_semantics.specs.Tree.{is_ground_trees}
use Rattle.chr_find.specs.IdRows.{id_cmp}
use Rattle.chr_find.specs.IndexKeys.{rows_in}
use Rattle.chr_find.specs.PlanView.{lookups_of}
use Rattle.chr_find.specs.Rebinding.{Replaces, is_open, open_ids}
use Rattle.chr_find.specs.Shown.{AllOver, AreGround, Rises, atom_in, walk}
use Rattle.chr_find.specs.TableView.{IsWhole, atom_at, atoms_with}
use Rattle.chr_find.specs.declared.bucket.Bucket.TheVariants.{Open}
use Rattle.chr_find.specs.declared.rebinding.Replaced.{Replaced}
use Rattle.chr_find.specs.declared.table.Table.{Table}
use Rattle.chr_find.proofs.MadeWhole.{closed_stays, ground_same, open_looked}

-- the same constraints
pub ground_alike : (f k : ℕ → Option Atom) → ((i : ℕ) → k i ≡ f i) → AreGround f → AreGround k
ground_alike f k same h i a e = h i a (sym (same i) ∙ e)

-- none at all
pub ground_nowhere : (f : ℕ → Option Atom) → ((i : ℕ) → f i ≡ None) → AreGround f
ground_nowhere f none i a e = absurd (none_some (sym (none i) ∙ e))
  where
    none_some : ◌≡◌ {A = Option Atom} None (Some a) → ⊥
    none_some e = cc

-- one of them changed
pub ground_with : (f : ℕ → Option Atom) (n : ℕ) (o : Option Atom) → ((a : Atom) → o ≡ Some a → is_ground_trees a.args ≡ true) → AreGround f → AreGround (atoms_with f n o)
ground_with f n o new h i a = by_test (i == n)
  where
    by_test : (b : Bool) → cond b o (f i) ≡ Some a → is_ground_trees a.args ≡ true
    by_test true e = new a e
    by_test false e = h i a e

-- or taken out
pub ground_without : (f : ℕ → Option Atom) (n : ℕ) → AreGround f → AreGround (atoms_with f n None)
ground_without f n h = ground_with f n None (λ a e. cc) h

-- one more, where neither it nor the others have variables
pub ground_added : (f : ℕ → Option Atom) (n : ℕ) (a : Atom) (others new : Bool) → (others ≡ false → AreGround f) → new ≡ not (is_ground_trees a.args) → (others || new) ≡ false → AreGround (atoms_with f n (Some a))
ground_added f n a true new h is e = cc
ground_added f n a false new h is e = ground_with f n (Some a) (λ b same. ap (λ (x : Atom). is_ground_trees x.args) (sym (some_is a b same)) ∙ not-false (is_ground_trees a.args) (sym is ∙ e)) (h refl)
  where
    some_is : (x y : Atom) → ◌≡◌ {A = Option Atom} (Some x) (Some y) → x ≡ y
    some_is x y e = cc

-- bindings leave them as they are
pub ground_stays : (s : Subst) (f : ℕ → Option Atom) → AreGround f → (i : ℕ) → f i ≡ option_map (resolved_atom s) (f i)
ground_stays s f h i = by_case (f i) refl
  where
    by_case : (o : Option Atom) → f i ≡ o → o ≡ option_map (resolved_atom s) o
    by_case None e = refl
    by_case (Some a) e = ap (λ (x : Atom). Some x) (sym (ground_same s a (h i a e)))

found_over : (n i : ℕ) (a : Atom) (rows : List semantics.Row) → AllOver n rows → atom_of rows i ≡ Some a → n < i
found_over n i a [] h e = cc
found_over n i a (c ∷ rows) h e = by_test (c.0 == i) refl (found_over n i a rows h.1) e
  where
    by_test : (b : Bool) → (c.0 == i) ≡ b → (atom_of rows i ≡ Some a → n < i) → cond b (Some c.1) (atom_of rows i) ≡ Some a → n < i
    by_test true is go at = let same : c.0 ≡ i = (Decides-eqb c.0 i).0 is in omega (arith, h.0, same)
    by_test false is go at = go at

-- and none is among those with variables
pub ground_none_open : (s : Subst) (rows : List semantics.Row) → Rises rows → AreGround (atom_of rows) → open_ids s rows ≡ []
ground_none_open s [] up h = refl
ground_none_open s (c ∷ rows) up h =
    let closed : is_open s c ≡ false = closed_stays s c (ap not (h c.0 c.1 (ap (λ (b : Bool). cond b (Some c.1) (atom_of rows c.0)) (eq-eqb c.0 c.0 refl)))) in
    let others : AreGround (atom_of rows) =
    λ i a e. let less = found_over c.0 i a rows up.0 e in h i a (ap (λ (b : Bool). cond b (Some c.1) (atom_of rows i)) (ne_eqb c.0 i (λ (same : c.0 ≡ i). omega (arith, less, same))) ∙ e) in
    ap (λ (b : Bool). ids_of (cond b (c ∷ filter (is_open s) rows) (filter (is_open s) rows))) closed ∙ ground_none_open s rows up.1 others

-- no row is replaced
pub none_replaced : {A : Type 0} (f : ℕ → Option Atom) (rs : List (Replaced A)) → rs ≡ [] → Replaces f rs
none_replaced f rs e = subst (λ (l : List (Replaced _)). Replaces f l) (sym e) (record { rises = tt; there = tt })

-- a table whose list of rows with variables is empty
module _ {A : Type 0} (t : Table A) (whole : IsWhole t) (up : Ascends id_cmp (rows_in t.index.rows Open)) where
  pub none_open : walk Open t.index.rows ≡ [] → AreGround (atom_at t)
  none_open empty i a e =
      by_test (is_ground_trees a.args) (ap (λ (o : Option Atom). atom_in Open (lookups_of t.index.plan) o) (sym e) ∙ (sym (open_looked t whole up i) ∙ ap (λ (rows : List semantics.Row). atom_of rows i) empty))
    where
      by_test : (b : Bool) → cond (not b) (Some a) None ≡ None → b ≡ true
      by_test true e = refl
      by_test false e = cc
