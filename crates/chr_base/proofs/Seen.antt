-- The constraints of a table as a list, and which of them have variables.
use Rattle.std.proofs.Common.{◌≡◌, ◌∙◌, ◌==◌, ◌<◌, ℕ, Bool, true, false, not, cond, List, [], ◌∷◌, map, Option, Some, None, ap, refl, arith}
use Rattle.std.specs.Prelude.{filter, option_map, unwrap_or}
use Rattle.std.proofs.lemmas.Bool.{eq-eqb, ne_eqb}
use Rattle.std.proofs.lemmas.Bool.Decides.{Decides-eqb}
use Rattle.chr_semantics.specs.Changes.{Store, woken}
use Rattle.chr_semantics.specs.Match.{Row}
use Rattle.chr_semantics.specs.Program.{Atom}
use Rattle.chr_semantics.specs.Search.{atom_of, ids_of}
use Rattle.chr_semantics.specs.State.{resolved_atom}
use Rattle.chr_semantics.specs.Subst.{Subst, instances, value_at}
use Rattle.chr_semantics.specs.Tree.{Trees, is_ground_trees}
use Rattle.chr_find.specs.Rebinding.{is_open, open_ids}
use Rattle.chr_find.specs.Shown.{AllOver, Rises}
use Rattle.chr_base.specs.Agreement.{under}

-- each row of the store with what stands at its identity
abbrev pub seen : (ℕ → Option Atom) → List Row → List Row
seen at rows = map (λ (r : Row). (r.0, unwrap_or (at r.0) r.1)) rows

over_seen : (at : ℕ → Option Atom) (n : ℕ) (rows : List Row) → AllOver n rows → AllOver n (seen at rows)
over_seen at n [] h = tt
over_seen at n (r ∷ rows) h = (h.0, over_seen at n rows h.1)

pub rises_seen : (at : ℕ → Option Atom) (rows : List Row) → Rises rows → Rises (seen at rows)
rises_seen at [] h = tt
rises_seen at (r ∷ rows) h = (over_seen at r.0 rows h.0, rises_seen at rows h.1)

looked_at : (at : ℕ → Option Atom) (r : Row) (i : ℕ) (b : Bool) (o p : Option Atom) → (r.0 == i) ≡ b → p ≡ option_map (unwrap_or (at i)) o → cond b (Some (unwrap_or (at r.0) r.1)) p ≡ option_map (unwrap_or (at i)) (cond b (Some r.1) o)
looked_at at r i true o p is e = ap (λ (j : ℕ). Some (unwrap_or (at j) r.1)) ((Decides-eqb r.0 i).0 is)
looked_at at r i false o p is e = e

looked_seen : (at : ℕ → Option Atom) (rows : List Row) (i : ℕ) → atom_of (seen at rows) i ≡ option_map (unwrap_or (at i)) (atom_of rows i)
looked_seen at [] i = refl
looked_seen at (r ∷ rows) i = looked_at at r i (r.0 == i) (atom_of rows i) (atom_of (seen at rows) i) refl (looked_seen at rows i)

-- where both are there or neither is
there : (s : Subst) (o p : Option Atom) → under s o ≡ under s p → option_map (unwrap_or o) p ≡ o
there s None None e = refl
there s None (Some a) e = absurd (none_some (resolved_atom s a) e)
  where
    none_some : (x : Atom) → ◌≡◌ {A = Option Atom} None (Some x) → ⊥
    none_some x e = cc
there s (Some a) None e = absurd (some_none (resolved_atom s a) e)
  where
    some_none : (x : Atom) → ◌≡◌ {A = Option Atom} (Some x) None → ⊥
    some_none x e = cc
there s (Some a) (Some b) e = refl

pub seen_atoms : (s : Subst) (at : ℕ → Option Atom) (rows : List Row) → ((i : ℕ) → under s (at i) ≡ under s (atom_of rows i)) → (i : ℕ) → atom_of (seen at rows) i ≡ at i
seen_atoms s at rows shown i = looked_seen at rows i ∙ there s (at i) (atom_of rows i) (shown i)

-- the rows of a list that rises are looked up in it
abbrev AreLooked : List Row → List Row → Type 0
AreLooked all [] = Unit {0}
AreLooked all (r ∷ rows) = (atom_of all r.0 ≡ Some r.1) × AreLooked all rows

looked_later : (x : Row) (all rows : List Row) → AllOver x.0 rows → AreLooked all rows → AreLooked (x ∷ all) rows
looked_later x all [] h k = tt
looked_later x all (r ∷ rows) h k = (ap (λ (b : Bool). cond b (Some x.1) (atom_of all r.0)) (ne_eqb x.0 r.0 (λ e. apart h.0 e)) ∙ k.0, looked_later x all rows h.1 k.1)
  where
    apart : x.0 < r.0 → x.0 ≡ r.0 → ⊥
    apart lt e = omega (arith, lt, e)

looked_all : (rows : List Row) → Rises rows → AreLooked rows rows
looked_all [] h = tt
looked_all (r ∷ rows) h = (ap (λ (b : Bool). cond b (Some r.1) (atom_of rows r.0)) (eq-eqb r.0 r.0 refl), looked_later r rows rows h.0 (looked_all rows h.1))

same_under : (s : Subst) (o : Option Atom) (a : Atom) → under s o ≡ Some (resolved_atom s a) → instances (value_at s) (unwrap_or o a).args ≡ instances (value_at s) a.args
same_under s None a e = refl
same_under s (Some b) a e = ap (λ (x : Atom). x.args) (some_same (resolved_atom s b) (resolved_atom s a) e)
  where
    some_same : (x y : Atom) → ◌≡◌ {A = Option Atom} (Some x) (Some y) → x ≡ y
    some_same x y e = cc

kept_ids : (b c : Bool) (r : Row) (x : Atom) (xs ys : List Row) → b ≡ c → ids_of xs ≡ ids_of ys → ids_of (cond b ((r.0, x) ∷ xs) xs) ≡ ids_of (cond c (r ∷ ys) ys)
kept_ids true true r x xs ys e f = ap (λ (l : List ℕ). r.0 ∷ l) f
kept_ids false false r x xs ys e f = f
kept_ids true false r x xs ys e f = absurd (differ e)
  where
    differ : ◌≡◌ {A = Bool} true false → ⊥
    differ e = cc
kept_ids false true r x xs ys e f = absurd (differ e)
  where
    differ : ◌≡◌ {A = Bool} false true → ⊥
    differ e = cc

module _ (s : Subst) (at : ℕ → Option Atom) (all : List Row) (shown : (i : ℕ) → under s (at i) ≡ under s (atom_of all i)) where
  open_seen : (rows : List Row) → AreLooked all rows → open_ids s (seen at rows) ≡ ids_of (filter (λ (r : Row). not (is_ground_trees (instances (value_at s) r.1.args))) rows)
  open_seen [] h = refl
  open_seen (r ∷ rows) h =
      kept_ids (is_open s (r.0, unwrap_or (at r.0) r.1)) (not (is_ground_trees (instances (value_at s) r.1.args))) r (unwrap_or (at r.0) r.1) _ _
      (ap (λ (ts : Trees). not (is_ground_trees ts)) (same_under s (at r.0) r.1 (shown r.0 ∙ ap (under s) h.0))) (open_seen rows h.1)

-- those that have variables are those that wake

pub woken_seen : (s : Subst) (at : ℕ → Option Atom) (m : Store) → Rises m.rows → ((i : ℕ) → under s (at i) ≡ under s (atom_of m.rows i)) → open_ids s (seen at m.rows) ≡ woken m s
woken_seen s at m rises shown = open_seen s at m.rows shown m.rows (looked_all m.rows rises)
