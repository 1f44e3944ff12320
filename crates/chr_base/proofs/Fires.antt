-- A firing that is entered, and constraints that are removed, keep the table in agreement.
use Rattle.std.proofs.Common.{◌≡◌, ◌∙◌, ◌+◌, ◌≤◌, ◌<◌, ◌==◌, ◌&&◌, ◌||◌, ℕ, Bool, true, false, true≢false, not, cond, nat_lt, List, [], ◌∷◌, ◌++◌, Option, Some, None, ap, arith, refl, subst, sym, inl, inr, ◌⊎◌}
use Rattle.std.specs.List.{list_all}
use Rattle.std.specs.Prelude.{filter, is_some, nat_le}
use Rattle.std.proofs.lemmas.Bool.{eq-eqb, lt-leb}
use Rattle.std.proofs.lemmas.Bool.Decides.{Decides-ltb}
use Rattle.chr_semantics.proofs.Lists.{list_all-more}
use Rattle.chr_semantics.proofs.Tests.{eqb_sym}
use Rattle.chr_semantics.specs.Changes.{Entries, Store, entered, removed, removed_as}
use Rattle.chr_semantics.specs.Match.{Row}
use Rattle.chr_semantics.specs.Program.{Atom}
use Rattle.chr_semantics.specs.Search.{History, atom_of, fired_before, same_ids}
use Rattle.chr_semantics.specs.State.{resolved_atom}
use Rattle.chr_semantics.specs.Subst.{Subst}
use Rattle.chr_find.specs.Shown.{Rises}
use Rattle.chr_find.specs.TableView.{atoms_with}
use Rattle.chr_find.proofs.FiredHistory.{same_ids_Decides}
use Rattle.chr_find.proofs.Lookups.{atom_if, filter_looked, rises_filter}
use Rattle.chr_base.specs.Agreement.{Agrees, is_alive, is_not_dead, under}
use Rattle.chr_store.proofs.FiredRows.{same_ids_sym}
use Rattle.chr_find.proofs.Numbers.{one_or}

-- the list of entries with one more
pub before_last : (l : History) (r : ℕ) (ids : List ℕ) (q : ℕ) (others : List ℕ) → fired_before (l ++ (r, ids) ∷ []) q others ≡ (fired_before l q others || r == q && same_ids ids others)
before_last [] r ids q others = or_false (r == q && same_ids ids others)
  where
    or_false : (b : Bool) → (b || false) ≡ b
    or_false true = refl
    or_false false = refl
before_last (f ∷ l) r ids q others = ap (λ (b : Bool). (f.0 == q && same_ids f.1 others) || b) (before_last l r ids q others) ∙ or_moved (f.0 == q && same_ids f.1 others) (fired_before l q others) (r == q && same_ids ids others)
  where
    or_moved : (b c d : Bool) → (b || (c || d)) ≡ ((b || c) || d)
    or_moved true c d = refl
    or_moved false c d = refl

pub and_right : (b c : Bool) → (b && c) ≡ true → c ≡ true
and_right true c e = e
and_right false c e = absurd (true≢false (sym e))

pub tests_turned : (q r : ℕ) (others ids : List ℕ) → (q == r && same_ids others ids) ≡ (r == q && same_ids ids others)
tests_turned q r others ids = (λ k. eqb_sym q r k && same_ids_sym others ids k)

module _ (m : Store) (h : Entries) (s : Subst) (at : ℕ → Option Atom) (stale : Bool) (agrees : Agrees m h s at stale) where
  alive_below : (i : ℕ) → is_alive m i ≡ true → nat_lt i m.next_id ≡ true
  alive_below i alive = by_test (nat_lt i m.next_id) refl
    where
      by_test : (b : Bool) → nat_lt i m.next_id ≡ b → b ≡ true
      by_test true e = refl
      by_test false e = absurd (true≢false (sym alive ∙ ap is_some (agrees.given i (grind (arith, e)))))

  module _ (r : ℕ) (ids : List ℕ) (alive : list_all (is_alive m) ids ≡ true) (is_new : fired_before h.list r ids ≡ false) where
    entries_are : entered h r ids ≡ record { list = h.list ++ (r, ids) ∷ []; stamps = λ n. h.stamps n + cond (r == n) 1 0 }
    entries_are = ap (λ (b : Bool). cond b h (record { list = h.list ++ (r, ids) ∷ []; stamps = λ n. h.stamps n + cond (r == n) 1 0 })) is_new

    list_is : (entered h r ids).list ≡ h.list ++ (r, ids) ∷ []
    list_is = ap (λ (e : Entries). e.list) entries_are

    all_below : (q : ℕ) (others : List ℕ) → (fired_before h.list q others ≡ true) ⊎ ((r == q && same_ids ids others) ≡ true) → list_all (λ i. nat_lt i m.next_id) others ≡ true
    all_below q others (inl e) = agrees.entered q others e
    all_below q others (inr e) =
        let same : ids ≡ others = (same_ids_Decides ids others).0 (and_right (r == q) (same_ids ids others) e) in
        subst (λ (l : List ℕ). list_all (λ i. nat_lt i m.next_id) l ≡ true) same (list_all-more (is_alive m) (λ i. nat_lt i m.next_id) ids alive_below alive)

    -- a firing is entered
    pub agrees_entered : Agrees m (entered h r ids) s at stale
    agrees_entered = record {
      rises = agrees.rises;
      given = agrees.given;
      entered = λ q others e. all_below q others (one_or (fired_before h.list q others) (r == q && same_ids ids others) (sym (before_last h.list r ids q others) ∙ (ap (λ (l : History). fired_before l q others) (sym list_is) ∙ e)));
      solved = agrees.solved;
      shown = agrees.shown;
      resolved = agrees.resolved;
    }

  module _ (i : ℕ) (a : Atom) (there : atom_of m.rows i ≡ Some a) where
    others : List Row
    others = filter (λ (r : Row). not (r.0 == i)) m.rows

    without : (j : ℕ) (o : Option Atom) (b : Bool) → (j == i) ≡ b → atom_if (λ (r : Row). not (r.0 == i)) j o ≡ cond b None o
    without j None true e = refl
    without j None false e = refl
    without j (Some x) true e = ap (λ (b : Bool). cond (not b) (Some x) None) e
    without j (Some x) false e = ap (λ (b : Bool). cond (not b) (Some x) None) e

    rows_are : (removed m i).rows ≡ filter (λ (r : Row). not (r.0 == i)) m.rows
    rows_are = ap (λ (o : Option Atom). (removed_as m i o).rows) there

    next_is : (removed m i).next_id ≡ m.next_id
    next_is = ap (λ (o : Option Atom). (removed_as m i o).next_id) there

    looked : (j : ℕ) → atom_of (removed m i).rows j ≡ cond (j == i) None (atom_of m.rows j)
    looked j = ap (λ (rows : List Row). atom_of rows j) rows_are ∙ (filter_looked (λ (r : Row). not (r.0 == i)) m.rows j agrees.rises ∙ without j (atom_of m.rows j) (j == i) refl)

    none_given : (b : Bool) (o : Option Atom) → o ≡ None → cond b None o ≡ None
    none_given true o e = refl
    none_given false o e = e

    under_either : (b : Bool) (x y : Option Atom) → under s x ≡ under s y → under s (cond b None x) ≡ under s (cond b None y)
    under_either true x y e = refl
    under_either false x y e = e

    under_cond : (b : Bool) (x : Option Atom) → cond b None (under s x) ≡ under s (cond b None x)
    under_cond true x = refl
    under_cond false x = refl

    some_either : (b : Bool) (o : Option Atom) → is_some (cond b None o) ≡ true → is_some o ≡ true
    some_either true o e = absurd (true≢false (sym e))
    some_either false o e = e

    -- the others are dead then if they were
    pub was_not_dead : (j : ℕ) → is_not_dead (removed m i) j ≡ true → is_not_dead m j ≡ true
    was_not_dead j e = or_more (is_alive (removed m i) j) (is_alive m j) (nat_le m.next_id j) (λ alive. some_either (j == i) (atom_of m.rows j) (ap is_some (sym (looked j)) ∙ alive)) (ap (λ (k : ℕ). is_alive (removed m i) j || nat_le k j) (sym next_is) ∙ e)
      where
        or_more : (b c d : Bool) → (b ≡ true → c ≡ true) → (b || d) ≡ true → (c || d) ≡ true
        or_more true c d h e = ap (λ (x : Bool). x || d) (h refl)
        or_more false true d h e = refl
        or_more false false d h e = e

    -- and it is dead
    pub is_dead : is_not_dead (removed m i) i ≡ false
    is_dead =
        let lt : i < m.next_id = (Decides-ltb i m.next_id).0 (alive_below i (ap is_some there)) in
        ap (λ (o : Option Atom). is_some o || nat_le (removed m i).next_id i) (looked i)
        ∙ (ap (λ (b : Bool). is_some (cond b None (atom_of m.rows i)) || nat_le (removed m i).next_id i) (eq-eqb i i refl) ∙ (ap (λ (k : ℕ). nat_le k i) next_is ∙ lt-leb m.next_id i lt))

    -- a constraint of the store is removed
    pub agrees_removed : (new : ℕ → Option Atom) → ((j : ℕ) → new j ≡ atoms_with at i None j) → Agrees (removed m i) h s new stale
    agrees_removed new same = record {
      rises = subst Rises (sym rows_are) (rises_filter (λ (r : Row). not (r.0 == i)) m.rows agrees.rises);
      given = λ j le. looked j ∙ none_given (j == i) (atom_of m.rows j) (agrees.given j (subst (λ (k : ℕ). k ≤ j) next_is le));
      entered = λ r ids e. subst (λ (k : ℕ). list_all (λ j. nat_lt j k) ids ≡ true) (sym next_is) (agrees.entered r ids e);
      solved = agrees.solved;
      shown = λ j. ap (under s) (same j) ∙ (under_either (j == i) (at j) (atom_of m.rows j) (agrees.shown j) ∙ ap (under s) (sym (looked j)));
      resolved = λ e j. same j ∙ (ap (λ (o : Option Atom). cond (j == i) None o) (agrees.resolved e j) ∙ (under_cond (j == i) (atom_of m.rows j) ∙ ap (under s) (sym (looked j))));
    }

-- what stands in the table stands in the store
pub standing_there : (s : Subst) (o p : Option Atom) (a : Atom) → under s o ≡ under s p → o ≡ Some a → (b : Atom) × (p ≡ Some b)
standing_there s o None a e f = absurd (some_none (resolved_atom s a) (ap (under s) (sym f) ∙ e))
  where
    some_none : (x : Atom) → ◌≡◌ {A = Option Atom} (Some x) None → ⊥
    some_none x e = cc
standing_there s o (Some b) a e f = (b, refl)
