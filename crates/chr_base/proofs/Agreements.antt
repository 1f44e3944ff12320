-- Changes that keep the table in agreement.
use Rattle.std.proofs.Common.{◌≡◌, ◌∙◌, ◌<◌, ◌≤◌, ◌+◌, ◌==◌, ◌||◌, ℕ, Bool, true, false, true≢false, cond, nat_lt, List, [], ◌∷◌, Option, Some, None, ap, refl, subst, sym, arith}
use Rattle.std.specs.List.{list_all}
use Rattle.std.specs.Prelude.{is_some, nat_le}
use Rattle.std.proofs.lemmas.Bool.{and_from, and_parts, leb-false, lt-leb, ne_eqb}
use Rattle.std.proofs.lemmas.Bool.Decides.{Decides-ltb}
use Rattle.chr_semantics.specs.Changes.{Entries, Store, added, empty_store, no_entries, rebound}
use Rattle.chr_semantics.specs.Program.{Atom}
use Rattle.chr_semantics.specs.Search.{atom_of}
use Rattle.chr_semantics.specs.State.{resolved_atom}
use Rattle.chr_semantics.specs.Subst.{IsSolved, Solves, Subst, instances, value_at}
use Rattle.chr_semantics.specs.Tree.{Trees, none, more}
use Rattle.chr_semantics.proofs.Instances.{instance-solves}
use Rattle.chr_semantics.proofs.SolvedLaw.{nothing_solved, solved_law}
use Rattle.chr_find.specs.Shown.{Rises}
use Rattle.chr_semantics.specs.Match.{Row}
use Rattle.chr_find.specs.TableView.{atoms_with}
use Rattle.chr_find.proofs.SnapshotGuest.{looked_guest, rises_guest}
use Rattle.chr_base.specs.Agreement.{Agrees, is_alive, is_not_dead, under}

-- terms under what solves the bindings
instances-solve : (f : ℕ → _) (s : Subst) → Solves f s → (ts : Trees) → instances f (instances (value_at s) ts) ≡ instances f ts
instances-solve f s h none = refl
instances-solve f s h (more t ts) = cc (instance-solves f s h t, instances-solve f s h ts)

atom_again : (r s : Subst) → Solves (value_at r) s → (a : Atom) → resolved_atom r (resolved_atom s a) ≡ resolved_atom r a
atom_again r s h a = ap (λ (ts : Trees). record { sym = a.sym; args = ts }) (instances-solve (value_at r) s h a.args)

pub under_again : (r s : Subst) → Solves (value_at r) s → (o : Option Atom) → under r (under s o) ≡ under r o
under_again r s h None = refl
under_again r s h (Some a) = ap Some (atom_again r s h a)

pub under_twice : (s : Subst) → IsSolved s → (o : Option Atom) → under s (under s o) ≡ under s o
under_twice s h o = under_again s s (solved_law.twice s h) o

under_none : (s : Subst) (o : Option Atom) → under s o ≡ None → o ≡ None
under_none s None e = refl
under_none s (Some a) e = absurd (some_none (resolved_atom s a) e)
  where
    some_none : (a : Atom) → ◌≡◌ {A = Option Atom} (Some a) None → ⊥
    some_none a e = cc

-- at the start
pub agrees_empty : (m : Store) (h : Entries) (s : Subst) (at : ℕ → Option Atom) → m ≡ empty_store → h ≡ no_entries → s ≡ [] → ((i : ℕ) → at i ≡ None) → Agrees m h s at false
agrees_empty m h s at store entries subst_is nothing =
    subst (λ (n : Store). Agrees n h s at false) (sym store)
    (subst (λ (k : Entries). Agrees empty_store k s at false) (sym entries)
    (subst (λ (r : Subst). Agrees empty_store no_entries r at false) (sym subst_is)
    (record {
      rises = tt;
      given = λ i le. refl;
      entered = λ r ids e. absurd (true≢false (sym e));
      solved = nothing_solved;
      shown = λ i. ap (under []) (nothing i);
      resolved = λ e i. nothing i;
    })))

module _ (m : Store) (h : Entries) (s : Subst) (at : ℕ → Option Atom) (stale : Bool) (agrees : Agrees m h s at stale) where
  -- where the table shows the same
  pub agrees_same : (new : ℕ → Option Atom) → ((i : ℕ) → new i ≡ at i) → Agrees m h s new stale
  agrees_same new same = record {
    rises = agrees.rises;
    given = agrees.given;
    entered = agrees.entered;
    solved = agrees.solved;
    shown = λ i. ap (under s) (same i) ∙ agrees.shown i;
    resolved = λ e i. same i ∙ agrees.resolved e i;
  }

  -- where the store has the same constraints and the same next identity
  pub agrees_store : (n : Store) → n.rows ≡ m.rows → n.next_id ≡ m.next_id → Agrees n h s at stale
  agrees_store n same next = record {
    rises = subst Rises (sym same) agrees.rises;
    given = λ i le. ap (λ (rows : List Row). atom_of rows i) same ∙ agrees.given i (subst (λ (k : ℕ). k ≤ i) next le);
    entered = λ r ids e. subst (λ (k : ℕ). list_all (λ i. nat_lt i k) ids ≡ true) (sym next) (agrees.entered r ids e);
    solved = agrees.solved;
    shown = λ i. agrees.shown i ∙ ap (λ (rows : List Row). under s (atom_of rows i)) (sym same);
    resolved = λ e i. agrees.resolved e i ∙ ap (λ (rows : List Row). under s (atom_of rows i)) (sym same);
  }

  -- where symbols are touched
  pub agrees_touched : (ids : List ℕ) → Agrees (rebound m ids) h s at stale
  agrees_touched [] = agrees
  agrees_touched (i ∷ ids) = agrees_store (rebound m (i ∷ ids)) refl refl

  -- where more is bound
  pub agrees_bound : (r : Subst) → IsSolved r → Solves (value_at r) s → Agrees m h r at true
  agrees_bound r solved again = record {
    rises = agrees.rises;
    given = agrees.given;
    entered = agrees.entered;
    solved = solved;
    shown = λ i. sym (under_again r s again (at i)) ∙ (ap (under r) (agrees.shown i) ∙ under_again r s again (atom_of m.rows i));
    resolved = λ e i. absurd (true≢false e);
  }

  -- where the bindings are applied
  pub agrees_fresh : (new : ℕ → Option Atom) → ((i : ℕ) → new i ≡ under s (at i)) → Agrees m h s new false
  agrees_fresh new same = record {
    rises = agrees.rises;
    given = agrees.given;
    entered = agrees.entered;
    solved = agrees.solved;
    shown = λ i. ap (under s) (same i) ∙ (under_twice s agrees.solved (at i) ∙ agrees.shown i);
    resolved = λ e i. same i ∙ agrees.shown i;
  }

  -- nothing stands where the store has nothing
  pub absent_there : (i : ℕ) → atom_of m.rows i ≡ None → at i ≡ None
  absent_there i e = under_none s (at i) (agrees.shown i ∙ ap (under s) e)

  module _ (a : Atom) where
    abbrev pub n : ℕ
    n = m.next_id

    free : atom_of m.rows n ≡ None
    free = agrees.given m.next_id (omega arith)

    looked : (i : ℕ) → atom_of (added m a).rows i ≡ cond (i == n) (Some a) (atom_of m.rows i)
    looked i = looked_guest m.rows n i a free

    under_cond : (b : Bool) (o : Option Atom) → under s (cond b (Some a) o) ≡ cond b (Some (resolved_atom s a)) (under s o)
    under_cond true o = refl
    under_cond false o = refl

    under_conds : (b : Bool) (o p : Option Atom) → under s o ≡ under s p → under s (cond b (Some (resolved_atom s a)) o) ≡ under s (cond b (Some a) p)
    under_conds true o p e = under_twice s agrees.solved (Some a)
    under_conds false o p e = e

    later : (i : ℕ) → n + 1 ≤ i → (i == n) ≡ false
    later i le = ne_eqb i n (λ e. impossible e)
      where
        impossible : i ≡ n → ⊥
        impossible e = omega (arith, le, e)

    below_more : (ids : List ℕ) → list_all (λ i. nat_lt i n) ids ≡ true → list_all (λ i. nat_lt i (n + 1)) ids ≡ true
    below_more [] e = refl
    below_more (i ∷ ids) e =
        let parts = and_parts (nat_lt i n) (list_all (λ j. nat_lt j n) ids) e in
        let lt : i < n = (Decides-ltb i n).0 parts.0 in
        let more : nat_lt i (n + 1) ≡ true = (Decides-ltb i (n + 1)).1 (omega (arith, lt)) in
        and_from (nat_lt i (n + 1)) (list_all (λ j. nat_lt j (n + 1)) ids) more (below_more ids parts.1)

    -- who is dead then was dead before
    pub was_not_dead : (i : ℕ) → is_not_dead (added m a) i ≡ true → is_not_dead m i ≡ true
    was_not_dead i e = by_test (nat_le n i) refl
      where
        by_test : (b : Bool) → nat_le n i ≡ b → (is_alive m i || b) ≡ true
        by_test true le = or_true (is_alive m i)
          where
            or_true : (c : Bool) → (c || true) ≡ true
            or_true true = refl
            or_true false = refl
        by_test false le =
            let lt : i < n = leb-false n i le in
            let here : (i == n) ≡ false = ne_eqb i n (λ same. omega (arith, lt, same)) in
            let later : nat_le (n + 1) i ≡ false = lt-leb (n + 1) i (omega (arith, lt)) in
            ap (λ (c : Bool). is_some (cond c (Some a) (atom_of m.rows i)) || false) (sym here) ∙ (ap (λ (o : Option Atom). is_some o || false) (sym (looked i)) ∙ (ap (λ (c : Bool). is_alive (added m a) i || c) (sym later) ∙ e))

    -- a constraint is added
    pub agrees_added : (new : ℕ → Option Atom) → ((i : ℕ) → new i ≡ atoms_with at n (Some (resolved_atom s a)) i) → Agrees (added m a) h s new stale
    agrees_added new same = record {
      rises = rises_guest n a m.rows agrees.rises agrees.given;
      given = λ i le. looked i ∙ (ap (λ (b : Bool). cond b (Some a) (atom_of m.rows i)) (later i le) ∙ agrees.given i (omega (arith, le)));
      entered = λ r ids e. below_more ids (agrees.entered r ids e);
      solved = agrees.solved;
      shown = λ i. ap (under s) (same i) ∙ (under_conds (i == n) (at i) (atom_of m.rows i) (agrees.shown i) ∙ ap (under s) (sym (looked i)));
      resolved = λ e i. same i ∙ (ap (λ (o : Option Atom). cond (i == n) (Some (resolved_atom s a)) o) (agrees.resolved e i) ∙ (sym (under_cond (i == n) (atom_of m.rows i)) ∙ ap (under s) (sym (looked i))));
    }
