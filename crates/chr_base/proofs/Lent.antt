-- Changes after which the firings that snapshots lend are those of the history.
use Rattle.std.proofs.Common.{◌≡◌, ◌∙◌, ◌==◌, ◌&&◌, ◌||◌, ◌+◌, ℕ, Bool, true, false, true≢false, cond, nat_lt, List, [], ◌∷◌, ◌++◌, Option, None, Some, ap, refl, subst, sym}
use Rattle.std.specs.List.{list_all}
use Rattle.std.specs.Prelude.{nat_le}
use Rattle.std.proofs.lemmas.Bool.{and_from, and_parts, lt-leb}
use Rattle.std.proofs.lemmas.Bool.Decides.{Decides-eqb, Decides-ltb}
use Rattle.chr_semantics.proofs.Lists.{list_all-more}
use Rattle.chr_semantics.specs.Changes.{Entries, Store, added, entered, rebound, removed}
use Rattle.chr_semantics.specs.Program.{Atom}
use Rattle.chr_semantics.specs.Search.{atom_of, fired_before, has_number, same_ids}
use Rattle.chr_semantics.specs.Subst.{Subst}
use Rattle.chr_store.specs.declared.fired.Fired.{Fired}
use Rattle.chr_find.specs.PendingFiringsView.{noted_in}
use Rattle.chr_find.specs.declared.pending_firings.PendingFirings.{PendingFirings}
use Rattle.chr_find.proofs.FiredHistory.{both_true, same_ids_Decides}
use Rattle.chr_base.specs.Agreement.{Agrees, is_alive, is_not_dead}
use Rattle.chr_base.specs.Lending.{AreAlike, AreLent, IsNoted, Lends}
use Rattle.chr_base.proofs.Agreements as agreements
use Rattle.chr_base.proofs.Fires.{and_right, before_last, is_dead, tests_turned, was_not_dead}
use Rattle.std.proofs.lemmas.Option.{none-some}

-- the entries with one that is new
entered_before : (h : Entries) (r : ℕ) (ids : List ℕ) → fired_before h.list r ids ≡ false → (q : ℕ) (others : List ℕ) → fired_before (entered h r ids).list q others ≡ (fired_before h.list q others || q == r && same_ids others ids)
entered_before h r ids is_new q others =
    let more : Entries = record { list = h.list ++ (r, ids) ∷ []; stamps = λ n. h.stamps n + cond (r == n) 1 0 } in
    ap (λ (b : Bool). fired_before (cond b h more).list q others) is_new
    ∙ (before_last h.list r ids q others ∙ ap (λ (b : Bool). fired_before h.list q others || b) (sym (tests_turned q r others ids)))

-- who is dead is not among these
no_number : (p : ℕ → Bool) (i : ℕ) (ids : List ℕ) → p i ≡ false → list_all p ids ≡ true → has_number ids i ≡ false
no_number p i [] dead live = refl
no_number p i (j ∷ ids) dead live = by_test (i == j) refl (no_number p i ids dead (and_parts (p j) (list_all p ids) live).1)
  where
    by_test : (b : Bool) → (i == j) ≡ b → has_number ids i ≡ false → (b || has_number ids i) ≡ false
    by_test true e go = absurd (true≢false (sym (ap p ((Decides-eqb i j).0 e) ∙ (and_parts (p j) (list_all p ids) live).0) ∙ dead))
    by_test false e go = go

either_not : (b c : Bool) → (c ≡ true → true ≡ false) → b ≡ (b || c)
either_not true c h = refl
either_not false true h = sym (h refl)
either_not false false h = refl

-- who is not dead and below the next identity lives
pub all_but : (p : ℕ → Bool) (n : ℕ) (ids : List ℕ) → list_all (λ i. p i || nat_le n i) ids ≡ true → list_all (λ i. nat_lt i n) ids ≡ true → list_all p ids ≡ true
all_but p n [] live below = refl
all_but p n (i ∷ ids) live below =
    let l = and_parts (p i || nat_le n i) (list_all (λ j. p j || nat_le n j) ids) live in
    let w = and_parts (nat_lt i n) (list_all (λ j. nat_lt j n) ids) below in
    and_from (p i) (list_all p ids) (or_first (p i) (nat_le n i) (lt-leb n i ((Decides-ltb i n).0 w.0)) l.0) (all_but p n ids l.1 w.1)
  where
    or_first : (b c : Bool) → c ≡ false → (b || c) ≡ true → b ≡ true
    or_first true c none e = refl
    or_first false c none e = sym none ∙ e

some_same : {T : Type 0} (x y : T) → ◌≡◌ {A = Option T} (Some x) (Some y) → x ≡ y
some_same x y e = cc

-- where none are kept
pub lends_none : {A : Type 0} (m : Store) (h : Entries) → Lends {A = A} m h None
lends_none m h g is = absurd (none-some g is)

module _ {A : Type 0} (m : Store) (h : Entries) (s : Subst) (at : ℕ → Option Atom) (stale : Bool) (agrees : Agrees m h s at stale) (f : Option (PendingFirings A)) (lends : Lends m h f) where
  -- where those that are not dead were not dead before
  later : (n : Store) → ((i : ℕ) → is_not_dead n i ≡ true → is_not_dead m i ≡ true) → Lends n h f
  later n before g is r ids live = lends g is r ids (list_all-more (is_not_dead n) (is_not_dead m) ids before live)

  pub lends_added : (a : Atom) → Lends (added m a) h f
  lends_added a = later (added m a) (agreements.was_not_dead m h s at stale agrees a)

  pub lends_touched : (ids : List ℕ) → Lends (rebound m ids) h f
  lends_touched [] = lends
  lends_touched (i ∷ ids) = later (rebound m (i ∷ ids)) (λ j e. e)

  pub lends_removed : (i : ℕ) (a : Atom) → atom_of m.rows i ≡ Some a → Lends (removed m i) h f
  lends_removed i a there = later (removed m i) (was_not_dead m h s at stale agrees i a there)

  -- where the same firings are kept
  alike : (o p : Option (PendingFirings A)) (g : PendingFirings A) → f ≡ o → AreAlike o p → p ≡ Some g → AreLent m h (noted_in g)
  alike None None g was same is = absurd (none-some g is)
  alike None (Some k) g was same is = absurd same
  alike (Some k) None g was same is = absurd same
  alike (Some k) (Some l) g was same is = subst (λ (x : PendingFirings A). AreLent m h (noted_in x)) (some_same l g is) (λ r ids live. same r ids ∙ lends k was r ids live)

  pub lends_alike : (p : Option (PendingFirings A)) → AreAlike f p → Lends m h p
  lends_alike p same g is = alike f p g refl same is

  -- where a firing is noted and entered
  noted : (x : Fired) (o p : Option (PendingFirings A)) (g : PendingFirings A) → fired_before h.list x.rule x.ids ≡ false → f ≡ o → IsNoted x o p → p ≡ Some g → AreLent m (entered h x.rule x.ids) (noted_in g)
  noted x None None g is_new was note is = absurd (none-some g is)
  noted x None (Some k) g is_new was note is = absurd note
  noted x (Some k) None g is_new was note is = absurd note
  noted x (Some k) (Some l) g is_new was note is = subst (λ (y : PendingFirings A). AreLent m (entered h x.rule x.ids) (noted_in y)) (some_same l g is)
      (λ q ids live. note q ids ∙ (ap (λ (b : Bool). b || q == x.rule && same_ids ids x.ids) (lends k was q ids live) ∙ sym (entered_before h x.rule x.ids is_new q ids)))

  pub lends_noted : (x : Fired) (p : Option (PendingFirings A)) → fired_before h.list x.rule x.ids ≡ false → IsNoted x f p → Lends m (entered h x.rule x.ids) p
  lends_noted x p is_new note g is = noted x f p g is_new refl note is

  -- where a firing is entered of which a constraint is removed
  pub lends_gone : (x : Fired) (i : ℕ) (a : Atom) → fired_before h.list x.rule x.ids ≡ false → atom_of m.rows i ≡ Some a → has_number x.ids i ≡ true → Lends (removed m i) (entered h x.rule x.ids) f
  lends_gone x i a is_new there among g is q ids live =
      lends g is q ids (list_all-more (is_not_dead (removed m i)) (is_not_dead m) ids (was_not_dead m h s at stale agrees i a there) live)
      ∙ (either_not (fired_before h.list q ids) (q == x.rule && same_ids ids x.ids) (λ e.
      sym among ∙ (ap (λ (l : List ℕ). has_number l i) (sym ((same_ids_Decides ids x.ids).0 (and_right (q == x.rule) (same_ids ids x.ids) e))) ∙ no_number (is_not_dead (removed m i)) i ids (is_dead m h s at stale agrees i a there) live))
      ∙ sym (entered_before h x.rule x.ids is_new q ids))

-- what has fired with constraints that live, where firings begin to be kept
pub lent_begun : (m : Store) (h : Entries) (s : Subst) (at : ℕ → Option Atom) (stale : Bool) → Agrees m h s at stale → (fired : ℕ → List ℕ → Bool) → ((r : ℕ) (ids : List ℕ) → fired r ids ≡ (fired_before h.list r ids && list_all (is_alive m) ids)) → AreLent m h fired
lent_begun m h s at stale agrees fired is r ids live =
    is r ids ∙ both_true (fired_before h.list r ids) (list_all (is_alive m) ids) (λ e. all_but (is_alive m) m.next_id ids live (agrees.entered r ids e))

-- where these are kept
pub lends_these : {A : Type 0} (m : Store) (h : Entries) (f : PendingFirings A) → AreLent m h (noted_in f) → Lends m h (Some f)
lends_these m h f lent g is = subst (λ (x : PendingFirings _). AreLent m h (noted_in x)) (some_same f g is) lent
