-- What a substitution makes of all rows with variables.
use Rattle.std.proofs.Common.{◌≡◌, ◌∙◌, ◌==◌, ◌<◌, ◌+◌, ◌⊎◌, inl, inr, ℕ, zero, suc, Bool, true, false, not, cond, List, [], ◌∷◌, ◌++◌, ap, arith, drop, get_or, length, refl, sym, subst, take}
use Rattle.std.specs.Prelude.{Option, Some, None, filter, option_map}
use Rattle.std.proofs.lemmas.Bool.{eq-eqb, ne_eqb}
use Rattle.chr_map.specs.Order.{Ascends}
use Rattle.chr_semantics.proofs.Ground.{ground_stays_all}
use Rattle.chr_semantics.specs.Match as semantics
use Rattle.chr_semantics.specs.Program.{Atom}
use Rattle.chr_semantics.specs.Search.{atom_of, ids_of}
use Rattle.chr_semantics.specs.State.{resolved_atom}
use Rattle.chr_semantics.specs.Subst.{Subst, value_at}
use Rattle.chr_semantics.specs.Tree.{is_ground_trees}
use Rattle.chr_store.specs.Rows.{row_atom}
use Rattle.chr_store.specs.declared.id.Id.{Id}
use Rattle.chr_find.specs.IdRows.{id_cmp}
use Rattle.chr_find.specs.IndexKeys.{rows_in}
use Rattle.chr_find.specs.PlanView.{lookups_of}
use Rattle.chr_find.specs.Rebinding.{IsMade, is_open, new_rows, open_ids, over, standing_rows}
use Rattle.chr_find.specs.Shown.{AllOver, AllUnder, Rises, atom_in, bucket_rows, walk}
use Rattle.chr_find.specs.PendingIndexView.{indexed_atom}
use Rattle.chr_find.specs.TableView.{HasRows, IsWhole, atom_at}
use Rattle.chr_find.specs.declared.bucket.Bucket.TheVariants.{All, Open}
use Rattle.chr_find.specs.declared.rebinding.Replaced.{Replaced}
use Rattle.chr_find.specs.declared.constraint.Constraint.{Constraint}
use Rattle.chr_find.specs.declared.table.Table.{Table}
use Rattle.chr_find.proofs.Newest.{for_all, newest_none}
use Rattle.chr_find.proofs.TableShown.{has_shown}
use Rattle.chr_find.proofs.Numbers.{next_is}
use Rattle.chr_find.proofs.Walk.{rises_walk, walk_looked, walk_shown}
use Rattle.chr_find.specs.declared.plan.Lookup.{Lookup}
use Rattle.std.proofs.lemmas.Option.{none-some}

-- a row amid rows that rise
over_middle : (n : ℕ) (xs : List semantics.Row) (c : semantics.Row) (ys : List semantics.Row) → AllOver n (xs ++ c ∷ ys) → n < c.0
over_middle n [] c ys h = h.0
over_middle n (x ∷ xs) c ys h = over_middle n xs c ys h.1

pub under_middle : (xs : List semantics.Row) (c : semantics.Row) (ys : List semantics.Row) → Rises (xs ++ c ∷ ys) → AllUnder c.0 xs
under_middle [] c ys up = tt
under_middle (x ∷ xs) c ys up = (over_middle x.0 xs c ys up.0, under_middle xs c ys up.1)

atom_middle : (xs : List semantics.Row) (c : semantics.Row) (ys : List semantics.Row) → Rises (xs ++ c ∷ ys) → atom_of (xs ++ c ∷ ys) c.0 ≡ Some c.1
atom_middle [] c ys up = rw (eq-eqb c.0 c.0 refl) refl
atom_middle (x ∷ xs) c ys up =
    let lt = over_middle x.0 xs c ys up.0 in
    ap (λ (b : Bool). cond b (Some x.1) (atom_of (xs ++ c ∷ ys) c.0)) (ne_eqb x.0 c.0 (λ e. omega (arith, lt, e))) ∙ atom_middle xs c ys up.1

module _ {A : Type 0} where
  next_row : (l : List (Constraint A)) (k : ℕ) (s : Constraint A) → k < length l → s ≡ get_or l k s → standing_rows (take (suc k) l) ≡ standing_rows (take k l) ++ (s.id.0, row_atom s.row) ∷ []
  next_row [] k s lt e = absurd (omega (arith, lt))
  next_row (x ∷ l) zero s lt e = ap (λ (t : Constraint A). (t.id.0, row_atom t.row) ∷ []) (sym e)
  next_row (x ∷ l) (suc k) s lt e = ap (λ (rows : List semantics.Row). (x.id.0, row_atom x.row) ∷ rows) (next_row l k s (omega (arith, lt)) e)

  pub standing_next : (l : List (Constraint A)) (k : ℕ) (s : Constraint A) → k < length l → s ≡ get_or l k s → standing_rows (take (k + 1) l) ≡ standing_rows (take k l) ++ (s.id.0, row_atom s.row) ∷ []
  standing_next l k s lt e = ap (λ (m : ℕ). standing_rows (take m l)) (next_is k) ∙ next_row l k s lt e

  pub standing_split : (l : List (Constraint A)) (k : ℕ) (s : Constraint A) → k < length l → s ≡ get_or l k s → standing_rows l ≡ standing_rows (take k l) ++ (s.id.0, row_atom s.row) ∷ standing_rows (drop (suc k) l)
  standing_split [] k s lt e = absurd (omega (arith, lt))
  standing_split (x ∷ l) zero s lt e = ap (λ (t : Constraint A). (t.id.0, row_atom t.row) ∷ standing_rows l) (sym e)
  standing_split (x ∷ l) (suc k) s lt e = ap (λ (rows : List semantics.Row). (x.id.0, row_atom x.row) ∷ rows) (standing_split l k s (omega (arith, lt)) e)

-- who is in the list of rows with variables
pub in_open : (ps : ℕ → List Lookup) (a : Atom) (o : Option Atom) → Some a ≡ atom_in Open ps o → (o ≡ Some a) × (is_ground_trees a.args ≡ false)
in_open ps a None e = cc
in_open ps a (Some x) e = by_ground (is_ground_trees x.args) refl e
  where
    by_ground : (b : Bool) → is_ground_trees x.args ≡ b → Some a ≡ cond (not b) (Some x) None → (◌≡◌ {A = Option Atom} (Some x) (Some a)) × (is_ground_trees a.args ≡ false)
    by_ground true is e = cc
    by_ground false is e = let same : x ≡ a = some_is x a (sym e) in (sym e, ap (λ (y : Atom). is_ground_trees y.args) (sym same) ∙ is)
      where
        some_is : (x y : Atom) → ◌≡◌ {A = Option Atom} (Some x) (Some y) → x ≡ y
        some_is x y e = cc

pub ground_same : (s : Subst) (a : Atom) → is_ground_trees a.args ≡ true → resolved_atom s a ≡ a
ground_same s a g = λ i. record { sym = a.sym; args = ground_stays_all (value_at s) a.args g i }

abbrev pub or_else : Option Atom → Option Atom → Option Atom
or_else None o = o
or_else (Some a) o = Some a

over_or : (rows : List semantics.Row) (f : ℕ → Option Atom) (i : ℕ) → over rows f i ≡ or_else (atom_of rows i) (f i)
over_or [] f i = refl
over_or (c ∷ rows) f i = by_test (c.0 == i) (over_or rows f i)
  where
    by_test : (b : Bool) → over rows f i ≡ or_else (atom_of rows i) (f i) → cond b (Some c.1) (over rows f i) ≡ or_else (cond b (Some c.1) (atom_of rows i)) (f i)
    by_test true e = refl
    by_test false e = e

in_open_some : (ps : ℕ → List Lookup) (a : Atom) → is_ground_trees a.args ≡ false → atom_in Open ps (Some a) ≡ Some a
in_open_some ps a e = ap (λ (b : Bool). cond (not b) (Some a) None) e

module _ {A : Type 0} (s : Subst) (f : ℕ → Option Atom) (rows : List semantics.Row) (rs : List (Replaced A)) (ids : List Id) (made : IsMade s f rows rs ids) (ps : ℕ → List Lookup) (looked : (i : ℕ) → atom_of rows i ≡ atom_in Open ps (f i)) where
  stays : (i : ℕ) (a : Atom) → atom_of (new_rows rs) i ≡ None → f i ≡ Some a → resolved_atom s a ≡ a
  stays i a none e = by_ground (is_ground_trees a.args) refl
    where
      by_cover : (resolved_atom s a ≡ a) ⊎ (atom_of (new_rows rs) i ≡ Some (resolved_atom s a)) → resolved_atom s a ≡ a
      by_cover (inl same) = same
      by_cover (inr h) = absurd (none-some (resolved_atom s a) (sym none ∙ h))

      by_ground : (b : Bool) → is_ground_trees a.args ≡ b → resolved_atom s a ≡ a
      by_ground true g = ground_same s a g
      by_ground false g = by_cover (made.covered i a (looked i ∙ (ap (atom_in Open ps) e ∙ in_open_some ps a g)))

  -- each constraint is under the substitution
  pub made_atoms : (i : ℕ) → over (new_rows rs) f i ≡ option_map (resolved_atom s) (f i)
  made_atoms i = over_or (new_rows rs) f i ∙ by_found (atom_of (new_rows rs) i) refl
    where
      by_old : (o : Option Atom) → f i ≡ o → atom_of (new_rows rs) i ≡ None → o ≡ option_map (resolved_atom s) o
      by_old None e none = refl
      by_old (Some a) e none = ap (λ (x : Atom). Some x) (sym (stays i a none e))

      by_found : (o : Option Atom) → atom_of (new_rows rs) i ≡ o → or_else o (f i) ≡ option_map (resolved_atom s) (f i)
      by_found None e = by_old (f i) refl e
      by_found (Some b) e = made.right i b e

-- those with variables under the substitution are among those with variables
filter_twice : (p q : semantics.Row → Bool) (rows : List semantics.Row) → ((c : semantics.Row) → q c ≡ false → p c ≡ false) → filter p (filter q rows) ≡ filter p rows
filter_twice p q [] h = refl
filter_twice p q (c ∷ rows) h = by_test (q c) refl (filter_twice p q rows h)
  where
    by_test : (b : Bool) → q c ≡ b → filter p (filter q rows) ≡ filter p rows → filter p (cond b (c ∷ filter q rows) (filter q rows)) ≡ cond (p c) (c ∷ filter p rows) (filter p rows)
    by_test true e go = ap (λ (l : List semantics.Row). cond (p c) (c ∷ l) l) go
    by_test false e go = go ∙ ap (λ (b : Bool). cond b (c ∷ filter p rows) (filter p rows)) (sym (h c e))

pub closed_stays : (s : Subst) (c : semantics.Row) → not (is_ground_trees c.1.args) ≡ false → is_open s c ≡ false
closed_stays s c e =
    let ground : is_ground_trees c.1.args ≡ true = was_true (is_ground_trees c.1.args) e in
    ap not (ap is_ground_trees (ground_stays_all (value_at s) c.1.args ground) ∙ ground)
  where
    was_true : (b : Bool) → not b ≡ false → b ≡ true
    was_true true e = refl
    was_true false e = cc

pub open_all : (s : Subst) (ps : ℕ → List Lookup) (rows : List semantics.Row) → open_ids s (bucket_rows Open ps rows) ≡ open_ids s rows
open_all s ps rows = ap ids_of (filter_twice (is_open s) (λ (c : semantics.Row). not (is_ground_trees c.1.args)) rows (closed_stays s))

-- the rows of a table, those with variables and all
module _ {A : Type 0} (t : Table A) (whole : IsWhole t) where
  beside : (i : ℕ) → atom_at t i ≡ indexed_atom t.index i
  beside i = newest_none t.newest (indexed_atom t.index) i (for_all t whole.all)

  module _ (up : Ascends id_cmp (rows_in t.index.rows All)) where
    pub all_rises : Rises (walk All t.index.rows)
    all_rises = rises_walk All t.index.rows up

    pub all_looked : (i : ℕ) → atom_of (walk All t.index.rows) i ≡ atom_at t i
    all_looked i = walk_looked All t.index.rows i up ∙ (ap (option_map row_atom) (sym (whole.settled.index (record { bucket = All; id = record { 0 = i } }))) ∙ sym (beside i))

  module _ (up : Ascends id_cmp (rows_in t.index.rows Open)) where
    pub open_rises : Rises (walk Open t.index.rows)
    open_rises = rises_walk Open t.index.rows up

    pub open_looked : (i : ℕ) → atom_of (walk Open t.index.rows) i ≡ atom_in Open (lookups_of t.index.plan) (atom_at t i)
    open_looked i =
        walk_looked Open t.index.rows i up
        ∙ (ap (option_map row_atom) (sym (whole.settled.index (record { bucket = Open; id = record { 0 = i } })))
        ∙ (t.shown (record { bucket = Open; id = record { 0 = i } }) ∙ ap (atom_in Open (lookups_of t.index.plan)) (sym (beside i))))

    pub open_rows : (rows : List semantics.Row) → HasRows t rows → walk Open t.index.rows ≡ bucket_rows Open (lookups_of t.index.plan) rows
    open_rows rows has = let shown = has_shown t rows whole.settled.index has.rises (λ i. has.same i ∙ beside i) in walk_shown (lookups_of t.index.plan) Open t.index.rows rows up shown.rises shown.shows

    -- a row amid them
    module _ (l : List (Constraint A)) (k : ℕ) (c : Constraint A) (all : standing_rows l ≡ walk Open t.index.rows) (lt : k < length l) (at : c ≡ get_or l k c) where
      split : Rises (standing_rows (take k l) ++ (c.id.0, row_atom c.row) ∷ standing_rows (drop (suc k) l))
      split = subst Rises (sym all ∙ standing_split l k c lt at) open_rises

      pub before_all : AllUnder c.id.0 (standing_rows (take k l))
      before_all = under_middle (standing_rows (take k l)) (c.id.0, row_atom c.row) (standing_rows (drop (suc k) l)) split

      pub stands_open : (atom_at t c.id.0 ≡ Some (row_atom c.row)) × (is_ground_trees (row_atom c.row).args ≡ false)
      stands_open =
          in_open (lookups_of t.index.plan) (row_atom c.row) (atom_at t c.id.0)
          (sym (atom_middle (standing_rows (take k l)) (c.id.0, row_atom c.row) (standing_rows (drop (suc k) l)) split) ∙ (ap (λ (rows : List semantics.Row). atom_of rows c.id.0) (sym (standing_split l k c lt at) ∙ all) ∙ open_looked c.id.0))
