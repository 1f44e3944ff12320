-- The active constraint is no partner: the join is the same without its row.
use Rattle.std.proofs.Common.{◌≡◌, ◌∙◌, ◌==◌, ◌||◌, ◌+◌, ℕ, Bool, true, false, not, cond, List, [], ◌∷◌, map, Option, Some, None, ap, refl, sym}
use Rattle.std.specs.Prelude.{filter, flat_map}
use Rattle.std.proofs.lemmas.Bool.Decides.{Decides-eqb}
use Rattle.chr_semantics.proofs.SearchedLists.{flat_map-filter, flat_map-same}
use Rattle.chr_semantics.specs.Join.{Joined, after_own, after_row, branch, joined, own_joined}
use Rattle.chr_semantics.specs.Match.{Row, fit_atom}
use Rattle.chr_semantics.specs.Program.{Atom, Head, Rule}
use Rattle.chr_semantics.specs.Search.{atom_of, has_number}
use Rattle.chr_semantics.specs.Subst.{Subst}
use Rattle.chr_semantics.specs.Trail as trails
use Rattle.chr_semantics.specs.Trail.{Trail, after_each, own_trail, trail}
use Rattle.chr_store.specs.Rows.{row_atom}
use Rattle.chr_find.specs.Shown.{Rises}
use Rattle.chr_find.specs.Newest.{IsApart, with_newest}
use Rattle.chr_find.specs.declared.constraint.Constraint.{Constraint}
use Rattle.chr_find.proofs.Lookups.{atom_if, filter_looked, rises_filter}
use Rattle.std.proofs.lemmas.Bool.{not-false}
use Rattle.chr_semantics.proofs.JoinLaw.{branch_same}

-- without the row of an identity
abbrev pub others : ℕ → List Row → List Row
others n rows = filter (λ (c : Row). not (c.0 == n)) rows

-- the own row is used
own_used : (further : Subst → List Joined) (a c : Row) (used : List ℕ) (e : Option Subst) → not (c.0 == a.0) ≡ false → branch further c (has_number (a.0 ∷ used) c.0) e ≡ []
own_used further a c used e own = ap (λ (b : Bool). branch further c (b || has_number used c.0) e) (not-false (c.0 == a.0) own)

pub joined_others : (rows : List Row) (a : Row) (place : ℕ) (heads : List Head) (used : List ℕ) (k : ℕ) (m : Subst) → joined (others a.0 rows) a place heads used k m ≡ joined rows a place heads used k m
joined_others rows a place [] used k m = refl
joined_others rows a place (h ∷ hs) used k m =
    let behind : List Row → Row → Subst → List Joined = λ over c n. joined over a place hs (c.0 ∷ used) (k + 1) n in
    let partners : flat_map (λ (c : Row). branch (behind (others a.0 rows) c) c (has_number (a.0 ∷ used) c.0) (fit_atom h.atom c.1 m)) (others a.0 rows)
    ≡ flat_map (λ (c : Row). branch (behind rows c) c (has_number (a.0 ∷ used) c.0) (fit_atom h.atom c.1 m)) rows =
    flat_map-same _ _ (others a.0 rows) (λ c. branch_same (behind (others a.0 rows) c) (behind rows c) c (has_number (a.0 ∷ used) c.0) (fit_atom h.atom c.1 m) (λ n. joined_others rows a place hs (c.0 ∷ used) (k + 1) n))
    ∙ flat_map-filter _ (λ (c : Row). not (c.0 == a.0)) rows (λ c e. own_used (behind rows c) a c used (fit_atom h.atom c.1 m) e)
    in
    let own = joined_others rows a place hs (a.0 ∷ used) (k + 1) m in
    λ i. cond (k == place) (map (after_row a) (own i)) (partners i)

-- and so is its trail
own_used_trail : (further : Subst → Trail) (a c : Row) (used : List ℕ) (e : Option Subst) → not (c.0 == a.0) ≡ false → trails.branch further c (has_number (a.0 ∷ used) c.0) e ≡ []
own_used_trail further a c used e own = ap (λ (b : Bool). trails.branch further c (b || has_number used c.0) e) (not-false (c.0 == a.0) own)

trail_same : (f g : Subst → Trail) (c : Row) (used : Bool) (e : Option Subst) → ((m : Subst) → f m ≡ g m) → trails.branch f c used e ≡ trails.branch g c used e
trail_same f g c true e same = refl
trail_same f g c false None same = refl
trail_same f g c false (Some m) same = ap (after_each c) (same m)

pub trail_others : (rows : List Row) (a : Row) (place : ℕ) (heads : List Head) (used : List ℕ) (k : ℕ) (m : Subst) → trail (others a.0 rows) a place heads used k m ≡ trail rows a place heads used k m
trail_others rows a place [] used k m = refl
trail_others rows a place (h ∷ hs) used k m =
    let behind : List Row → Row → Subst → Trail = λ over c n. trail over a place hs (c.0 ∷ used) (k + 1) n in
    let partners : flat_map (λ (c : Row). trails.branch (behind (others a.0 rows) c) c (has_number (a.0 ∷ used) c.0) (fit_atom h.atom c.1 m)) (others a.0 rows)
    ≡ flat_map (λ (c : Row). trails.branch (behind rows c) c (has_number (a.0 ∷ used) c.0) (fit_atom h.atom c.1 m)) rows =
    flat_map-same _ _ (others a.0 rows) (λ c. trail_same (behind (others a.0 rows) c) (behind rows c) c (has_number (a.0 ∷ used) c.0) (fit_atom h.atom c.1 m) (λ n. trail_others rows a place hs (c.0 ∷ used) (k + 1) n))
    ∙ flat_map-filter _ (λ (c : Row). not (c.0 == a.0)) rows (λ c e. own_used_trail (behind rows c) a c used (fit_atom h.atom c.1 m) e)
    in
    let own = trail_others rows a place hs (a.0 ∷ used) (k + 1) m in
    λ i. cond (k == place) (after_each a (own i)) (None ∷ partners i)

-- both have the same join, and the same trail, for a constraint with the identity
abbrev pub SameJoin : ℕ → List Row → List Row → Type 0
SameJoin own some rows = (rule : Rule) (place : ℕ) (x : Head) (a : Atom) → own_joined some rule place x (own, a) ≡ own_joined rows rule place x (own, a)

abbrev pub SameTrail : ℕ → List Row → List Row → Type 0
SameTrail own some rows = (rule : Rule) (place : ℕ) (x : Head) (a : Atom) → own_trail some rule place x (own, a) ≡ own_trail rows rule place x (own, a)

own_others : (own : ℕ) (rows : List Row) → SameJoin own (others own rows) rows
own_others own rows rule place x a = by_match (fit_atom x.atom a [])
  where
    by_match : (o : Option Subst) → after_own (joined (others own rows) (own, a) place rule.heads [] 0) o ≡ after_own (joined rows (own, a) place rule.heads [] 0) o
    by_match None = refl
    by_match (Some m) = joined_others rows (own, a) place rule.heads [] 0 m

trail_of_others : (own : ℕ) (rows : List Row) → SameTrail own (others own rows) rows
trail_of_others own rows rule place x a = by_match (fit_atom x.atom a [])
  where
    by_match : (o : Option Subst) → trails.after_own (trail (others own rows) (own, a) place rule.heads [] 0) o ≡ trails.after_own (trail rows (own, a) place rule.heads [] 0) o
    by_match None = refl
    by_match (Some m) = trail_others rows (own, a) place rule.heads [] 0 m

-- rows that have the constraints f, and the same join for a constraint with the identity as other rows
pub record HasOwn (own : ℕ) (f : ℕ → Option Atom) (rows : List Row) : Type 0 where
  pub some : List Row
  pub rises : Rises some
  pub looked : (i : ℕ) → atom_of some i ≡ f i
  pub same : SameJoin own some rows
  pub trail : SameTrail own some rows

-- the rows of the lists, where the newest constraint is the own one
pub own_rows : {A : Type 0} (o : Option (Constraint A)) (f : ℕ → Option Atom) (own : ℕ) (rows : List Row) → ((s : Constraint A) → o ≡ Some s → s.id.0 ≡ own) → IsApart o f → Rises rows → ((i : ℕ) → atom_of rows i ≡ with_newest o f i)
    → HasOwn own f rows
own_rows None f own rows is apart up same = record { some = rows; rises = up; looked = same; same = λ rule place x a. refl; trail = λ rule place x a. refl }
own_rows (Some s) f own rows is apart up same = record { some = others own rows; rises = rises_filter (λ (c : Row). not (c.0 == own)) rows up; looked = looked; same = own_others own rows; trail = trail_of_others own rows }
  where
    here : s.id.0 ≡ own
    here = is s refl

    kept : (i : ℕ) (o : Option Atom) → (i == own) ≡ false → atom_if (λ (c : Row). not (c.0 == own)) i o ≡ o
    kept i None e = refl
    kept i (Some a) e = ap (λ (b : Bool). cond (not b) (Some a) None) e

    left_out : (i : ℕ) (o : Option Atom) → (i == own) ≡ true → atom_if (λ (c : Row). not (c.0 == own)) i o ≡ None
    left_out i None e = refl
    left_out i (Some a) e = ap (λ (b : Bool). cond (not b) (Some a) None) e

    by_test : (i : ℕ) (b : Bool) → (i == own) ≡ b → atom_if (λ (c : Row). not (c.0 == own)) i (atom_of rows i) ≡ f i
    by_test i true e = left_out i (atom_of rows i) e ∙ sym (ap f ((Decides-eqb i own).0 e ∙ sym here) ∙ apart s refl)
    by_test i false e = kept i (atom_of rows i) e ∙ (same i ∙ ap (λ (b : Bool). cond b (Some (row_atom s.row)) (f i)) (ap (λ (k : ℕ). i == k) here ∙ e))

    looked : (i : ℕ) → atom_of (others own rows) i ≡ f i
    looked i = filter_looked (λ (c : Row). not (c.0 == own)) rows i up ∙ by_test i (i == own) refl
