-- A head for which there is no partner leaves nothing to join.
use Rattle.std.proofs.Common.{◌≡◌, ◌∙◌, ◌+◌, ◌==◌, ◌||◌, ℕ, zero, suc, Bool, true, false, cond, List, [], ◌∷◌, ◌++◌, map, Option, Some, None, ap, refl, sym, arith, add-zero}
use Rattle.std.specs.Prelude.{All, filter, flat_map, slice_get}
use Rattle.std.proofs.lemmas.List.Elements.{All-cons, All-head, All-nil, All-tail}
use Rattle.chr_semantics.proofs.Makes.{Extends, Extends-through, fit_atom_least, fit_atom_makes}
use Rattle.chr_semantics.specs.Join.{Joined, after_row, branch, joined}
use Rattle.chr_semantics.specs.Match.{Row, fit_atom}
use Rattle.chr_semantics.specs.Program.{Atom, Head}
use Rattle.chr_semantics.specs.Search.{has_number}
use Rattle.chr_semantics.specs.Subst.{Subst}
use Rattle.chr_find.specs.Shown.{any_new}
use Rattle.chr_find.proofs.Thresholds.{new_id}
use Rattle.std.proofs.lemmas.Option.{none-some}

-- what does not fit under a match does not fit under a longer one
misfit_more : (h a : Atom) (m n : Subst) → Extends m n → fit_atom h a m ≡ None → fit_atom h a n ≡ None
misfit_more h a m n more none = by_match (fit_atom h a n) refl
  where
    by_match : (o : Option Subst) → fit_atom h a n ≡ o → o ≡ None
    by_match None e = refl
    by_match (Some k) e =
        let made = fit_atom_makes h a n k e in
        let least = fit_atom_least h a m k (Extends-through m n k more made.0) made.1 in
        absurd (none-some least.0 (sym none ∙ least.1))

none_after : (a : Row) (ps : List Joined) → ps ≡ [] → map (after_row a) ps ≡ []
none_after a ps e = ap (map (after_row a)) e

-- nothing lies after any row
none_after_all : (f : Row → List Joined) (rows : List Row) → ((c : Row) → f c ≡ []) → flat_map f rows ≡ []
none_after_all f [] e = refl
none_after_all f (c ∷ rows) e = (λ k. e c k ++ none_after_all f rows e k)

none_fits : (f : Row → Subst → List Joined) (h : Atom) (used : Row → Bool) (m : Subst) (rows : List Row) → All (λ (c : Row). fit_atom h c.1 m ≡ None) rows → flat_map (λ (c : Row). branch (f c) c (used c) (fit_atom h c.1 m)) rows ≡ []
none_fits f h used m [] all = refl
none_fits f h used m (c ∷ rows) all =
    let P : Row → Type 0 = λ (d : Row). fit_atom h d.1 m ≡ None in
    (λ k. here (used c) (fit_atom h c.1 m) (All-head P c rows all) k ++ none_fits f h used m rows (All-tail P c rows all) k)
  where
    here : (b : Bool) (o : Option Subst) → o ≡ None → branch (f c) c b o ≡ []
    here true o e = refl
    here false o e = ap (branch (f c) c false) e

all_more : (h : Atom) (m n : Subst) (rows : List Row) → Extends m n → All (λ (c : Row). fit_atom h c.1 m ≡ None) rows → All (λ (c : Row). fit_atom h c.1 n ≡ None) rows
all_more h m n [] more all = All-nil (λ (c : Row). fit_atom h c.1 n ≡ None)
all_more h m n (c ∷ rows) more all =
    let P : Row → Type 0 = λ (d : Row). fit_atom h d.1 m ≡ None in
    All-cons (λ (d : Row). fit_atom h d.1 n ≡ None) c rows (misfit_more h c.1 m n more (All-head P c rows all)) (all_more h m n rows more (All-tail P c rows all))

-- the rows lead nowhere where each match that they lead to does
branch_none : (further : Subst → List Joined) (c : Row) (b : Bool) (h : Atom) (m : Subst) (o : Option Subst) → fit_atom h c.1 m ≡ o → ((n : Subst) → Extends m n → further n ≡ []) → branch further c b o ≡ []
branch_none further c true h m o e none = refl
branch_none further c false h m None e none = refl
branch_none further c false h m (Some n) e none = none_after c (further n) (none n (fit_atom_makes h c.1 m n e).0)

-- a head but the own one that no row fits leaves nothing
pub joined_none : (rows : List Row) (a : Row) (place : ℕ) (hs : List Head) (used : List ℕ) (j : ℕ) (m n : Subst) (k : ℕ) (x : Head) → slice_get hs k ≡ Some x → (j + k == place) ≡ false → Extends m n → All (λ (c : Row). fit_atom x.atom c.1 m ≡ None) rows → joined rows a place hs used j n ≡ []
joined_none rows a place [] used j m n k x at apart more all = absurd (none-some x at)
joined_none rows a place (h ∷ hs) used j m n zero x at apart more all =
    let same : h ≡ x = one_head h x at in
    let other : (j == place) ≡ false = ap (λ (i : ℕ). i == place) (sym (add-zero j)) ∙ apart in
    ap (λ (b : Bool). cond b (map (after_row a) (joined rows a place hs (a.0 ∷ used) (j + 1) n)) (flat_map (λ (c : Row). branch (λ l. joined rows a place hs (c.0 ∷ used) (j + 1) l) c (has_number (a.0 ∷ used) c.0) (fit_atom h.atom c.1 n)) rows)) other
    ∙ (ap (λ (y : Head). flat_map (λ (c : Row). branch (λ l. joined rows a place hs (c.0 ∷ used) (j + 1) l) c (has_number (a.0 ∷ used) c.0) (fit_atom y.atom c.1 n)) rows) same
    ∙ none_fits (λ c l. joined rows a place hs (c.0 ∷ used) (j + 1) l) x.atom (λ c. has_number (a.0 ∷ used) c.0) n rows (all_more x.atom m n rows more all))
  where
    one_head : (y z : Head) → ◌≡◌ {A = Option Head} (Some y) (Some z) → y ≡ z
    one_head y z e = cc
joined_none rows a place (h ∷ hs) used j m n (suc k) x at apart more all =
    let later : (j + 1 + k == place) ≡ false = ap (λ (i : ℕ). i == place) (moved j k) ∙ apart in
    by_place (j == place) (λ c l further. joined_none rows a place hs (c ∷ used) (j + 1) m l k x at later further all)
  where
    moved : (i l : ℕ) → i + 1 + l ≡ i + suc l
    moved i l = omega arith

    by_place : (b : Bool) → ((c : ℕ) (l : Subst) → Extends m l → joined rows a place hs (c ∷ used) (j + 1) l ≡ [])
        → cond b (map (after_row a) (joined rows a place hs (a.0 ∷ used) (j + 1) n)) (flat_map (λ (c : Row). branch (λ l. joined rows a place hs (c.0 ∷ used) (j + 1) l) c (has_number (a.0 ∷ used) c.0) (fit_atom h.atom c.1 n)) rows) ≡ []
    by_place true none = none_after a (joined rows a place hs (a.0 ∷ used) (j + 1) n) (none a.0 n more)
    by_place false none = none_after_all (λ (c : Row). branch (λ l. joined rows a place hs (c.0 ∷ used) (j + 1) l) c (has_number (a.0 ∷ used) c.0) (fit_atom h.atom c.1 n)) rows
        (λ c. branch_none (λ l. joined rows a place hs (c.0 ∷ used) (j + 1) l) c (has_number (a.0 ∷ used) c.0) h.atom n (fit_atom h.atom c.1 n) refl (λ l further. none c.0 l (Extends-through m n l more further)))

-- where a list has no row, no row fits what the list is enough for
pub bare_misfits : (in_list : Row → Bool) (h : Atom) (m : Subst) (rows : List Row) → any_new 0 (filter in_list rows) ≡ false → ((c : Row) → in_list c ≡ false → fit_atom h c.1 m ≡ None) → All (λ (c : Row). fit_atom h c.1 m ≡ None) rows
bare_misfits in_list h m [] bare enough = All-nil (λ (c : Row). fit_atom h c.1 m ≡ None)
bare_misfits in_list h m (c ∷ rows) bare enough = by_test (in_list c) refl (λ none. bare_misfits in_list h m rows none enough)
  where
    by_test : (b : Bool) → in_list c ≡ b → (any_new 0 (filter in_list rows) ≡ false → All (λ (d : Row). fit_atom h d.1 m ≡ None) rows) → All (λ (d : Row). fit_atom h d.1 m ≡ None) (c ∷ rows)
    by_test true e rest = absurd (let no : true ≡ false = sym (ap (λ (b : Bool). b || any_new 0 (filter in_list rows)) (new_id 0 c.0 (omega arith))) ∙ (sym (ap (λ (b : Bool). any_new 0 (cond b (c ∷ filter in_list rows) (filter in_list rows))) e) ∙ bare) in cc)
    by_test false e rest = All-cons (λ (d : Row). fit_atom h d.1 m ≡ None) c rows (enough c e) (rest (sym (ap (λ (b : Bool). any_new 0 (cond b (c ∷ filter in_list rows) (filter in_list rows))) e) ∙ bare))
