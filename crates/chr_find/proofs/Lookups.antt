-- Constraints by identity, where the identities ascend.
use Rattle.std.proofs.Common.{◌≡◌, ◌∙◌, ℕ, ◌<◌, Bool, true, false, cond, List, [], ◌∷◌, ap, sym, refl, subst, arith, ◌⊎◌, inl, inr}
use Rattle.std.specs.Prelude.{◌==◌, Option, Some, None, filter}
use Rattle.std.proofs.lemmas.Bool.{cases_order}
use Rattle.std.proofs.lemmas.Bool.Decides.{Decides-eqb}
use Rattle.chr_semantics.specs.Match.{Row}
use Rattle.chr_semantics.specs.Program.{Atom}
use Rattle.chr_semantics.specs.Search.{atom_of}
use Rattle.chr_find.specs.Shown.{AllOver, Rises}
use Rattle.std.proofs.lemmas.Option.{none-some}
use Rattle.chr_semantics.proofs.Plain.{some_same}

apart : (x y : ℕ) (b : Bool) → (x == y) ≡ b → y < x → b ≡ false
apart x y false e lt = refl
apart x y true e lt = absurd (omega (arith, lt, (Decides-eqb x y).0 e))

same : (x : ℕ) → (x == x) ≡ true
same x = (Decides-eqb x x).1 refl

none_over : (i : ℕ) (rows : List Row) → AllOver i rows → atom_of rows i ≡ None
none_over i [] h = refl
none_over i (c ∷ rows) h = rw (apart c.0 i (c.0 == i) refl h.0) (none_over i rows h.1)

over_more : (i j : ℕ) (rows : List Row) → i < j → AllOver j rows → AllOver i rows
over_more i j [] lt h = tt
over_more i j (c ∷ rows) lt h = (omega (arith, lt, h.0), over_more i j rows lt h.1)

first_is : (c : Row) (rows : List Row) → atom_of (c ∷ rows) c.0 ≡ Some c.1
first_is c rows = rw (same c.0) refl

row_is : (c d : Row) → c.0 ≡ d.0 → c.1 ≡ d.1 → c ≡ d
row_is c d e f i = (e i, f i)

-- behind a first row that two lists have in common they have the same
tails : (c d : Row) (xs ys : List Row) → c.0 ≡ d.0 → AllOver c.0 xs → AllOver d.0 ys → ((i : ℕ) → atom_of (c ∷ xs) i ≡ atom_of (d ∷ ys) i) → (i : ℕ) → atom_of xs i ≡ atom_of ys i
tails c d xs ys e over above h i = by_test (c.0 == i) refl
  where
    by_test : (b : Bool) → (c.0 == i) ≡ b → atom_of xs i ≡ atom_of ys i
    by_test true s =
        let at = (Decides-eqb c.0 i).0 s in
        none_over i xs (subst (λ (n : ℕ). AllOver n xs) at over) ∙ sym (none_over i ys (subst (λ (n : ℕ). AllOver n ys) (sym e ∙ at) above))
    by_test false s =
        sym (ap (λ (b : Bool). cond b (Some c.1) (atom_of xs i)) s) ∙ (h i ∙ ap (λ (b : Bool). cond b (Some d.1) (atom_of ys i)) (ap (λ (n : ℕ). n == i) (sym e) ∙ s))

-- rows that ascend and have the same at each identity are the same
pub same_rows : (xs ys : List Row) → Rises xs → Rises ys → ((i : ℕ) → atom_of xs i ≡ atom_of ys i) → xs ≡ ys
same_rows [] [] up also h = refl
same_rows [] (d ∷ ys) up also h = absurd (none-some d.1 (h d.0 ∙ first_is d ys))
same_rows (c ∷ xs) [] up also h = absurd (none-some c.1 (sym (h c.0) ∙ first_is c xs))
same_rows (c ∷ xs) (d ∷ ys) up also h = by_order (λ e. same_rows xs ys up.1 also.1 (tails c d xs ys e up.0 also.0 h)) (cases_order c.0 d.0)
  where
    by_order : (c.0 ≡ d.0 → xs ≡ ys) → (c.0 ≡ d.0) ⊎ ((c.0 < d.0) ⊎ (d.0 < c.0)) → c ∷ xs ≡ d ∷ ys
    by_order rest (inl e) =
        let atoms = some_same c.1 d.1 (sym (first_is c xs) ∙ (h c.0 ∙ (ap (atom_of (d ∷ ys)) e ∙ first_is d ys))) in
        ap (λ (x : Row). x ∷ xs) (row_is c d e atoms) ∙ ap (λ (l : List Row). d ∷ l) (rest e)
    by_order rest (inr (inl lt)) = absurd (none-some c.1 (sym (none_over c.0 (d ∷ ys) (lt, over_more c.0 d.0 ys lt also.0)) ∙ (sym (h c.0) ∙ first_is c xs)))
    by_order rest (inr (inr lt)) = absurd (none-some d.1 (sym (none_over d.0 (c ∷ xs) (lt, over_more d.0 c.0 xs lt up.0)) ∙ (h d.0 ∙ first_is d ys)))

-- the constraints that pass a test
abbrev pub atom_if : (Row → Bool) → ℕ → Option Atom → Option Atom
atom_if p i None = None
atom_if p i (Some a) = cond (p (i, a)) (Some a) None

over_test : (n : ℕ) (c : Row) (rows : List Row) (b : Bool) → n < c.0 → AllOver n rows → AllOver n (cond b (c ∷ rows) rows)
over_test n c rows true lt h = (lt, h)
over_test n c rows false lt h = h

over_filter : (n : ℕ) (p : Row → Bool) (rows : List Row) → AllOver n rows → AllOver n (filter p rows)
over_filter n p [] h = tt
over_filter n p (c ∷ rows) h = over_test n c (filter p rows) (p c) h.0 (over_filter n p rows h.1)

rises_test : (c : Row) (rows : List Row) (b : Bool) → AllOver c.0 rows → Rises rows → Rises (cond b (c ∷ rows) rows)
rises_test c rows true over up = (over, up)
rises_test c rows false over up = up

pub rises_filter : (p : Row → Bool) (rows : List Row) → Rises rows → Rises (filter p rows)
rises_filter p [] up = tt
rises_filter p (c ∷ rows) up = rises_test c (filter p rows) (p c) (over_filter c.0 p rows up.0) (rises_filter p rows up.1)

filter_at : (p : Row → Bool) (c : Row) (rows : List Row) (i : ℕ) (b t : Bool) → (c.0 == i) ≡ b → p c ≡ t → AllOver c.0 rows → atom_of (filter p rows) i ≡ atom_if p i (atom_of rows i)
    → atom_of (cond t (c ∷ filter p rows) (filter p rows)) i ≡ atom_if p i (cond b (Some c.1) (atom_of rows i))
filter_at p c rows i true true e is over go = rw e (ap (λ (b : Bool). cond b (Some c.1) None) (sym is ∙ ap (λ (n : ℕ). p (n, c.1)) ((Decides-eqb c.0 i).0 e)))
filter_at p c rows i false true e is over go = rw e go
filter_at p c rows i false false e is over go = go
filter_at p c rows i true false e is over go =
    let at = (Decides-eqb c.0 i).0 e in
    go ∙ (ap (atom_if p i) (none_over i rows (subst (λ (n : ℕ). AllOver n rows) at over)) ∙ ap (λ (b : Bool). cond b (Some c.1) None) (sym is ∙ ap (λ (n : ℕ). p (n, c.1)) at))

pub filter_looked : (p : Row → Bool) (rows : List Row) (i : ℕ) → Rises rows → atom_of (filter p rows) i ≡ atom_if p i (atom_of rows i)
filter_looked p [] i up = refl
filter_looked p (c ∷ rows) i up = filter_at p c rows i (c.0 == i) (p c) refl refl up.0 (filter_looked p rows i up.1)
