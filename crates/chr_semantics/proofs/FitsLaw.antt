-- A match makes the heads the rows, has the variables of the heads alone, and is found wherever something makes the heads the rows.
use Rattle.std.proofs.Common.{◌≡◌, ℕ, Bool, true, false, cond, ◌||◌, ◌==◌, List, [], ◌∷◌, Option, Some, None, option_and_then, ap, refl, ◌∙◌, sym}
use Rattle.std.specs.Prelude.{unwrap_or}
use Rattle.std.specs.Ordering.{int_eq}
use Rattle.std.proofs.lemmas.Bool.Decides.{Decides-eqb, Decides-int_eq}
use Rattle.chr_semantics.specs.Tree.{Tree, var, int, node, Trees, none, more, same}
use Rattle.chr_semantics.specs.Subst.{Subst, binds_var, instance, instances, occurs, occurs_any, value_at}
use Rattle.chr_semantics.specs.Program.{Atom, Head}
use Rattle.chr_semantics.specs.Match.{AreMade, FitsLaw, Row, fit, fit_all, fit_atom, fit_rows, fit_var, fits, has_variable, made_atom, match_at}
use Rattle.chr_semantics.proofs.Makes.{Makes, MakesAll, MakesAtom, some_same, tested}
use Rattle.chr_semantics.proofs.MatchOrder.{MakesRows, fit_rows_makes, value_is}
use Rattle.chr_semantics.proofs.SameLaw.{same_law}
use Rattle.chr_semantics.proofs.Tests.{eqb_sym, or_assoc, or_false, or_turned}
use Rattle.std.proofs.lemmas.Option.{none-some}

-- the heads become the rows

mutual
  made_term : (m : Subst) (p t : Tree) → Makes m p t → instance (value_at m) p ≡ t
  made_term m (var x) t h = value_is m x ∙ ap (λ (o : Option Tree). unwrap_or o (var x)) h
  made_term m (int z) (var y) h = absurd h
  made_term m (int z) (int w) h = ap int h
  made_term m (int z) (node g us) h = absurd h
  made_term m (node f ts) (var y) h = absurd h
  made_term m (node f ts) (int w) h = absurd h
  made_term m (node f ts) (node g us) h = cc (h.0, made_terms m ts us h.1)

  made_terms : (m : Subst) (ps ts : Trees) → MakesAll m ps ts → instances (value_at m) ps ≡ ts
  made_terms m none none h = refl
  made_terms m none (more u us) h = absurd h
  made_terms m (more t ts) none h = absurd h
  made_terms m (more t ts) (more u us) h = cc (made_term m t u h.0, made_terms m ts us h.1)

made_row : (m : Subst) (h : Head) (a : Atom) → MakesAtom m h.atom a → made_atom (value_at m) h ≡ a
made_row m h a e = let args = made_terms m h.atom.args a.args e.1 in λ i. record { sym = e.0 i; args = args i }

made_rows : (m : Subst) (hs : List Head) (cs : List Row) → MakesRows m hs cs → AreMade (value_at m) hs cs
made_rows m [] [] h = refl
made_rows m [] (c ∷ cs) h = absurd h
made_rows m (x ∷ hs) [] h = absurd h
made_rows m (x ∷ hs) (c ∷ cs) h = cc (made_row m x c.1 h.0, made_rows m hs cs h.1)

-- the variables of a match

bound_of : (m : Subst) (x : ℕ) (u : Tree) → match_at m x ≡ Some u → binds_var m x ≡ true
bound_of [] x u e = absurd (none-some u e)
bound_of (p ∷ m) x u e = at_pair (p.0 == x) (bound_of m x u) e
  where
    at_pair : (b : Bool) → (match_at m x ≡ Some u → binds_var m x ≡ true) → cond b (Some p.1) (match_at m x) ≡ Some u → (b || binds_var m x) ≡ true
    at_pair true go e = refl
    at_pair false go e = go e

in_both : (a b : Bool) → (b ≡ true → a ≡ true) → a ≡ (a || b)
in_both true b h = refl
in_both false true h = h refl
in_both false false h = refl

var_binds : (m n : Subst) (x : ℕ) (t : Tree) (o : Option Tree) (y : ℕ) → match_at m x ≡ o → fit_var m x t o ≡ Some n → binds_var n y ≡ (binds_var m y || (y == x))
var_binds m n x t None y is h = ap (λ (k : Subst). binds_var k y) (sym (some_same ((x, t) ∷ m) n h)) ∙ or_turned (x == y) (binds_var m y) ∙ ap (λ (b : Bool). binds_var m y || b) (eqb_sym x y)
var_binds m n x t (Some u) y is h =
    let r = tested (same u t) (Some m) n h in
    ap (λ (k : Subst). binds_var k y) (sym (some_same m n r.1)) ∙ in_both (binds_var m y) (y == x) (λ e. ap (binds_var m) ((Decides-eqb y x).0 e) ∙ bound_of m x u is)

terms_next : (t u : Tree) (ts us : Trees) (m n : Subst) (y : ℕ) (o : Option Subst) → ((k : Subst) → o ≡ Some k → binds_var k y ≡ (binds_var m y || occurs y t)) → ((k : Subst) → fit_all ts us k ≡ Some n → binds_var n y ≡ (binds_var k y || occurs_any y ts))
    → option_and_then (fit_all ts us) o ≡ Some n → binds_var n y ≡ (binds_var m y || (occurs y t || occurs_any y ts))
terms_next t u ts us m n y None f g h = absurd (none-some n h)
terms_next t u ts us m n y (Some k) f g h = g k h ∙ ap (λ (b : Bool). b || occurs_any y ts) (f k refl) ∙ sym (or_assoc (binds_var m y) (occurs y t) (occurs_any y ts))

mutual
  term_binds : (p t : Tree) (m n : Subst) (y : ℕ) → fit p t m ≡ Some n → binds_var n y ≡ (binds_var m y || occurs y p)
  term_binds (var x) t m n y h = var_binds m n x t (match_at m x) y refl h
  term_binds (int z) (var w) m n y h = absurd (none-some n h)
  term_binds (int z) (int w) m n y h = let r = tested (int_eq z w) (Some m) n h in ap (λ (k : Subst). binds_var k y) (sym (some_same m n r.1)) ∙ or_false (binds_var m y)
  term_binds (int z) (node g us) m n y h = absurd (none-some n h)
  term_binds (node f ts) (var w) m n y h = absurd (none-some n h)
  term_binds (node f ts) (int w) m n y h = absurd (none-some n h)
  term_binds (node f ts) (node g us) m n y h = terms_bind ts us m n y (tested (f == g) (fit_all ts us m) n h).1

  terms_bind : (ps ts : Trees) (m n : Subst) (y : ℕ) → fit_all ps ts m ≡ Some n → binds_var n y ≡ (binds_var m y || occurs_any y ps)
  terms_bind none none m n y h = ap (λ (k : Subst). binds_var k y) (sym (some_same m n h)) ∙ or_false (binds_var m y)
  terms_bind none (more u us) m n y h = absurd (none-some n h)
  terms_bind (more t ts) none m n y h = absurd (none-some n h)
  terms_bind (more t ts) (more u us) m n y h = terms_next t u ts us m n y (fit t u m) (λ k is. term_binds t u m k y is) (λ k is. terms_bind ts us k n y is) h

rows_next : (x : Head) (hs : List Head) (cs : List Row) (m n : Subst) (y : ℕ) (o : Option Subst) → ((k : Subst) → o ≡ Some k → binds_var k y ≡ (binds_var m y || occurs_any y x.atom.args)) → ((k : Subst) → fit_rows hs cs k ≡ Some n → binds_var n y ≡ (binds_var k y || has_variable hs y))
    → option_and_then (fit_rows hs cs) o ≡ Some n → binds_var n y ≡ (binds_var m y || (occurs_any y x.atom.args || has_variable hs y))
rows_next x hs cs m n y None f g h = absurd (none-some n h)
rows_next x hs cs m n y (Some k) f g h = g k h ∙ ap (λ (b : Bool). b || has_variable hs y) (f k refl) ∙ sym (or_assoc (binds_var m y) (occurs_any y x.atom.args) (has_variable hs y))

rows_bind : (hs : List Head) (cs : List Row) (m n : Subst) (y : ℕ) → fit_rows hs cs m ≡ Some n → binds_var n y ≡ (binds_var m y || has_variable hs y)
rows_bind [] [] m n y h = ap (λ (k : Subst). binds_var k y) (sym (some_same m n h)) ∙ or_false (binds_var m y)
rows_bind [] (c ∷ cs) m n y h = absurd (none-some n h)
rows_bind (x ∷ hs) [] m n y h = absurd (none-some n h)
rows_bind (x ∷ hs) (c ∷ cs) m n y h =
    rows_next x hs cs m n y (fit_atom x.atom c.1 m) (λ k is. terms_bind x.atom.args c.1.args m k y (tested (x.atom.sym == c.1.sym) (fit_all x.atom.args c.1.args m) k is).1) (λ k is. rows_bind hs cs k n y is) h

-- what makes the heads the rows has what the match has

abbrev Agrees : Subst → (ℕ → Tree) → Type 0
Agrees m f = (x : ℕ) (u : Tree) → match_at m x ≡ Some u → f x ≡ u

var_found : (f : ℕ → Tree) (m : Subst) (x : ℕ) (o : Option Tree) → match_at m x ≡ o → Agrees m f → (n : Subst) × (fit_var m x (f x) o ≡ Some n) × Agrees n f
var_found f m x None is a = ((x, f x) ∷ m, refl, λ y u e. added (x == y) y u refl e)
  where
    added : (b : Bool) (y : ℕ) (u : Tree) → (x == y) ≡ b → cond b (Some (f x)) (match_at m y) ≡ Some u → f y ≡ u
    added true y u same e = let got : f x ≡ u = cc in ap f (sym ((Decides-eqb x y).0 same)) ∙ got
    added false y u other e = a y u e
var_found f m x (Some u) is a = (m, ap (λ (b : Bool). cond b (Some m) None) ((same_law.terms u (f x)).1 (sym (a x u is))), a)

mutual
  term_found : (f : ℕ → Tree) (p : Tree) (m : Subst) → Agrees m f → (n : Subst) × (fit p (instance f p) m ≡ Some n) × Agrees n f
  term_found f (var x) m a = var_found f m x (match_at m x) refl a
  term_found f (int z) m a = (m, ap (λ (b : Bool). cond b (Some m) None) ((Decides-int_eq z z).1 refl), a)
  term_found f (node g ts) m a = let w = terms_found f ts m a in (w.0, ap (λ (b : Bool). cond b (fit_all ts (instances f ts) m) None) ((Decides-eqb g g).1 refl) ∙ w.1, w.2)

  terms_found : (f : ℕ → Tree) (ps : Trees) (m : Subst) → Agrees m f → (n : Subst) × (fit_all ps (instances f ps) m ≡ Some n) × Agrees n f
  terms_found f none m a = (m, refl, a)
  terms_found f (more t ts) m a =
      let w = term_found f t m a in
      let v = terms_found f ts w.0 w.2 in
      (v.0, ap (option_and_then (fit_all ts (instances f ts))) w.1 ∙ v.1, v.2)

row_found : (f : ℕ → Tree) (h : Head) (a : Atom) (m : Subst) → made_atom f h ≡ a → Agrees m f → (n : Subst) × (fit_atom h.atom a m ≡ Some n) × Agrees n f
row_found f h a m e g =
    let w = terms_found f h.atom.args m g in
    (w.0, ap (λ (b : Atom). fit_atom h.atom b m) (sym e) ∙ ap (λ (b : Bool). cond b (fit_all h.atom.args (instances f h.atom.args) m) None) ((Decides-eqb h.atom.sym h.atom.sym).1 refl) ∙ w.1, w.2)

rows_found : (f : ℕ → Tree) (hs : List Head) (cs : List Row) (m : Subst) → AreMade f hs cs → Agrees m f → (n : Subst) × (fit_rows hs cs m ≡ Some n)
rows_found f [] [] m e a = (m, refl)
rows_found f [] (c ∷ cs) m e a = cc
rows_found f (x ∷ hs) [] m e a = cc
rows_found f (x ∷ hs) (c ∷ cs) m e a =
    let first : made_atom f x ≡ c.1 = cc in
    let rest : AreMade f hs cs = cc in
    let w = row_found f x c.1 m first a in
    let v = rows_found f hs cs w.0 rest w.2 in
    (v.0, ap (option_and_then (fit_rows hs cs)) w.1 ∙ v.1)

not_none : (f : ℕ → Tree) (hs : List Head) (cs : List Row) → fits hs cs ≡ None → AreMade f hs cs → ⊥
not_none f hs cs h e = let w = rows_found f hs cs [] e (λ x u g. absurd (none-some u g)) in none-some w.0 (sym h ∙ w.1)

pub fits_law : FitsLaw
fits_law = record {
  makes = λ hs cs m h. made_rows m hs cs (fit_rows_makes hs cs [] m h).1;
  variables = λ hs cs m h x. rows_bind hs cs [] m x h;
  none = λ hs cs h f e. not_none f hs cs h e;
}
