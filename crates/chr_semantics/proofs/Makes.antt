-- A match is the least one that makes the patterns the terms.
use Rattle.std.proofs.Common.{◌≡◌, ℕ, Bool, true, false, cond, ◌==◌, ◌∷◌, Option, Some, None, option_and_then, ap, refl, ◌∙◌, sym, true≢false}
use Rattle.std.specs.Ordering.{int_eq}
use Rattle.std.proofs.lemmas.Bool.{eq-eqb}
use Rattle.std.proofs.lemmas.Bool.Decides.{Decides-eqb, Decides-int_eq}
use Rattle.chr_semantics.specs.Tree.{Tree, var, int, node, Trees, none, more, same}
use Rattle.chr_semantics.specs.Subst.{Subst}
use Rattle.chr_semantics.specs.Program.{Atom}
use Rattle.chr_semantics.specs.Match.{match_at, fit, fit_all, fit_var, fit_atom}
use Rattle.chr_semantics.proofs.SameLaw.{same_law}
use Rattle.std.proofs.lemmas.Option.{none-some}

-- n has what m has
abbrev pub Extends : Subst → Subst → Type 0
Extends m n = (x : ℕ) (u : Tree) → match_at m x ≡ Some u → match_at n x ≡ Some u

-- the match makes the pattern the term
abbrev mutual
  pub Makes : Subst → Tree → Tree → Type 0
  Makes m (var x) t = match_at m x ≡ Some t
  Makes m (int z) (var y) = ⊥
  Makes m (int z) (int w) = z ≡ w
  Makes m (int z) (node g us) = ⊥
  Makes m (node f ts) (var y) = ⊥
  Makes m (node f ts) (int w) = ⊥
  Makes m (node f ts) (node g us) = (f ≡ g) × MakesAll m ts us

  pub MakesAll : Subst → Trees → Trees → Type 0
  MakesAll m none none = Unit {0}
  MakesAll m none (more u us) = ⊥
  MakesAll m (more t ts) none = ⊥
  MakesAll m (more t ts) (more u us) = Makes m t u × MakesAll m ts us

pub Extends-itself : (m : Subst) → Extends m m
Extends-itself m x u e = e

pub Extends-through : (m n k : Subst) → Extends m n → Extends n k → Extends m k
Extends-through m n k f g x u e = g x u (f x u e)

mutual
  pub Makes-more : (m n : Subst) (p t : Tree) → Extends m n → Makes m p t → Makes n p t
  Makes-more m n (var x) t f h = f x t h
  Makes-more m n (int z) (var y) f h = absurd h
  Makes-more m n (int z) (int w) f h = h
  Makes-more m n (int z) (node g us) f h = absurd h
  Makes-more m n (node g ts) (var y) f h = absurd h
  Makes-more m n (node g ts) (int w) f h = absurd h
  Makes-more m n (node g ts) (node k us) f h = (h.0, MakesAll-more m n ts us f h.1)

  pub MakesAll-more : (m n : Subst) (ps ts : Trees) → Extends m n → MakesAll m ps ts → MakesAll n ps ts
  MakesAll-more m n none none f h = tt
  MakesAll-more m n none (more u us) f h = absurd h
  MakesAll-more m n (more t ts) none f h = absurd h
  MakesAll-more m n (more t ts) (more u us) f h = (Makes-more m n t u f h.0, MakesAll-more m n ts us f h.1)

-- a variable that is new
new_at : (b : Bool) (x y : ℕ) (t u : Tree) (m : Subst) → (x == y) ≡ b → match_at m x ≡ None → match_at m y ≡ Some u → cond b (Some t) (match_at m y) ≡ Some u
new_at true x y t u m is free e = let same : x ≡ y = (Decides-eqb x y).0 is in cc
new_at false x y t u m is free e = e

new_found : (b : Bool) (x : ℕ) (t : Tree) (m : Subst) → b ≡ true → cond b (Some t) (match_at m x) ≡ Some t
new_found true x t m e = refl
new_found false x t m e = absurd (true≢false (sym e))

pub some_same : (m n : Subst) → Some m ≡ Some n → m ≡ n
some_same m n e = cc

-- a test in front of a match
pub tested : (b : Bool) (o : Option Subst) (n : Subst) → cond b o None ≡ Some n → (b ≡ true) × (o ≡ Some n)
tested true o n e = (refl, e)
tested false o n e = absurd (none-some n e)

pub from_same : (m n : Subst) → m ≡ n → Extends m n
from_same m n e x u h = ap (λ (k : Subst). match_at k x) (sym e) ∙ h

fit_var_makes : (m n : Subst) (x : ℕ) (t : Tree) (o : Option Tree) → match_at m x ≡ o → fit_var m x t o ≡ Some n → Extends m n × (match_at n x ≡ Some t)
fit_var_makes m n x t None is h =
    let e : (x, t) ∷ m ≡ n = some_same ((x, t) ∷ m) n h in (
      λ y u f. ap (λ (k : Subst). match_at k y) (sym e) ∙ new_at (x == y) x y t u m refl is f,
      ap (λ (k : Subst). match_at k x) (sym e) ∙ new_found (x == x) x t m (eq-eqb x x refl),
    )
fit_var_makes m n x t (Some u) is h =
    let r = tested (same u t) (Some m) n h in
    let e : m ≡ n = some_same m n r.1 in
    (from_same m n e, ap (λ (k : Subst). match_at k x) (sym e) ∙ is ∙ ap (λ (v : Tree). Some v) ((same_law.terms u t).0 r.0))

fit_all_next : (t u : Tree) (ts us : Trees) (m n : Subst) (o : Option Subst) → ((k : Subst) → fit t u m ≡ Some k → Extends m k × Makes k t u) → ((k : Subst) → fit_all ts us k ≡ Some n → Extends k n × MakesAll n ts us)
    → fit t u m ≡ o → option_and_then (fit_all ts us) o ≡ Some n → Extends m n × MakesAll n (more t ts) (more u us)
fit_all_next t u ts us m n None f g is h = absurd (none-some n h)
fit_all_next t u ts us m n (Some k) f g is h =
    let a = f k is in
    let b = g k h in
    (Extends-through m k n a.0 b.0, (Makes-more k n t u b.0 a.1, b.1))

-- what is found has what was there, and makes the pattern the term
mutual
  pub fit_makes : (p t : Tree) (m n : Subst) → fit p t m ≡ Some n → Extends m n × Makes n p t
  fit_makes (var x) t m n h = fit_var_makes m n x t (match_at m x) refl h
  fit_makes (int z) (var y) m n h = absurd (none-some n h)
  fit_makes (int z) (int w) m n h = let r = tested (int_eq z w) (Some m) n h in (from_same m n (some_same m n r.1), (Decides-int_eq z w).0 r.0)
  fit_makes (int z) (node g us) m n h = absurd (none-some n h)
  fit_makes (node f ts) (var y) m n h = absurd (none-some n h)
  fit_makes (node f ts) (int w) m n h = absurd (none-some n h)
  fit_makes (node f ts) (node g us) m n h =
      let r = tested (f == g) (fit_all ts us m) n h in
      let a = fit_all_makes ts us m n r.1 in
      (a.0, ((Decides-eqb f g).0 r.0, a.1))

  pub fit_all_makes : (ps ts : Trees) (m n : Subst) → fit_all ps ts m ≡ Some n → Extends m n × MakesAll n ps ts
  fit_all_makes none none m n h = (from_same m n (some_same m n h), tt)
  fit_all_makes none (more u us) m n h = absurd (none-some n h)
  fit_all_makes (more t ts) none m n h = absurd (none-some n h)
  fit_all_makes (more t ts) (more u us) m n h = fit_all_next t u ts us m n (fit t u m) (λ k is. fit_makes t u m k is) (λ k is. fit_all_makes ts us k n is) refl h

-- whatever has what was there and makes the pattern the term has what is found
fit_var_least : (m k : Subst) (x : ℕ) (t : Tree) (o : Option Tree) → match_at m x ≡ o → Extends m k → match_at k x ≡ Some t → (n : Subst) × (fit_var m x t o ≡ Some n) × Extends n k
fit_var_least m k x t None is f h = ((x, t) ∷ m, refl, (λ y u e. new_least (x == y) m k x y t u refl f h e))
  where
    new_least : (b : Bool) (m k : Subst) (x y : ℕ) (t u : Tree) → (x == y) ≡ b → Extends m k → match_at k x ≡ Some t → cond b (Some t) (match_at m y) ≡ Some u → match_at k y ≡ Some u
    new_least true m k x y t u is f h e = ap (match_at k) (sym ((Decides-eqb x y).0 is)) ∙ h ∙ e
    new_least false m k x y t u is f h e = f y u e
fit_var_least m k x t (Some u) is f h = known (same u t) refl
  where
    equal : u ≡ t
    equal = let e : Some u ≡ Some t = sym (f x u is) ∙ h in cc

    known : (b : Bool) → same u t ≡ b → (n : Subst) × (cond b (Some m) None ≡ Some n) × Extends n k
    known true e = (m, refl, f)
    known false e = absurd (true≢false (sym ((same_law.terms u t).1 equal) ∙ e))

mutual
  pub fit_least : (p t : Tree) (m k : Subst) → Extends m k → Makes k p t → (n : Subst) × (fit p t m ≡ Some n) × Extends n k
  fit_least (var x) t m k f h = fit_var_least m k x t (match_at m x) refl f h
  fit_least (int z) (var y) m k f h = absurd h
  fit_least (int z) (int w) m k f h = (m, ap (λ (b : Bool). cond b (Some m) None) ((Decides-int_eq z w).1 h), f)
  fit_least (int z) (node g us) m k f h = absurd h
  fit_least (node g ts) (var y) m k f h = absurd h
  fit_least (node g ts) (int w) m k f h = absurd h
  fit_least (node g ts) (node l us) m k f h =
      let a = fit_all_least ts us m k f h.1 in
      (a.0, ap (λ (b : Bool). cond b (fit_all ts us m) None) ((Decides-eqb g l).1 h.0) ∙ a.1, a.2)

  pub fit_all_least : (ps ts : Trees) (m k : Subst) → Extends m k → MakesAll k ps ts → (n : Subst) × (fit_all ps ts m ≡ Some n) × Extends n k
  fit_all_least none none m k f h = (m, refl, f)
  fit_all_least none (more u us) m k f h = absurd h
  fit_all_least (more t ts) none m k f h = absurd h
  fit_all_least (more t ts) (more u us) m k f h =
      let a = fit_least t u m k f h.0 in
      let b = fit_all_least ts us a.0 k a.2 h.1 in
      (b.0, ap (option_and_then (fit_all ts us)) a.1 ∙ b.1, b.2)

-- constraints
abbrev pub MakesAtom : Subst → Atom → Atom → Type 0
MakesAtom m h a = (h.sym ≡ a.sym) × MakesAll m h.args a.args

pub MakesAtom-more : (m n : Subst) (h a : Atom) → Extends m n → MakesAtom m h a → MakesAtom n h a
MakesAtom-more m n h a f e = (e.0, MakesAll-more m n h.args a.args f e.1)

pub fit_atom_makes : (h a : Atom) (m n : Subst) → fit_atom h a m ≡ Some n → Extends m n × MakesAtom n h a
fit_atom_makes h a m n e =
    let r = tested (h.sym == a.sym) (fit_all h.args a.args m) n e in
    let b = fit_all_makes h.args a.args m n r.1 in
    (b.0, ((Decides-eqb h.sym a.sym).0 r.0, b.1))

pub fit_atom_least : (h a : Atom) (m k : Subst) → Extends m k → MakesAtom k h a → (n : Subst) × (fit_atom h a m ≡ Some n) × Extends n k
fit_atom_least h a m k f e =
    let b = fit_all_least h.args a.args m k f e.1 in
    (b.0, ap (λ (t : Bool). cond t (fit_all h.args a.args m) None) ((Decides-eqb h.sym a.sym).1 e.0) ∙ b.1, b.2)
