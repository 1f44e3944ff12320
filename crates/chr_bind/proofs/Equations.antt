-- Equations that are put together, and equations under a substitution.
use Rattle.std.proofs.Common.{◌≡◌, ℕ, ℤ, Bool, true, false, cond, ◌==◌, nat_lt, Option, Some, None, [], ◌∷◌, ◌++◌, ap, refl, ◌∙◌, sym, arith, append_assoc, append-nil}
use Rattle.std.specs.Ordering.{int_eq}
use Rattle.std.proofs.lemmas.Bool.Decides.{Decides-eqb, Decides-int_eq, nat_tests, same_from_decides}
use Rattle.std.proofs.lemmas.Bool.{eq-eqb}
use Rattle.chr_semantics.specs.Tree.{Tree, var, int, node, Trees, none, more}
use Rattle.chr_semantics.specs.Subst.{Subst, value_at, apply, instances}
use Rattle.chr_semantics.specs.Mgu.{Equations, both, apart, apart_all, apart_under}
use Rattle.chr_semantics.proofs.Tests.{eqb_sym}

pub both-nil : (p : Option Equations) → both p (Some []) ≡ p
both-nil None = refl
both-nil (Some es) = ap Some (append-nil es)

pub nil-both : (p : Option Equations) → both (Some []) p ≡ p
nil-both None = refl
nil-both (Some es) = refl

pub both-none : (p : Option Equations) → both p None ≡ None
both-none None = refl
both-none (Some es) = refl

pub both-assoc : (p q r : Option Equations) → both (both p q) r ≡ both p (both q r)
both-assoc None q r = refl
both-assoc (Some es) None r = refl
both-assoc (Some es) (Some fs) None = refl
both-assoc (Some es) (Some fs) (Some gs) = ap Some (append_assoc es fs gs)

int_eq_same : (z : ℤ) → int_eq z z ≡ true
int_eq_same z = (Decides-int_eq z z).1 refl

int_eq_sym : (z w : ℤ) → int_eq z w ≡ int_eq w z
int_eq_sym z w = same_from_decides (int_eq z w) (int_eq w z) (Decides-int_eq z w) ((λ h. sym ((Decides-int_eq w z).0 h)), (λ h. (Decides-int_eq w z).1 (sym h)))

-- a term taken apart with itself gives nothing
mutual
  pub apart_self : (t : Tree) → apart t t ≡ Some []
  apart_self (var x) = rw (eq-eqb x x refl) refl
  apart_self (int z) = rw (int_eq_same z) refl
  apart_self (node g ts) = rw (eq-eqb g g refl) (apart_all_self ts)

  apart_all_self : (ts : Trees) → apart_all ts ts ≡ Some []
  apart_all_self none = refl
  apart_all_self (more t ts) = rw (apart_self t, apart_all_self ts) refl

turned : (x y : ℕ) (b c d : Bool) → (x == y) ≡ b → nat_lt x y ≡ c → nat_lt y x ≡ d
    → (let l : Equations = cond b [] (cond c ((y, var x) ∷ []) ((x, var y) ∷ [])) in l ≡ cond b [] (cond d ((x, var y) ∷ []) ((y, var x) ∷ [])))
turned x y true c d e f g = refl
turned x y false true true e f g = absurd (grind (arith, nat_tests))
turned x y false true false e f g = refl
turned x y false false true e f g = refl
turned x y false false false e f g = absurd (grind (arith, nat_tests))

-- the order of the two terms does not count
mutual
  pub apart_sym : (a b : Tree) → apart a b ≡ apart b a
  apart_sym (var x) (var y) = ap Some (turned x y (x == y) (nat_lt x y) (nat_lt y x) refl refl refl ∙ rw (eqb_sym x y) refl)
  apart_sym (var x) (int z) = refl
  apart_sym (var x) (node g us) = refl
  apart_sym (int z) (var y) = refl
  apart_sym (int z) (int w) = rw (int_eq_sym z w) refl
  apart_sym (int z) (node g us) = refl
  apart_sym (node f ts) (var y) = refl
  apart_sym (node f ts) (int w) = refl
  apart_sym (node f ts) (node g us) = ap (λ p. cond (f == g) p None) (apart_all_sym ts us) ∙ ap (λ b. cond b (apart_all us ts) None) (eqb_sym f g)

  apart_all_sym : (ts us : Trees) → apart_all ts us ≡ apart_all us ts
  apart_all_sym none none = refl
  apart_all_sym none (more u us) = refl
  apart_all_sym (more t ts) none = refl
  apart_all_sym (more t ts) (more u us) = ap (λ p. both p (apart_all ts us)) (apart_sym t u) ∙ ap (both (apart u t)) (apart_all_sym ts us)

-- the equations, where there are some, under a substitution
abbrev pub under : Subst → Option Equations → Option Equations
under s None = None
under s (Some es) = apart_under s es

apart_under-append : (s : Subst) (es fs : Equations) → apart_under s (es ++ fs) ≡ both (apart_under s es) (apart_under s fs)
apart_under-append s [] fs = sym (nil-both (apart_under s fs))
apart_under-append s (e ∷ es) fs =
    let first_one = apart (value_at s e.0) (apply s e.1) in
    ap (both first_one) (apart_under-append s es fs) ∙ sym (both-assoc first_one (apart_under s es) (apart_under s fs))

pub under-both : (s : Subst) (p q : Option Equations) → under s (both p q) ≡ both (under s p) (under s q)
under-both s None q = refl
under-both s (Some es) None = sym (both-none (apart_under s es))
under-both s (Some es) (Some fs) = apart_under-append s es fs

under-cond : (b : Bool) (s : Subst) (p q : Option Equations) → p ≡ under s q → cond b p None ≡ under s (cond b q None)
under-cond true s p q e = e
under-cond false s p q e = refl

var_var : (b c : Bool) (s : Subst) (x y : ℕ) → (x == y) ≡ b → apart (value_at s x) (value_at s y) ≡ under s (Some (cond b [] (cond c ((y, var x) ∷ []) ((x, var y) ∷ []))))
var_var true c s x y e = let is : x ≡ y = (Decides-eqb x y).0 e in rw is (apart_self (value_at s y))
var_var false true s x y e = apart_sym (value_at s x) (value_at s y) ∙ sym (both-nil (apart (value_at s y) (value_at s x)))
var_var false false s x y e = sym (both-nil (apart (value_at s x) (value_at s y)))

-- terms under a substitution are taken apart to the equations under it
mutual
  pub apart-instance : (s : Subst) (a b : Tree) → apart (apply s a) (apply s b) ≡ under s (apart a b)
  apart-instance s (var x) (var y) = var_var (x == y) (nat_lt x y) s x y refl
  apart-instance s (var x) (int z) = sym (both-nil (apart (value_at s x) (int z)))
  apart-instance s (var x) (node g us) = sym (both-nil (apart (value_at s x) (apply s (node g us))))
  apart-instance s (int z) (var y) = apart_sym (int z) (value_at s y) ∙ sym (both-nil (apart (value_at s y) (int z)))
  apart-instance s (int z) (int w) = under-cond (int_eq z w) s (Some []) (Some []) refl
  apart-instance s (int z) (node g us) = refl
  apart-instance s (node f ts) (var y) = apart_sym (apply s (node f ts)) (value_at s y) ∙ sym (both-nil (apart (value_at s y) (apply s (node f ts))))
  apart-instance s (node f ts) (int w) = refl
  apart-instance s (node f ts) (node g us) = under-cond (f == g) s (apart_all (instances (value_at s) ts) (instances (value_at s) us)) (apart_all ts us) (apart_all-instance s ts us)

  pub apart_all-instance : (s : Subst) (ts us : Trees) → apart_all (instances (value_at s) ts) (instances (value_at s) us) ≡ under s (apart_all ts us)
  apart_all-instance s none none = refl
  apart_all-instance s none (more u us) = refl
  apart_all-instance s (more t ts) none = refl
  apart_all-instance s (more t ts) (more u us) =
      ap (λ p. both p (apart_all (instances (value_at s) ts) (instances (value_at s) us))) (apart-instance s t u) ∙ ap (both (under s (apart t u))) (apart_all-instance s ts us) ∙ sym (under-both s (apart t u) (apart_all ts us))
