-- What makes two terms equal makes the equations equal that they are taken apart to, and the other way round.
use Rattle.std.proofs.Common.{Bool, None, Option, Some, [], ap, cond, false, nat_lt, refl, sym, true, true≢false, ℕ, ◌++◌, ◌==◌, ◌∙◌, ◌∷◌, ◌≡◌}
use Rattle.std.proofs.lemmas.Bool.Decides.{Decides-eqb, Decides-int_eq}
use Rattle.std.specs.Ordering.{int_eq}
use Rattle.chr_semantics.specs.Mgu.{Equations, apart, apart_all, apart_under, both, of_var}
use Rattle.chr_semantics.specs.Subst.{Solves, Subst, apply, instance, instances, value_at}
use Rattle.chr_semantics.specs.Tree.{Tree, Trees, int, more, node, none, var}
use Rattle.chr_semantics.proofs.Instances.{instance-solves}

-- f makes both sides of each equation equal
abbrev pub Holds : (ℕ → Tree) → Equations → Type 0
Holds f [] = Unit {0}
Holds f (e ∷ es) = (f e.0 ≡ instance f e.1) × Holds f es

-- there are equations, and f makes them equal
abbrev pub HoldsIn : (ℕ → Tree) → Option Equations → Type 0
HoldsIn f None = ⊥
HoldsIn f (Some es) = Holds f es

Holds-append : (f : ℕ → Tree) (es fs : Equations) → Holds f es → Holds f fs → Holds f (es ++ fs)
Holds-append f [] fs h k = k
Holds-append f (e ∷ es) fs h k = (h.0, Holds-append f es fs h.1 k)

Holds-parts : (f : ℕ → Tree) (es fs : Equations) → Holds f (es ++ fs) → Holds f es × Holds f fs
Holds-parts f [] fs h = (tt, h)
Holds-parts f (e ∷ es) fs h = let r = Holds-parts f es fs h.1 in ((h.0, r.0), r.1)

HoldsIn-both : (f : ℕ → Tree) (p q : Option Equations) → HoldsIn f p → HoldsIn f q → HoldsIn f (both p q)
HoldsIn-both f None q h k = h
HoldsIn-both f (Some es) None h k = k
HoldsIn-both f (Some es) (Some fs) h k = Holds-append f es fs h k

HoldsIn-parts : (f : ℕ → Tree) (p q : Option Equations) → HoldsIn f (both p q) → HoldsIn f p × HoldsIn f q
HoldsIn-parts f None q h = absurd h
HoldsIn-parts f (Some es) None h = absurd h
HoldsIn-parts f (Some es) (Some fs) h = Holds-parts f es fs h

ordered_holds : (b c : Bool) (f : ℕ → Tree) (x y : ℕ) → f x ≡ f y → Holds f (cond b [] (cond c ((y, var x) ∷ []) ((x, var y) ∷ [])))
ordered_holds true c f x y e = tt
ordered_holds false true f x y e = (sym e, tt)
ordered_holds false false f x y e = (e, tt)

ordered_equal : (b c : Bool) (f : ℕ → Tree) (x y : ℕ) → (b ≡ true → x ≡ y) → Holds f (cond b [] (cond c ((y, var x) ∷ []) ((x, var y) ∷ []))) → f x ≡ f y
ordered_equal true c f x y same h = ap f (same refl)
ordered_equal false true f x y same h = sym h.0
ordered_equal false false f x y same h = h.0

of_var_holds : (f : ℕ → Tree) (x : ℕ) (b : Tree) → f x ≡ instance f b → Holds f (of_var x b)
of_var_holds f x (var y) e = ordered_holds (x == y) (nat_lt x y) f x y e
of_var_holds f x (int z) e = (e, tt)
of_var_holds f x (node g ts) e = (e, tt)

of_var_equal : (f : ℕ → Tree) (x : ℕ) (b : Tree) → Holds f (of_var x b) → f x ≡ instance f b
of_var_equal f x (var y) h = ordered_equal (x == y) (nat_lt x y) f x y (Decides-eqb x y).0 h
of_var_equal f x (int z) h = h.0
of_var_equal f x (node g ts) h = h.0

tested_holds : (b : Bool) (f : ℕ → Tree) (p : Option Equations) → b ≡ true → HoldsIn f p → HoldsIn f (cond b p None)
tested_holds true f p h k = k
tested_holds false f p h k = absurd (true≢false (sym h))

tested_parts : (b : Bool) (f : ℕ → Tree) (p : Option Equations) → HoldsIn f (cond b p None) → (b ≡ true) × HoldsIn f p
tested_parts true f p h = (refl, h)
tested_parts false f p h = absurd h

mutual
  pub apart_holds : (f : ℕ → Tree) (a b : Tree) → instance f a ≡ instance f b → HoldsIn f (apart a b)
  apart_holds f (var x) b e = of_var_holds f x b e
  apart_holds f (int z) (var y) e = (sym e, tt)
  apart_holds f (int z) (int w) e = tested_holds (int_eq z w) f (Some []) ((Decides-int_eq z w).1 (cc)) tt
  apart_holds f (int z) (node g us) e = cc
  apart_holds f (node g ts) (var y) e = (sym e, tt)
  apart_holds f (node g ts) (int w) e = cc
  apart_holds f (node g ts) (node h us) e = tested_holds (g == h) f (apart_all ts us) ((Decides-eqb g h).1 (cc)) (apart_all_holds f ts us (cc))

  pub apart_all_holds : (f : ℕ → Tree) (ts us : Trees) → instances f ts ≡ instances f us → HoldsIn f (apart_all ts us)
  apart_all_holds f none none e = tt
  apart_all_holds f none (more u us) e = cc
  apart_all_holds f (more t ts) none e = cc
  apart_all_holds f (more t ts) (more u us) e = HoldsIn-both f (apart t u) (apart_all ts us) (apart_holds f t u (cc)) (apart_all_holds f ts us (cc))

mutual
  pub apart_equal : (f : ℕ → Tree) (a b : Tree) → HoldsIn f (apart a b) → instance f a ≡ instance f b
  apart_equal f (var x) b h = of_var_equal f x b h
  apart_equal f (int z) (var y) h = sym h.0
  apart_equal f (int z) (int w) h = ap int ((Decides-int_eq z w).0 (tested_parts (int_eq z w) f (Some []) h).0)
  apart_equal f (int z) (node g us) h = absurd h
  apart_equal f (node g ts) (var y) h = sym h.0
  apart_equal f (node g ts) (int w) h = absurd h
  apart_equal f (node g ts) (node k us) h = let r = tested_parts (g == k) f (apart_all ts us) h in cc ((Decides-eqb g k).0 r.0, apart_all_equal f ts us r.1)

  pub apart_all_equal : (f : ℕ → Tree) (ts us : Trees) → HoldsIn f (apart_all ts us) → instances f ts ≡ instances f us
  apart_all_equal f none none h = refl
  apart_all_equal f none (more u us) h = absurd h
  apart_all_equal f (more t ts) none h = absurd h
  apart_all_equal f (more t ts) (more u us) h = let r = HoldsIn-parts f (apart t u) (apart_all ts us) h in cc (apart_equal f t u r.0, apart_all_equal f ts us r.1)

-- so it is with equations under a substitution that f solves
pub apart_under_holds : (f : ℕ → Tree) (s : Subst) (es : Equations) → Solves f s → Holds f es → HoldsIn f (apart_under s es)
apart_under_holds f s [] k h = tt
apart_under_holds f s (e ∷ es) k h = HoldsIn-both f (apart (value_at s e.0) (apply s e.1)) (apart_under s es) (apart_holds f (value_at s e.0) (apply s e.1) (k e.0 ∙ h.0 ∙ sym (instance-solves f s k e.1))) (apart_under_holds f s es k h.1)

pub apart_under_equal : (f : ℕ → Tree) (s : Subst) (es : Equations) → Solves f s → HoldsIn f (apart_under s es) → Holds f es
apart_under_equal f s [] k h = tt
apart_under_equal f s (e ∷ es) k h =
    let r = HoldsIn-parts f (apart (value_at s e.0) (apply s e.1)) (apart_under s es) h in
    (sym (k e.0) ∙ apart_equal f (value_at s e.0) (apply s e.1) r.0 ∙ instance-solves f s k e.1, apart_under_equal f s es k r.1)
