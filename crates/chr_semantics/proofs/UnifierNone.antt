-- Where there is no unifier, nothing makes the equations equal.
use Rattle.std.proofs.Common.{Bool, List, None, Option, Some, [], ap, arith, cond, false, inl, inr, length, nat_lt, refl, subst, suc, sym, true, true≢false, zero, ℕ, ◌++◌, ◌+◌, ◌<◌, ◌==◌, ◌∙◌, ◌∷◌, ◌≡◌, ◌≤◌, ◌⊎◌}
use Rattle.std.proofs.lemmas.Bool.{or_cases, or_parts}
use Rattle.std.proofs.lemmas.Bool.Decides.{Decides-eqb}
use Rattle.std.specs.Ordering.{int_eq}
use Rattle.chr_semantics.specs.Mgu.{vars, elimination, Equations, apart, apart_all, apart_under, both, mgu, of_var, elimination_from, vars_of_all}
use Rattle.chr_semantics.specs.Subst.{Solves, Subst, apply, with_binding, occurs, occurs_any, instance, instances, value_at}
use Rattle.chr_semantics.specs.Tree.{Tree, Trees, int, more, node, none, var}
use Rattle.chr_semantics.proofs.Apart.{Holds, HoldsIn, apart_holds, apart_under_holds}
use Rattle.chr_semantics.proofs.Instances.{Solves-one, instance-solves}
use Rattle.chr_semantics.proofs.UnifierEqual.{one}

-- the number is in the list
abbrev pub Has : ℕ → List ℕ → Type 0
Has x [] = ⊥
Has x (y ∷ vs) = (x ≡ y) ⊎ Has x vs

pub without : ℕ → List ℕ → List ℕ
without x [] = []
without x (y ∷ vs) = cond (x == y) (without x vs) (y ∷ without x vs)

length-cond : (b : Bool) (y : ℕ) (vs : List ℕ) (n : ℕ) → length vs ≤ n → length (cond b vs (y ∷ vs)) ≤ suc n
length-cond true y vs n h = omega arith
length-cond false y vs n h = omega arith

length-without-le : (x : ℕ) (vs : List ℕ) → length (without x vs) ≤ length vs
unfolding without
length-without-le x [] = omega arith
length-without-le x (y ∷ vs) = length-cond (x == y) y (without x vs) (length vs) (length-without-le x vs)

length-cond-lt : (b : Bool) (y : ℕ) (vs : List ℕ) (n : ℕ) → length vs < n → length (cond b vs (y ∷ vs)) < suc n
length-cond-lt true y vs n h = omega arith
length-cond-lt false y vs n h = omega arith

length-without : (x : ℕ) (vs : List ℕ) → Has x vs → length (without x vs) < length vs
unfolding without
length-without x [] h = absurd h
length-without x (y ∷ vs) (inl e) = rw ((Decides-eqb x y).1 e) (omega (arith, length-without-le x vs))
length-without x (y ∷ vs) (inr h) = length-cond-lt (x == y) y (without x vs) (length vs) (length-without x vs h)

Has-cond : (b : Bool) (x y z : ℕ) (vs : List ℕ) → (x == z) ≡ b → (x == y) ≡ false → (y ≡ z) ⊎ Has y vs → Has y (cond b vs (z ∷ vs))
Has-cond true x y z vs e h (inl k) = absurd (true≢false (sym e ∙ ap (λ v. x == v) (sym k) ∙ h))
Has-cond true x y z vs e h (inr k) = k
Has-cond false x y z vs e h k = k

Has-tail : (x y z : ℕ) (vs : List ℕ) → ((Has y vs) → Has y (without x vs)) → (y ≡ z) ⊎ Has y vs → (y ≡ z) ⊎ Has y (without x vs)
Has-tail x y z vs f (inl e) = inl e
Has-tail x y z vs f (inr h) = inr (f h)

Has-without : (x y : ℕ) (vs : List ℕ) → (x == y) ≡ false → Has y vs → Has y (without x vs)
unfolding without
Has-without x y [] h k = k
Has-without x y (z ∷ vs) h k = Has-cond (x == z) x y z (without x vs) refl h (Has-tail x y z vs (λ w. Has-without x y vs h w) k)

pub Has-within : (x y : ℕ) (vs : List ℕ) → Has y (without x vs) → Has y vs
unfolding without
Has-within x y [] h = h
Has-within x y (v ∷ vs) h = by (x == v) (Has-within x y vs) h
  where
    by : (b : Bool) → (Has y (without x vs) → Has y vs) → Has y (cond b (without x vs) (v ∷ without x vs)) → (y ≡ v) ⊎ Has y vs
    by true go h = inr (go h)
    by false go (inl e) = inl e
    by false go (inr h) = inr (go h)

abbrev mutual
  pub In : List ℕ → Tree → Type 0
  In vs (var y) = Has y vs
  In vs (int z) = Unit {0}
  In vs (node g ts) = InAll vs ts

  pub InAll : List ℕ → Trees → Type 0
  InAll vs none = Unit {0}
  InAll vs (more t ts) = In vs t × InAll vs ts

mutual
  pub absent_in : (x : ℕ) (vs : List ℕ) (t : Tree) → occurs x t ≡ false → In vs t → In (without x vs) t
  absent_in x vs (var y) h k = Has-without x y vs h k
  absent_in x vs (int z) h k = tt
  absent_in x vs (node g ts) h k = absent_in_all x vs ts h k

  absent_in_all : (x : ℕ) (vs : List ℕ) (ts : Trees) → occurs_any x ts ≡ false → InAll vs ts → InAll (without x vs) ts
  absent_in_all x vs none h k = tt
  absent_in_all x vs (more t ts) h k = let r = or_parts (occurs x t) (occurs_any x ts) h in (absent_in x vs t r.0 k.0, absent_in_all x vs ts r.1 k.1)

in_at : (b : Bool) (x y : ℕ) (u : Tree) (vs : List ℕ) → (x == y) ≡ b → In (without x vs) u → Has y vs → In (without x vs) (cond b u (var y))
in_at true x y u vs e h k = h
in_at false x y u vs e h k = Has-without x y vs e k

mutual
  apply_in : (x : ℕ) (u t : Tree) (vs : List ℕ) → In (without x vs) u → In vs t → In (without x vs) (apply (one x u) t)
  apply_in x u (var y) vs h k = in_at (x == y) x y u vs refl h k
  apply_in x u (int z) vs h k = tt
  apply_in x u (node g ts) vs h k = apply_in_all x u ts vs h k

  apply_in_all : (x : ℕ) (u : Tree) (ts : Trees) (vs : List ℕ) → In (without x vs) u → InAll vs ts → InAll (without x vs) (instances (value_at (one x u)) ts)
  apply_in_all x u none vs h k = tt
  apply_in_all x u (more t ts) vs h k = (apply_in x u t vs h k.0, apply_in_all x u ts vs h k.1)

-- the term is not the variable itself
abbrev pub IsProper : ℕ → Tree → Type 0
IsProper x (var y) = (x == y) ≡ false
IsProper x (int z) = Unit {0}
IsProper x (node g ts) = Unit {0}

-- the variables of the equations are among vs, and no equation is between a variable and itself
abbrev pub Fine : List ℕ → Equations → Type 0
Fine vs [] = Unit {0}
Fine vs (e ∷ es) = Has e.0 vs × In vs e.1 × IsProper e.0 e.1 × Fine vs es

abbrev pub FineIn : List ℕ → Option Equations → Type 0
FineIn vs None = Unit {0}
FineIn vs (Some es) = Fine vs es

Fine-append : (vs : List ℕ) (es fs : Equations) → Fine vs es → Fine vs fs → Fine vs (es ++ fs)
Fine-append vs [] fs h k = k
Fine-append vs (e ∷ es) fs h k = (h.0, h.1, h.2, Fine-append vs es fs h.3 k)

FineIn-both : (vs : List ℕ) (p q : Option Equations) → FineIn vs p → FineIn vs q → FineIn vs (both p q)
FineIn-both vs None q h k = tt
FineIn-both vs (Some es) None h k = tt
FineIn-both vs (Some es) (Some fs) h k = Fine-append vs es fs h k

swapped : (b : Bool) (x y : ℕ) → (x == y) ≡ b → b ≡ false → (y == x) ≡ false
swapped b x y e h = grind (arith, Decides-eqb x y, Decides-eqb y x)

ordered_fine : (b c : Bool) (vs : List ℕ) (x y : ℕ) → (x == y) ≡ b → Has x vs → Has y vs → Fine vs (cond b [] (cond c ((y, var x) ∷ []) ((x, var y) ∷ [])))
ordered_fine true c vs x y e h k = tt
ordered_fine false true vs x y e h k = (k, h, swapped false x y e refl, tt)
ordered_fine false false vs x y e h k = (h, k, e, tt)

of_var_fine : (vs : List ℕ) (x : ℕ) (b : Tree) → Has x vs → In vs b → Fine vs (of_var x b)
of_var_fine vs x (var y) h k = ordered_fine (x == y) (nat_lt x y) vs x y refl h k
of_var_fine vs x (int z) h k = (h, k, tt, tt)
of_var_fine vs x (node g ts) h k = (h, k, tt, tt)

tested_fine : (b : Bool) (vs : List ℕ) (p : Option Equations) → FineIn vs p → FineIn vs (cond b p None)
tested_fine true vs p h = h
tested_fine false vs p h = tt

mutual
  pub apart_fine : (vs : List ℕ) (a b : Tree) → In vs a → In vs b → FineIn vs (apart a b)
  apart_fine vs (var x) b h k = of_var_fine vs x b h k
  apart_fine vs (int z) (var y) h k = (k, tt, tt, tt)
  apart_fine vs (int z) (int w) h k = tested_fine (int_eq z w) vs (Some []) tt
  apart_fine vs (int z) (node g us) h k = tt
  apart_fine vs (node g ts) (var y) h k = (k, h, tt, tt)
  apart_fine vs (node g ts) (int w) h k = tt
  apart_fine vs (node g ts) (node i us) h k = tested_fine (g == i) vs (apart_all ts us) (apart_all_fine vs ts us h k)

  apart_all_fine : (vs : List ℕ) (ts us : Trees) → InAll vs ts → InAll vs us → FineIn vs (apart_all ts us)
  apart_all_fine vs none none h k = tt
  apart_all_fine vs none (more u us) h k = tt
  apart_all_fine vs (more t ts) none h k = tt
  apart_all_fine vs (more t ts) (more u us) h k = FineIn-both vs (apart t u) (apart_all ts us) (apart_fine vs t u h.0 k.0) (apart_all_fine vs ts us h.1 k.1)

pub fine_under : (x : ℕ) (u : Tree) (vs : List ℕ) (es : Equations) → In (without x vs) u → Fine vs es → FineIn (without x vs) (apart_under (one x u) es)
fine_under x u vs [] h k = tt
fine_under x u vs (e ∷ es) h k =
    FineIn-both (without x vs) (apart (value_at (one x u) e.0) (apply (one x u) e.1)) (apart_under (one x u) es) (apart_fine (without x vs) (value_at (one x u) e.0) (apply (one x u) e.1) (apply_in x u (var e.0) vs h k.0) (apply_in x u e.1 vs h k.1)) (fine_under x u vs es h k.3)

-- a variable inside a tree is never equal to it
mutual
  size : Tree → ℕ
  size (var x) = 1
  size (int z) = 1
  size (node g ts) = size_all ts + 1

  size_all : Trees → ℕ
  size_all none = 0
  size_all (more t ts) = size t + size_all ts

mutual
  unfolding size size_all

  occurs_size : (f : ℕ → Tree) (x : ℕ) (t : Tree) → occurs x t ≡ true → size (f x) ≤ size (instance f t)
  occurs_size f x (var y) h = let e : x ≡ y = (Decides-eqb x y).0 h in omega (arith, ap (λ v. size (f v)) e)
  occurs_size f x (int z) h = absurd (true≢false (sym h))
  occurs_size f x (node g ts) h = omega (arith, occurs_any_size f x ts h)

  occurs_any_size : (f : ℕ → Tree) (x : ℕ) (ts : Trees) → occurs_any x ts ≡ true → size (f x) ≤ size_all (instances f ts)
  occurs_any_size f x none h = absurd (true≢false (sym h))
  occurs_any_size f x (more t ts) h = elim (or_cases (occurs x t) (occurs_any x ts) h) [ inl e ↦ omega (arith, occurs_size f x t e) | inr e ↦ omega (arith, occurs_any_size f x ts e) ]

never_inside : (f : ℕ → Tree) (x : ℕ) (u : Tree) → IsProper x u → occurs x u ≡ true → f x ≡ instance f u → ⊥
unfolding size size_all
never_inside f x (var y) p h e = absurd (true≢false (sym h ∙ p))
never_inside f x (int z) p h e = absurd (true≢false (sym h))
never_inside f x (node g ts) p h e = let l = occurs_any_size f x ts h in let s = ap size e in absurd (omega (arith, l, s))

none_step : (n : ℕ) (s : Subst) (e : ℕ × Tree) (b : Bool) (o : Option Equations)
    → (let w : Option Subst = elim b [ true ↦ None | false ↦ elim o [ None ↦ None | Some fs ↦ elimination n (with_binding e.0 e.1 s) fs ] ] in w ≡ None)
    → (b ≡ true) ⊎ ((b ≡ false) × ((o ≡ None) ⊎ ((fs : Equations) × (o ≡ Some fs) × (elimination n (with_binding e.0 e.1 s) fs ≡ None))))
none_step n s e true o h = inl refl
none_step n s e false None h = inr (refl, inl refl)
none_step n s e false (Some fs) h = inr (refl, inr (fs, refl, h))

none_of_none : (vs : List ℕ) (x : ℕ) → length vs ≤ 0 → Has x vs → ⊥
none_of_none [] x h k = k
none_of_none (v ∷ vs) x h k = absurd (omega arith)

-- eliminations that come to nothing leave no solution
pub none_solves : (f : ℕ → Tree) (n : ℕ) (s : Subst) (es : Equations) (vs : List ℕ) → length vs ≤ n → Fine vs es → elimination n s es ≡ None → Holds f es → ⊥
none_solves f n s [] vs l p is h = cc
none_solves f zero s (e ∷ es) vs l p is h = none_of_none vs e.0 l p.0
none_solves f (suc n) s (e ∷ es) vs l p is h =
    let later = apart_under_holds f (one e.0 e.1) es (Solves-one f e.0 e.1 h.0) h.1 in
    elim (none_step n s e (occurs e.0 e.1) (apart_under (one e.0 e.1) es) is) [
      | inl inside ↦ never_inside f e.0 e.1 p.2 inside h.0
      | inr (absent, inl none_under) ↦ subst (HoldsIn f) none_under later
      | inr (absent, inr r) ↦
          let fine = fine_under e.0 e.1 vs es (absent_in e.0 vs e.1 absent p.1) p.3 in
          let shorter : length (without e.0 vs) ≤ n = omega (arith, length-without e.0 vs p.0) in
          none_solves f n (with_binding e.0 e.1 s) r.0 (without e.0 vs) shorter (subst (FineIn (without e.0 vs)) r.1 fine) r.2 (subst (HoldsIn f) r.1 later)
    ]

pub Has-left : (x : ℕ) (vs ws : List ℕ) → Has x vs → Has x (vs ++ ws)
Has-left x [] ws h = absurd h
Has-left x (v ∷ vs) ws (inl e) = inl e
Has-left x (v ∷ vs) ws (inr h) = inr (Has-left x vs ws h)

pub Has-right : (x : ℕ) (vs ws : List ℕ) → Has x ws → Has x (vs ++ ws)
Has-right x [] ws h = h
Has-right x (v ∷ vs) ws h = inr (Has-right x vs ws h)

mutual
  pub vars_in : (vs : List ℕ) (t : Tree) → ((y : ℕ) → Has y (vars t) → Has y vs) → In vs t
  vars_in vs (var x) h = h x (inl refl)
  vars_in vs (int z) h = tt
  vars_in vs (node g ts) h = vars_in_all vs ts h

  vars_in_all : (vs : List ℕ) (ts : Trees) → ((y : ℕ) → Has y (vars_of_all ts) → Has y vs) → InAll vs ts
  vars_in_all vs none h = tt
  vars_in_all vs (more t ts) h = (vars_in vs t (λ y k. h y (Has-left y (vars t) (vars_of_all ts) k)), vars_in_all vs ts (λ y k. h y (Has-right y (vars t) (vars_of_all ts) k)))

from_none : (f : ℕ → Tree) (n : ℕ) (s : Subst) (o : Option Equations) (vs : List ℕ) → length vs ≤ n → FineIn vs o → elimination_from n s o ≡ None → HoldsIn f o → ⊥
from_none f n s None vs l p is h = h
from_none f n s (Some es) vs l p is h = none_solves f n s es vs l p is h

-- where there is no unifier, nothing solves s and makes both terms equal
pub mgu_none : (s : Subst) (a b : Tree) → mgu s a b ≡ None → (f : ℕ → Tree) → Solves f s → instance f a ≡ instance f b → ⊥
unfolding mgu
mgu_none s a b is f k e =
    let vs = vars (apply s a) ++ vars (apply s b) in
    let left = vars_in vs (apply s a) (λ y h. Has-left y (vars (apply s a)) (vars (apply s b)) h) in
    let right = vars_in vs (apply s b) (λ y h. Has-right y (vars (apply s a)) (vars (apply s b)) h) in
    let l : length vs ≤ length vs = omega arith in
    from_none f (length vs) s (apart (apply s a) (apply s b)) vs l (apart_fine vs (apply s a) (apply s b) left right) is (apart_holds f (apply s a) (apply s b) (instance-solves f s k a ∙ e ∙ sym (instance-solves f s k b)))
