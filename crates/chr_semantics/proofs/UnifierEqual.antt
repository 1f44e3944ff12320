-- The unifier is solved, has the bindings of s and makes the equations equal.
use Rattle.std.proofs.Common.{Bool, None, Option, Some, [], ap, cond, false, map, nat_lt, refl, subst, suc, sym, true, zero, ℕ, ◌++◌, ◌==◌, ◌∙◌, ◌∷◌, ◌≡◌, ◌||◌}
use Rattle.std.proofs.lemmas.Bool.{eq-eqb, or_parts, false_from_ne_true, true≢false}
use Rattle.std.proofs.lemmas.Bool.Decides.{Decides-eqb}
use Rattle.std.specs.Ordering.{int_eq}
use mathlib.Core.Path.{fun_ext}
use Rattle.chr_semantics.specs.Mgu.{elimination, Equations, apart, apart_all, apart_under, both, mgu, of_var, elimination_from}
use Rattle.chr_semantics.specs.Subst.{IsSolved, Solves, Subst, apply, binds_var, with_binding, occurs, occurs_any, instance, instances, value_at}
use Rattle.chr_semantics.specs.Tree.{Tree, Trees, int, more, node, none, var}
use Rattle.chr_semantics.proofs.Apart.{Holds, HoldsIn, apart_equal, apart_under_equal}
use Rattle.chr_semantics.proofs.Instances.{Solves-one, instance-instance, instance-solves, value_at-others}
use Rattle.chr_semantics.proofs.SolvedLaw.{bound_absent, solved_twice}
use Rattle.chr_semantics.proofs.UnifierGeneral.{gives_step}

-- one pair
abbrev pub one : ℕ → Tree → Subst
one x u = (x, u) ∷ []

mutual
  pub apply_absent : (x : ℕ) (u t : Tree) → occurs x t ≡ false → apply (one x u) t ≡ t
  apply_absent x u (var y) h = rw h
  apply_absent x u (int z) h = refl
  apply_absent x u (node g ts) h = ap (node g) (apply_absent_all x u ts h)

  apply_absent_all : (x : ℕ) (u : Tree) (ts : Trees) → occurs_any x ts ≡ false → instances (value_at (one x u)) ts ≡ ts
  apply_absent_all x u none h = refl
  apply_absent_all x u (more t ts) h = let r = or_parts (occurs x t) (occurs_any x ts) h in cc (apply_absent x u t r.0, apply_absent_all x u ts r.1)

-- equations whose trees s leaves as they are
abbrev pub Under : Subst → Equations → Type 0
Under s [] = Unit {0}
Under s (e ∷ es) = (value_at s e.0 ≡ var e.0) × (apply s e.1 ≡ e.1) × Under s es

abbrev UnderIn : Subst → Option Equations → Type 0
UnderIn s None = Unit {0}
UnderIn s (Some es) = Under s es

Under-append : (s : Subst) (es fs : Equations) → Under s es → Under s fs → Under s (es ++ fs)
Under-append s [] fs h k = k
Under-append s (e ∷ es) fs h k = (h.0, h.1, Under-append s es fs h.2 k)

UnderIn-both : (s : Subst) (p q : Option Equations) → UnderIn s p → UnderIn s q → UnderIn s (both p q)
UnderIn-both s None q h k = tt
UnderIn-both s (Some es) None h k = tt
UnderIn-both s (Some es) (Some fs) h k = Under-append s es fs h k

ordered_stays : (b c : Bool) (s : Subst) (x y : ℕ) → value_at s x ≡ var x → value_at s y ≡ var y → Under s (cond b [] (cond c ((y, var x) ∷ []) ((x, var y) ∷ [])))
ordered_stays true c s x y h k = tt
ordered_stays false true s x y h k = (k, h, tt)
ordered_stays false false s x y h k = (h, k, tt)

of_var_stays : (s : Subst) (x : ℕ) (b : Tree) → value_at s x ≡ var x → apply s b ≡ b → Under s (of_var x b)
of_var_stays s x (var y) h k = ordered_stays (x == y) (nat_lt x y) s x y h k
of_var_stays s x (int z) h k = (h, k, tt)
of_var_stays s x (node g ts) h k = (h, k, tt)

tested_stays : (b : Bool) (s : Subst) (p : Option Equations) → UnderIn s p → UnderIn s (cond b p None)
tested_stays true s p h = h
tested_stays false s p h = tt

mutual
  apart_stays : (s : Subst) (a b : Tree) → apply s a ≡ a → apply s b ≡ b → UnderIn s (apart a b)
  apart_stays s (var x) b h k = of_var_stays s x b h k
  apart_stays s (int z) (var y) h k = (k, h, tt)
  apart_stays s (int z) (int w) h k = tested_stays (int_eq z w) s (Some []) tt
  apart_stays s (int z) (node g us) h k = tt
  apart_stays s (node g ts) (var y) h k = (k, h, tt)
  apart_stays s (node g ts) (int w) h k = tt
  apart_stays s (node g ts) (node i us) h k = tested_stays (g == i) s (apart_all ts us) (apart_all_stays s ts us (cc) (cc))

  apart_all_stays : (s : Subst) (ts us : Trees) → instances (value_at s) ts ≡ ts → instances (value_at s) us ≡ us → UnderIn s (apart_all ts us)
  apart_all_stays s none none h k = tt
  apart_all_stays s none (more u us) h k = tt
  apart_all_stays s (more t ts) none h k = tt
  apart_all_stays s (more t ts) (more u us) h k = UnderIn-both s (apart t u) (apart_all ts us) (apart_stays s t u (cc) (cc)) (apart_all_stays s ts us (cc) (cc))

closed_at : (b : Bool) (s : Subst) (u : Tree) (y : ℕ) → apply s u ≡ u → value_at s y ≡ var y → apply s (cond b u (var y)) ≡ cond b u (var y)
closed_at true s u y h k = h
closed_at false s u y h k = k

mutual
  closed : (s : Subst) (x : ℕ) (u w : Tree) → apply s u ≡ u → apply s w ≡ w → apply s (apply (one x u) w) ≡ apply (one x u) w
  closed s x u (var y) h k = closed_at (x == y) s u y h k
  closed s x u (int z) h k = refl
  closed s x u (node g ts) h k = ap (node g) (closed_all s x u ts h (cc))

  closed_all : (s : Subst) (x : ℕ) (u : Tree) (ws : Trees) → apply s u ≡ u → instances (value_at s) ws ≡ ws → instances (value_at s) (instances (value_at (one x u)) ws) ≡ instances (value_at (one x u)) ws
  closed_all s x u none h k = refl
  closed_all s x u (more w ws) h k = cc (closed s x u w h (cc), closed_all s x u ws h (cc))

-- x is free in s, u is closed under s, and x is not in u
pub record IsFree (s : Subst) (x : ℕ) (u : Tree) : Type 0 where
  pub free : value_at s x ≡ var x
  pub closed_under : apply s u ≡ u
  pub absent : occurs x u ≡ false

-- the pair itself
pub here : (x : ℕ) (u t : Tree) → cond (x == x) u t ≡ u
here x u t = rw (eq-eqb x x refl)

bound_at : (b : Bool) (s : Subst) (x y : ℕ) (u : Tree) → (x == y) ≡ b → value_at s x ≡ var x → value_at (with_binding x u s) y ≡ apply (one x u) (value_at s y)
bound_at true s x y u is h =
    let same : x ≡ y = (Decides-eqb x y).0 is in
    let free : value_at s y ≡ var y = subst (λ v. value_at s v ≡ var v) same h in
    rw (free, is)
bound_at false s x y u is h = rw is (value_at-others x y u s is)

-- what a variable stands for after x was bound
pub bound_is : (s : Subst) (x : ℕ) (u : Tree) → value_at s x ≡ var x → (y : ℕ) → value_at (with_binding x u s) y ≡ apply (one x u) (value_at s y)
bound_is s x u h y = bound_at (x == y) s x y u refl h

pub apply-bound : (s : Subst) (x : ℕ) (u : Tree) → value_at s x ≡ var x → (t : Tree) → apply (with_binding x u s) t ≡ apply (one x u) (apply s t)
apply-bound s x u h t = ap (λ (g : ℕ → Tree). instance g t) (fun_ext (bound_is s x u h)) ∙ sym (instance-instance (value_at (one x u)) (value_at s) t)

one_twice : (x : ℕ) (u : Tree) → occurs x u ≡ false → Solves (value_at (one x u)) (one x u)
one_twice x u h = Solves-one (value_at (one x u)) x u (here x u (var x) ∙ sym (apply_absent x u u h))

closed_again : (s : Subst) (x : ℕ) (u : Tree) → IsFree s x u → (w : Tree) → apply s w ≡ w → apply (with_binding x u s) (apply (one x u) w) ≡ apply (one x u) w
closed_again s x u f w k =
    apply-bound s x u f.free (apply (one x u) w) ∙ ap (apply (one x u)) (closed s x u w f.closed_under k) ∙ instance-solves (value_at (one x u)) (one x u) (one_twice x u f.absent) w

-- what does not occur in u, and in a term at most as x, does not occur after x was replaced
replaced_at : (b : Bool) (x y z : ℕ) (u : Tree) → (x == z) ≡ b → occurs y u ≡ false → ((x == y) ≡ false → (y == z) ≡ false) → occurs y (cond b u (var z)) ≡ false
replaced_at true x y z u is absent h = absent
replaced_at false x y z u is absent h = false_from_ne_true (y == z) (λ e. let same : y ≡ z = (Decides-eqb y z).0 e in true≢false (sym e ∙ h (ap (λ (w : ℕ). x == w) same ∙ is)))

mutual
  absent_after : (x y : ℕ) (u t : Tree) → occurs y u ≡ false → ((x == y) ≡ false → occurs y t ≡ false) → occurs y (apply (one x u) t) ≡ false
  absent_after x y u (var z) absent h = replaced_at (x == z) x y z u refl absent h
  absent_after x y u (int z) absent h = refl
  absent_after x y u (node g ts) absent h = absent_after_all x y u ts absent h

  absent_after_all : (x y : ℕ) (u : Tree) (ts : Trees) → occurs y u ≡ false → ((x == y) ≡ false → occurs_any y ts ≡ false) → occurs_any y (instances (value_at (one x u)) ts) ≡ false
  absent_after_all x y u none absent h = refl
  absent_after_all x y u (more t ts) absent h =
      neither (absent_after x y u t absent (λ e. (or_parts (occurs y t) (occurs_any y ts) (h e)).0)) (absent_after_all x y u ts absent (λ e. (or_parts (occurs y t) (occurs_any y ts) (h e)).1))
    where
      neither : {a b : Bool} → a ≡ false → b ≡ false → (a || b) ≡ false
      neither e f = cc (e, f)

-- the variables that are bound then
pub binds_more : (x y : ℕ) (u : Tree) (s : Subst) → binds_var (with_binding x u s) y ≡ (x == y || binds_var s y)
binds_more x y u s = ap (λ (b : Bool). x == y || b) (binds_mapped s)
  where
    binds_mapped : (r : Subst) → binds_var (map (λ (p : ℕ × Tree). (p.0, apply (one x u) p.1)) r) y ≡ binds_var r y
    binds_mapped [] = refl
    binds_mapped (p ∷ r) = ap (λ (b : Bool). p.0 == y || b) (binds_mapped r)

-- binding a free variable keeps the substitution solved
pub bound_solved : (s : Subst) (x : ℕ) (u : Tree) → IsFree s x u → IsSolved s → IsSolved (with_binding x u s)
bound_solved s x u f h z y bound = ap (occurs y) (bound_is s x u f.free z) ∙ by_test (x == y) refl
  where
    by_test : (b : Bool) → (x == y) ≡ b → occurs y (apply (one x u) (value_at s z)) ≡ false
    by_test true is =
        let same : x ≡ y = (Decides-eqb x y).0 is in
        absent_after x y u (value_at s z) (subst (λ (w : ℕ). occurs w u ≡ false) same f.absent) (λ other. absurd (true≢false (sym is ∙ other)))
    by_test false is =
        let before : binds_var s y ≡ true = sym (ap (λ (b : Bool). b || binds_var s y) is) ∙ sym (binds_more x y u s) ∙ bound in
        absent_after x y u (value_at s z) (bound_absent s h y u before f.closed_under) (λ other. h z y before)

under_bound : (s : Subst) (x : ℕ) (u : Tree) → IsFree s x u → (es : Equations) → Under s es → UnderIn (with_binding x u s) (apart_under (one x u) es)
under_bound s x u f [] h = tt
under_bound s x u f (e ∷ es) h =
    UnderIn-both (with_binding x u s) (apart (value_at (one x u) e.0) (apply (one x u) e.1)) (apart_under (one x u) es) (apart_stays (with_binding x u s) (value_at (one x u) e.0) (apply (one x u) e.1) (closed_again s x u f (var e.0) h.0) (closed_again s x u f e.1 h.1)) (under_bound s x u f es h.2)

-- the eliminations keep it solved and make the equations equal
pub solved_makes_equal : (n : ℕ) (s : Subst) (es : Equations) (r : Subst) → elimination n s es ≡ Some r → IsSolved s → Under s es → IsSolved r × Solves (value_at r) s × Holds (value_at r) es
solved_makes_equal n s [] r is h k = let same : s ≡ r = cc in (subst IsSolved same h, subst (λ w. Solves (value_at w) s) same (solved_twice s h), tt)
solved_makes_equal zero s (e ∷ es) r is h k = cc
solved_makes_equal (suc n) s (e ∷ es) r is h k =
    let x = e.0 in
    let u = e.1 in
    let w = gives_step n s e r (occurs e.0 e.1) (apart_under ((e.0, e.1) ∷ []) es) is in
    let fs = w.1.0 in
    let f : IsFree s x u = record { free = k.0; closed_under = k.1; absent = w.0 } in
    let m = solved_makes_equal n (with_binding x u s) fs r w.1.2 (bound_solved s x u f h) (subst (UnderIn (with_binding x u s)) w.1.1 (under_bound s x u f es k.2)) in
    let rx : value_at r x ≡ apply r u = sym (m.1 x) ∙ ap (apply r) (here x u _) in
    let solves = Solves-one (value_at r) x u rx in (
      m.0,
      (λ y. sym (instance-solves (value_at r) (one x u) solves (value_at s y)) ∙ ap (apply r) (sym (bound_is s x u k.0 y)) ∙ m.1 y),
      (rx, apart_under_equal (value_at r) (one x u) es solves (subst (HoldsIn (value_at r)) (sym w.1.1) m.2)),
    )

-- so it is with the equations of two terms, whatever number bounds the eliminations
pub from_apart : (n : ℕ) (s : Subst) (a b : Tree) (o : Option Equations) (r : Subst) → elimination_from n s o ≡ Some r → apart a b ≡ o → IsSolved s → apply s a ≡ a → apply s b ≡ b → IsSolved r × Solves (value_at r) s × (apply r a ≡ apply r b)
from_apart n s a b None r is o h i j = cc
from_apart n s a b (Some es) r is o h i j =
    let m = solved_makes_equal n s es r is h (subst (UnderIn s) o (apart_stays s a b i j)) in
    (m.0, m.1, apart_equal (value_at r) a b (subst (HoldsIn (value_at r)) (sym o) m.2))

-- the unifier is solved, has the bindings of s and makes both terms equal
pub mgu_makes_equal : (s : Subst) (a b : Tree) → IsSolved s → (r : Subst) → mgu s a b ≡ Some r → IsSolved r × Solves (value_at r) s × (apply r a ≡ apply r b)
unfolding mgu
mgu_makes_equal s a b h r is =
    let again = instance-solves (value_at s) s (solved_twice s h) in
    let m = from_apart _ s (apply s a) (apply s b) (apart (apply s a) (apply s b)) r is refl h (again a) (again b) in
    (m.0, m.1, sym (instance-solves (value_at r) s m.1 a) ∙ m.2 ∙ instance-solves (value_at r) s m.1 b)
