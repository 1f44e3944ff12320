-- What is ground stays as it is, under what extends a substitution.
use Rattle.std.proofs.Common.{None, Option, Some, [], ap, arith, false, length, nat_lt, refl, suc, sym, true, true≢false, zero, ℕ, ◌∷◌, ◌≡◌, ◌≤◌}
use Rattle.std.proofs.lemmas.Bool.{and_parts, ltb-false}
use Rattle.std.proofs.lemmas.List.{length-map}
use Rattle.chr_semantics.specs.Mgu.{elimination, Equations, apart, apart_under, mgu, elimination_from}
use Rattle.chr_semantics.specs.Subst.{Solves, Subst, apply, with_binding, occurs, instance, instances, value_at}
use Rattle.chr_semantics.specs.Tree.{Tree, Trees, int, is_ground_tree, is_ground_trees, more, node, none, var}
use Rattle.chr_semantics.proofs.Instances.{instance-solves}
use Rattle.chr_semantics.proofs.UnifierGeneral.{gives_step}

mutual
  pub ground_stays : (f : ℕ → Tree) (t : Tree) → is_ground_tree t ≡ true → instance f t ≡ t
  ground_stays f (var x) h = absurd (true≢false (sym h))
  ground_stays f (int z) h = refl
  ground_stays f (node g ts) h = ap (node g) (ground_stays_all f ts h)

  pub ground_stays_all : (f : ℕ → Tree) (ts : Trees) → is_ground_trees ts ≡ true → instances f ts ≡ ts
  ground_stays_all f none h = refl
  ground_stays_all f (more t ts) h = let r = and_parts (is_ground_tree t) (is_ground_trees ts) h in cc (ground_stays f t r.0, ground_stays_all f ts r.1)

-- what is ground under s is the same under what extends s
pub extended_stays : (s r : Subst) (ts : Trees) → Solves (value_at r) s → is_ground_trees (instances (value_at s) ts) ≡ true → instances (value_at r) ts ≡ instances (value_at s) ts
extended_stays s r ts h g =
    let e : node 0 (instances (value_at r) (instances (value_at s) ts)) ≡ node 0 (instances (value_at r) ts) = instance-solves (value_at r) s h (node 0 ts) in
    cc (ground_stays_all (value_at r) (instances (value_at s) ts) g)

solved_longer : (n : ℕ) (s : Subst) (es : Equations) (r : Subst) → elimination n s es ≡ Some r → length s ≤ length r
solved_longer n s [] r h = let e : s ≡ r = cc in omega (arith, ap length e)
solved_longer zero s (e ∷ es) r h = cc
solved_longer (suc n) s (e ∷ es) r h =
    let w = gives_step n s e r (occurs e.0 e.1) (apart_under ((e.0, e.1) ∷ []) es) h in
    let k : length (with_binding e.0 e.1 s) ≤ length r = solved_longer n (with_binding e.0 e.1 s) w.1.0 r w.1.2 in
    omega (arith, k, length-map {B = ℕ × Tree} s (λ (p : ℕ × Tree). (p.0, apply ((e.0, e.1) ∷ []) p.1)))

solved_same : (n : ℕ) (s : Subst) (es : Equations) (r : Subst) → elimination n s es ≡ Some r → length r ≤ length s → r ≡ s
solved_same n s [] r h k = cc
solved_same zero s (e ∷ es) r h k = cc
solved_same (suc n) s (e ∷ es) r h k =
    let w = gives_step n s e r (occurs e.0 e.1) (apart_under ((e.0, e.1) ∷ []) es) h in
    let l : length (with_binding e.0 e.1 s) ≤ length r = solved_longer n (with_binding e.0 e.1 s) w.1.0 r w.1.2 in
    absurd (omega (arith, l, length-map {B = ℕ × Tree} s (λ (p : ℕ × Tree). (p.0, apply ((e.0, e.1) ∷ []) p.1))))

from_same : (n : ℕ) (s : Subst) (o : Option Equations) (r : Subst) → elimination_from n s o ≡ Some r → length r ≤ length s → r ≡ s
from_same n s None r h k = cc
from_same n s (Some es) r h k = solved_same n s es r h k

-- an mgu that binds nothing is what was there
pub mgu_same : (s : Subst) (a b : Tree) (r : Subst) → mgu s a b ≡ Some r → nat_lt (length s) (length r) ≡ false → r ≡ s
unfolding mgu
mgu_same s a b r h k = from_same _ s (apart (apply s a) (apply s b)) r h (ltb-false (length s) (length r) k)
