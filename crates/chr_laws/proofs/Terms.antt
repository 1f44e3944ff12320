-- The variables of a term with its variables replaced.
use Rattle.std.proofs.Common.{ℕ, Bool, true, false, cond, ◌<◌, ◌≤◌, ◌==◌, [], ◌∷◌}
use Rattle.std.proofs.lemmas.List.Elements.{All-head, All-tail, All-weaker}
use Rattle.chr_semantics.specs.Bounds.{AreBelow, IsBelow, IsSubstBelow}
use Rattle.chr_semantics.proofs.Below.{below_more}
use Rattle.chr_semantics.specs.Subst.{Subst, apply, instance, instances, value_at}
use Rattle.chr_semantics.specs.Tree.{Tree, var, int, node, Trees, none, more}

-- by terms with variables below m
mutual
  pub instance_within : (n m : ℕ) (f : ℕ → Tree) (t : Tree) → ((x : ℕ) → x < n → IsBelow m (f x)) → IsBelow n t → IsBelow m (instance f t)
  instance_within n m f (var x) h b = h x b
  instance_within n m f (int z) h b = tt
  instance_within n m f (node g ts) h b = instances_within n m f ts h b

  pub instances_within : (n m : ℕ) (f : ℕ → Tree) (ts : Trees) → ((x : ℕ) → x < n → IsBelow m (f x)) → AreBelow n ts → AreBelow m (instances f ts)
  instances_within n m f none h b = tt
  instances_within n m f (more t ts) h b = (instance_within n m f t h b.0, instances_within n m f ts h b.1)

either_within : (n : ℕ) (b : Bool) (t u : Tree) → IsBelow n t → IsBelow n u → IsBelow n (cond b t u)
either_within n true t u h k = h
either_within n false t u h k = k

-- by a substitution
pub value_within : (n : ℕ) (s : Subst) (x : ℕ) → IsSubstBelow n s → x < n → IsBelow n (value_at s x)
value_within n [] x h lt = lt
value_within n (p ∷ s) x h lt = either_within n (p.0 == x) p.1 (value_at s x) (All-head (λ (q : ℕ × Tree). IsBelow n q.1) p s h) (value_within n s x (All-tail (λ (q : ℕ × Tree). IsBelow n q.1) p s h) lt)

pub apply_within : (n : ℕ) (s : Subst) (t : Tree) → IsSubstBelow n s → IsBelow n t → IsBelow n (apply s t)
apply_within n s t h b = instance_within n n (value_at s) t (λ x lt. value_within n s x h lt) b

pub apply_all_within : (n : ℕ) (s : Subst) (ts : Trees) → IsSubstBelow n s → AreBelow n ts → AreBelow n (instances (value_at s) ts)
apply_all_within n s ts h b = instances_within n n (value_at s) ts (λ x lt. value_within n s x h lt) b

-- a greater bound
pub subst_more : (n m : ℕ) (s : Subst) → n ≤ m → IsSubstBelow n s → IsSubstBelow m s
subst_more n m s le h = All-weaker (λ (p : ℕ × Tree). IsBelow n p.1) (λ (p : ℕ × Tree). IsBelow m p.1) (λ p b. below_more n m p.1 le b) s h
