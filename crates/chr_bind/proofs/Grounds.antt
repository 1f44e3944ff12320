-- Terms with no variable.
use Rattle.std.proofs.Common.{◌≡◌, ◌∙◌, ℕ, ap, false, refl, sym, true, true≢false}
use Rattle.std.proofs.lemmas.Bool.{and_parts}
use Rattle.chr_semantics.proofs.Ground.{ground_stays_all}
use Rattle.chr_semantics.specs.Subst.{apply, instances, occurs, occurs_any, value_at}
use Rattle.chr_semantics.specs.Tree.{Tree, Trees, int, is_ground_tree, is_ground_trees, more, node, none, var}
use Rattle.chr_bind.specs.Chains.{subst_of}
use Rattle.chr_bind.specs.declared.chains.Chains.{Chains}

mutual
  ground_occurs : (x : ℕ) (t : Tree) → is_ground_tree t ≡ true → occurs x t ≡ false
  ground_occurs x (var y) h = absurd (true≢false (sym h))
  ground_occurs x (int z) h = refl
  ground_occurs x (node f ts) h = ground_occurs_any x ts h

  ground_occurs_any : (x : ℕ) (ts : Trees) → is_ground_trees ts ≡ true → occurs_any x ts ≡ false
  ground_occurs_any x none h = refl
  ground_occurs_any x (more t ts) h =
      let r = and_parts (is_ground_tree t) (is_ground_trees ts) h in
      let first = ground_occurs x t r.0 in
      let others = ground_occurs_any x ts r.1 in
      rw (first, others) refl

module _ {A : Type 0} (c : Chains A) (t : Tree) (f : ℕ) (ts : Trees) (root : apply (subst_of c) t ≡ node f (instances (value_at (subst_of c)) ts)) (ground : is_ground_trees ts ≡ true) where
  -- a root whose arguments have none stands for them as they are: no variable is in what the term stands for
  pub ground_root : true ≡ is_ground_tree (apply (subst_of c) t)
  ground_root = sym (ap is_ground_tree root ∙ ap is_ground_trees (ground_stays_all (value_at (subst_of c)) ts ground) ∙ ground)

  pub occurs_nowhere : (x : ℕ) → false ≡ occurs x (apply (subst_of c) t)
  occurs_nowhere x = sym (ap (occurs x) root ∙ ap (occurs_any x) (ground_stays_all (value_at (subst_of c)) ts ground) ∙ ground_occurs_any x ts ground)
