-- Patterns under a match.
use Rattle.std.proofs.Common.{◌≡◌, ◌↔◌, ℕ, ℤ, Bool, IsTrue, true, false, not, cond, ◌==◌, Option, Some, None, is_some, is_none, option_map, [], ◌∷◌, ap, refl, sym, ◌∙◌}
use Rattle.std.specs.Borrow.{Bor}
use Rattle.chr_semantics.specs.Tree.{Tree, var, int, same}
use Rattle.chr_semantics.specs.Subst.{Subst, apply, value_at}
use Rattle.chr_semantics.specs.Match.{match_at}
use Rattle.chr_semantics.specs.Mgu.{mgu}
use Rattle.chr_semantics.proofs.SameLaw.{same_law}
use Rattle.chr_term.specs.TermView.{view}
use Rattle.chr_term.specs.declared.term.Term.{Term}
use Rattle.chr_bind.specs.Matching.{AgreesWith, matched_tree}
use Rattle.chr_bind.specs.declared.matching.Match.{Match}
use Rattle.chr_semantics.proofs.Plain.{bools_agree}

matched_step : (b : Bool) (u t w : Tree) (o : Option Tree) → (o ≡ Some t → w ≡ t) → cond b (Some u) o ≡ Some t → cond b u w ≡ t
matched_step true u t w o f e = cc
matched_step false u t w o f e = f e

-- what a variable is matched to is its value
pub matched_value : (m : Subst) (x : ℕ) (t : Tree) → match_at m x ≡ Some t → value_at m x ≡ t
matched_value [] x t e = cc
matched_value (p ∷ m) x t e = matched_step (p.0 == x) p.1 t (value_at m x) (match_at m x) (matched_value m x t) e

free_step : (b : Bool) (u v w : Tree) (o : Option Tree) → (o ≡ None → w ≡ v) → cond b (Some u) o ≡ None → cond b u w ≡ v
free_step true u v w o f e = cc
free_step false u v w o f e = f e

-- the value of one that is not matched is itself
pub free_value : (m : Subst) (x : ℕ) → match_at m x ≡ None → value_at m x ≡ var x
free_value [] x e = refl
free_value (p ∷ m) x e = free_step (p.0 == x) p.1 (var x) (value_at m x) (match_at m x) (free_value m x) e

-- a variable that is matched is what it is matched to
pub instance_matched : {A : Type 0} (h : Match A) (m : Subst) (x : ℕ) (p : Tree) (o : Option (Bor (Term A))) (t : Bor (Term A)) → AgreesWith h m → p ≡ var x → option_map (λ (r : Bor (Term A)). view r.now) o ≡ matched_tree h x → o ≡ Some t
    → view t.now ≡ apply m p
instance_matched h m x p o t a ep eo et =
    let held : matched_tree h x ≡ Some (view t.now) = sym eo ∙ ap (option_map (λ (r : Bor (Term _)). view r.now)) et in
    sym (ap (apply m) ep ∙ matched_value m x (view t.now) (sym (a x) ∙ held))

-- one that is not stays
pub instance_free : {A : Type 0} (h : Match A) (m : Subst) (x : ℕ) (p : Tree) (o : Option (Bor (Term A))) → AgreesWith h m → p ≡ var x → option_map (λ (r : Bor (Term A)). view r.now) o ≡ matched_tree h x → o ≡ None → p ≡ apply m p
instance_free h m x p o a ep eo et =
    let held : matched_tree h x ≡ None = sym eo ∙ ap (option_map (λ (r : Bor (Term _)). view r.now)) et in
    ep ∙ sym (ap (apply m) ep ∙ free_value m x (sym (a x) ∙ held))

pub shown_number : (m : Subst) (p : Tree) (z : ℤ) → p ≡ int z → p ≡ apply m p
shown_number m p z e = e ∙ sym (ap (apply m) e)

-- whether two terms are the same
pub decides_same : (b : Bool) (t u v w : Tree) → (IsTrue b ↔ (t ≡ u)) → t ≡ v → u ≡ w → b ≡ same v w
decides_same b t u v w h et eu =
    let law = same_law.terms v w in
    bools_agree b (same v w) (λ k. law.1 (sym et ∙ h.0 k ∙ eu)) (λ k. h.1 (et ∙ law.0 k ∙ sym eu))

not_some : (o : Option Subst) → not (is_some o) ≡ is_none o
not_some None = refl
not_some (Some w) = refl

-- whether two terms have no unifier
pub decides_none : (b : Bool) (t u v w : Tree) → b ≡ is_some (mgu [] t u) → t ≡ v → u ≡ w → not b ≡ is_none (mgu [] v w)
decides_none b t u v w h et eu = ap not (h ∙ cc (et, eu)) ∙ not_some (mgu [] v w)
