-- Kinds of transitions, and their counts.
use Rattle.std.proofs.Common.{◌≡◌, ◌∙◌, ◌<◌, ◌==◌, ◌⊎◌, inl, inr, List, ap, cond, get_or, length, refl, set, sym, ℕ}
use Rattle.std.proofs.lemmas.Bool.{cases_eq, eq-eqb, ne_eqb}
use Rattle.std.proofs.lemmas.List.{get_or-set_other, get_or-set_same}
use Rattle.chr_semantics.specs.Profile.{kind_of_goal, solve}
use Rattle.chr_semantics.specs.Tree.{Tree}
use Rattle.chr_rules.specs.RuleView.{builtin_view}
use Rattle.chr_rules.specs.declared.goal.Op.{Op}
use Rattle.chr_rules.specs.declared.goal.Op.TheVariants.{AtLeast, AtMost, Differs, Equals, Greater, Is, Less, Unify}

-- a built-in is told by a Solve
pub told_solves : (op : Op) (t u : Tree) → kind_of_goal (builtin_view op t u) ≡ solve
told_solves Unify t u = refl
told_solves Is t u = refl
told_solves Less t u = refl
told_solves Greater t u = refl
told_solves AtMost t u = refl
told_solves AtLeast t u = refl
told_solves Equals t u = refl
told_solves Differs t u = refl

-- one count is written, which is looked for from the other side
pub written_for : {X : Type 0} (xs : List X) (h k : ℕ) (v d : X) → h < length xs → get_or (set xs h v) k d ≡ cond (k == h) v (get_or xs k d)
written_for xs h k v d l = by (cases_eq k h)
  where
    by : (k ≡ h) ⊎ (k ≡ h → ⊥) → get_or (set xs h v) k d ≡ cond (k == h) v (get_or xs k d)
    by (inl e) = rw (eq-eqb k h e) (ap (λ j. get_or (set xs h v) j d) e ∙ get_or-set_same xs h v d l)
    by (inr n) = rw (ne_eqb k h n) (get_or-set_other xs h k v d n)
