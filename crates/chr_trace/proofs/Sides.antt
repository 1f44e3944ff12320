-- Goals and terms with the bindings applied.
use Rattle.std.proofs.Common.{◌≡◌, ℕ, ap, refl, sym, true}
use Rattle.chr_semantics.specs.Names.{Names, VarNames}
use Rattle.chr_semantics.specs.Program.{Atom}
use Rattle.chr_semantics.specs.State.{resolved_atom}
use Rattle.chr_semantics.specs.Step.{goal_instance}
use Rattle.chr_semantics.specs.Subst.{Subst, instance, value_at}
use Rattle.chr_semantics.specs.Text.{goal_text, infix_text}
use Rattle.chr_semantics.specs.Tree.{Tree, Trees, is_ground_trees}
use Rattle.chr_semantics.proofs.Ground.{ground_stays_all}
use Rattle.chr_rules.specs.RuleView.{builtin_view}
use Rattle.chr_rules.specs.Signs.{sign_text}
use Rattle.chr_rules.specs.declared.goal.Op.{Op}
use Rattle.chr_rules.specs.declared.goal.Op.TheVariants.{Unify, Is, Less, Greater, AtMost, AtLeast, Equals, Differs}

-- the text of a built-in is that of its two sides with the sign between them
pub sides_text : (names : Names) (vars : VarNames) (f : ℕ → Tree) (op : Op) (t u : Tree) → goal_text names vars (goal_instance f (builtin_view op t u)) ≡ infix_text names vars (instance f t) (sign_text op) (instance f u)
sides_text names vars f Unify t u = refl
sides_text names vars f Is t u = refl
sides_text names vars f Less t u = refl
sides_text names vars f Greater t u = refl
sides_text names vars f AtMost t u = refl
sides_text names vars f AtLeast t u = refl
sides_text names vars f Equals t u = refl
sides_text names vars f Differs t u = refl
