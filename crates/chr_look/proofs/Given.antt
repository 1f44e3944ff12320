-- The variables that a built-in gives values to are those that were noted.
use Rattle.std.proofs.Common.{◌≡◌, ◌∙◌, ◌==◌, ◌&&◌, ◌||◌, ◌++◌, ◌∷◌, [], Bool, List, ap, false, not, refl, sym, true, true≢false, ℕ}
use Rattle.std.specs.List.{list_any}
use Rattle.std.proofs.lemmas.Bool.{false_from_ne_true}
use Rattle.std.proofs.lemmas.List.Folds.{list_any-append}
use Rattle.chr_semantics.specs.Mgu.{vars, vars_of_all}
use Rattle.chr_semantics.specs.Program.{Goal}
use Rattle.chr_semantics.specs.Effect.{AreGiven, open_in, sides}
use Rattle.chr_semantics.specs.State.{Element, State}
use Rattle.chr_semantics.specs.Step.{solve}
use Rattle.chr_semantics.specs.Subst.{IsSolved, Subst, apply, binds_var, occurs, occurs_any}
use Rattle.chr_semantics.specs.Tree.{Tree, Trees, int, more, node, none, var}
use Rattle.chr_semantics.proofs.EffectLaw.{effect_law}
use Rattle.chr_semantics.proofs.Instances.{instance-solves}
use Rattle.chr_semantics.proofs.SolvedLaw.{bound_absent, solved_twice}
use Rattle.chr_semantics.proofs.Tests.{eqb_sym}
use Rattle.chr_look.specs.EffectView.{AreNoted, has}

mutual
  occurs_vars : (x : ℕ) (t : Tree) → has (vars t) x ≡ occurs x t
  occurs_vars x (var y) = or_none (y == x) ∙ eqb_sym y x
    where
      or_none : (b : Bool) → (b || false) ≡ b
      or_none true = refl
      or_none false = refl
  occurs_vars x (int z) = refl
  occurs_vars x (node f ts) = occurs_all_vars x ts

  occurs_all_vars : (x : ℕ) (ts : Trees) → has (vars_of_all ts) x ≡ occurs_any x ts
  occurs_all_vars x none = refl
  occurs_all_vars x (more t ts) = list_any-append (λ (y : ℕ). y == x) (vars t) (vars_of_all ts) ∙ (λ k. occurs_vars x t k || occurs_all_vars x ts k)

-- what stands in terms under solved bindings is not bound
open_free : (s : Subst) → IsSolved s → (ts : List Tree) (x : ℕ) → binds_var s x ≡ true → has (open_in s ts) x ≡ false
open_free s solved [] x bound = refl
open_free s solved (t ∷ ts) x bound =
    list_any-append (λ (y : ℕ). y == x) (vars (apply s t)) (open_in s ts)
    ∙ (λ k. (occurs_vars x (apply s t) ∙ bound_absent s solved x (apply s t) bound (instance-solves _ s (solved_twice s solved) t)) k || open_free s solved ts x bound k)

none_and : (a b : Bool) → (a && false) ≡ (b && false)
none_and true true = refl
none_and true false = refl
none_and false true = refl
none_and false false = refl

module _ (s : State) (rest : List Element) (g : Goal) (solved : IsSolved s.subst) (seen : List ℕ) (new : Subst) (noted : AreNoted (solve s rest g).subst seen new) (all : (x : ℕ) → has seen x ≡ has (open_in s.subst (sides g)) x) where
  given_those : (x : ℕ) → binds_var new x ≡ (not (binds_var s.subst x) && binds_var (solve s rest g).subst x)
  given_those x = noted.those x ∙ ap (λ (b : Bool). b && binds_var (solve s rest g).subst x) (all x) ∙ by (binds_var (solve s rest g).subst x) refl (binds_var s.subst x) refl
    where
      by : (d : Bool) → binds_var (solve s rest g).subst x ≡ d → (b : Bool) → binds_var s.subst x ≡ b → (has (open_in s.subst (sides g)) x && d) ≡ (not b && d)
      by false e b f = none_and (has (open_in s.subst (sides g)) x) (not b)
      by true e true f = ap (λ (c : Bool). c && true) (open_free s.subst solved (sides g) x f)
      by true e false f = ap (λ (c : Bool). c && true) (sym (ap (λ (c : Bool). c || has (open_in s.subst (sides g)) x) f) ∙ effect_law.only s rest g x e)

  pub are_given : AreGiven s.subst (solve s rest g).subst new
  are_given = record { those = given_those; values = noted.values }
