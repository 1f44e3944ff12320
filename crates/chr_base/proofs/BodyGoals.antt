-- Goals with their variables replaced.
use Rattle.std.proofs.Common.{◌≡◌, ℕ, ◌<◌, ◌≤◌, List, length, get_or, take, map, ap, arith, refl, subst, sym, ◌∙◌}
use Rattle.std.specs.Prelude.{All}
use Rattle.std.proofs.Math.ListN.{get_or-map}
use Rattle.std.proofs.lemmas.List.{length-map, take_all}
use Rattle.std.proofs.lemmas.List.Elements.{All-get_or}
use Rattle.std.proofs.lemmas.Simd.{map-map}
use Rattle.chr_semantics.specs.Program as semantics
use Rattle.chr_semantics.specs.State.{goal}
use Rattle.chr_semantics.specs.Step.{goal_instance}
use Rattle.chr_semantics.specs.Subst.{instance}
use Rattle.chr_semantics.specs.Tree.{Tree}
use Rattle.chr_semantics.specs.Bounds.{IsBelow, IsGoalBelow}
use Rattle.chr_rules.specs.RuleView.{builtin_view, goal_view}
use Rattle.chr_rules.specs.declared.goal.Goal.{Goal}
use Rattle.chr_rules.specs.declared.goal.Op.{Op}
use Rattle.chr_rules.specs.declared.goal.Op.TheVariants.{Unify, Is, Less, Greater, AtMost, AtLeast, Equals, Differs}

-- the variables of both sides are below n where those of the built-in are
pub sides_below : (n : ℕ) (op : Op) (t u : Tree) → IsGoalBelow n (builtin_view op t u) → IsBelow n t × IsBelow n u
sides_below n Unify t u h = h
sides_below n Is t u h = h
sides_below n Less t u h = h
sides_below n Greater t u h = h
sides_below n AtMost t u h = h
sides_below n AtLeast t u h = h
sides_below n Equals t u h = h
sides_below n Differs t u h = h

-- a built-in with both its sides replaced
pub sides_instance : (f : ℕ → Tree) (op : Op) (t u : Tree) → builtin_view op (instance f t) (instance f u) ≡ goal_instance f (builtin_view op t u)
sides_instance f Unify t u = refl
sides_instance f Is t u = refl
sides_instance f Less t u = refl
sides_instance f Greater t u = refl
sides_instance f AtMost t u = refl
sides_instance f AtLeast t u = refl
sides_instance f Equals t u = refl
sides_instance f Differs t u = refl

-- the variables of each goal are below n where those of all are
pub goal_below : {A : Type 0} (n : ℕ) (goals : List (Goal A)) (i : ℕ) (g : Goal A) → i < length goals → g ≡ get_or goals i g → All (IsGoalBelow n) (map goal_view goals) → IsGoalBelow n (goal_view g)
goal_below n goals i g h e all =
    let within : i < length (map goal_view goals) = omega (arith, h, length-map goals goal_view) in
    subst (IsGoalBelow n) (get_or-map goal_view goals i g ∙ ap goal_view (sym e)) (All-get_or (IsGoalBelow n) (map goal_view goals) i (goal_view g) within all)

-- goals that were built as the image of all goals
pub built_goals : {A : Type 0} (f : ℕ → Tree) (built goals body : List (Goal A)) (n : ℕ) → goals ≡ body → map goal_view built ≡ map (λ g. goal_instance f (goal_view g)) (take n goals) → length goals ≤ n → map goal_view built ≡ map (goal_instance f) (map goal_view body)
built_goals f built goals body n e h le =
    h ∙ ap (map (λ g. goal_instance f (goal_view g))) (take_all n goals le) ∙ sym (map-map (goal_instance f) goal_view goals) ∙ ap (λ gs. map (goal_instance f) (map goal_view gs)) e

-- these are the elements of the stack
pub built_elements : {A : Type 0} (f : ℕ → Tree) (built : List (Goal A)) (body : List semantics.Goal) → map goal_view built ≡ map (goal_instance f) body → map (λ g. goal (goal_view g)) built ≡ map (λ g. goal (goal_instance f g)) body
built_elements f built body h = sym (map-map goal goal_view built) ∙ ap (map goal) h ∙ map-map goal (goal_instance f) body
