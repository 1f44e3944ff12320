-- What a transition changed, as the definitions have it.
use Rattle.std.specs.Prelude.{◌≡◌, ℕ, ◌==◌, ◌&&◌, Bool, List, [], ◌∷◌, map, None, Option, Some, slice_get}
use Rattle.std.specs.List.{list_any}
use Rattle.chr_semantics.specs.Program.{Goal, Program, Query, Rule}
use Rattle.chr_semantics.specs.Effect as semantics
use Rattle.chr_semantics.specs.Effect.{AreValues, open_in, sides, binds, ends, enters, fires, leaves, passes, wakes}
use Rattle.chr_semantics.specs.State.{Element, State, active, goal, known, start}
use Rattle.chr_semantics.specs.Step.{after}
use Rattle.chr_semantics.specs.Subst.{Subst, binds_var}
use Rattle.chr_semantics.specs.Tree.{Tree}
use Rattle.chr_term.specs.TermView.{view}
use Rattle.chr_term.specs.declared.term.Term.{Term}
use Rattle.chr_trace.specs.State.{stack_view, status_view}
use Rattle.chr_look.specs.Logs.{sight}
use Rattle.chr_look.specs.LogView.{sight_view}
use Rattle.chr_look.specs.NextView.{IsNext}
use Rattle.chr_look.specs.declared.effects.Before.{Before}
use Rattle.chr_look.specs.declared.effects.Effect.{Effect}
use Rattle.chr_look.specs.declared.effects.Effect.TheVariants.{Binds, Ends, Enters, Fires, Leaves, Passes, Wakes}

-- variables with their values
abbrev pub values_view : {A : Type 0} → List (ℕ × Term A) → Subst
values_view vs = map (λ (v : ℕ × Term _). (v.0, view v.1)) vs

-- the identities of the constraints that wait on a stack, from the top down
abbrev pub waiting_ids : List Element → List ℕ
waiting_ids [] = []
waiting_ids (goal g ∷ es) = waiting_ids es
waiting_ids (known i a ∷ es) = i ∷ waiting_ids es
waiting_ids (active i j a ∷ es) = waiting_ids es

abbrev pub kept_of : Option Rule → ℕ
kept_of None = 0
kept_of (Some rule) = rule.kept

-- over the rules of a program
abbrev pub effect_view : {A : Type 0} → Program → Effect A → semantics.Effect
effect_view p Enters = enters
effect_view p Wakes = wakes
effect_view p Passes = passes
effect_view p Leaves = leaves
effect_view p (Fires entry goals stays) = fires entry.now.rule (kept_of (slice_get p entry.now.rule)) entry.now.ids (stack_view goals.now) stays
effect_view p (Binds values woken) = binds (values_view values.items) (waiting_ids (stack_view woken.now))
effect_view p (Ends w) = ends (status_view w)

-- the number is in the list
abbrev pub has : List ℕ → ℕ → Bool
has xs x = list_any (λ (y : ℕ). y == x) xs

-- the values of those of the variables that have one
pub record AreNoted (s : Subst) (seen : List ℕ) (new : Subst) : Type 0 where
  pub those : (x : ℕ) → binds_var new x ≡ (has seen x && binds_var s x)
  pub values : AreValues s new

-- there is one, and that holds of it
abbrev pub IsTold : {X : Type 0} → (X → Type 0) → Option X → Type 0
IsTold P None = ⊥
IsTold P (Some x) = P x

-- these are the variables without a value in the sides of the goal on top
abbrev pub AreOpen : State → List ℕ → Type 0
AreOpen s numbers = (g : Goal) (rest : List Element) → s.stack ≡ goal g ∷ rest → (x : ℕ) → has numbers x ≡ has (open_in s.subst (sides g)) x

-- a query's run comes to the state
abbrev pub IsReached : Program → State → Type 0
IsReached p s = (q : Query) × (k : ℕ) × (s ≡ after p (start q) k)

-- what is seen of the state
pub record IsBefore {A : Type 0} (p : Program) (s : State) (before : Before A) : Type 0 where
  pub next_is : IsNext p s before.next
  pub sight_is : sight_view before.sight ≡ sight s
  pub open_are : AreOpen s before.numbers.items
