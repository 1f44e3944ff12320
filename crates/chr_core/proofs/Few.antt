-- The tasks of a state are few, and so are the rounds of a core.
use Rattle.std.proofs.Common.{◌≡◌, ◌∙◌, ◌<◌, ◌≤◌, ◌++◌, ◌∷◌, ℕ, Bool, List, [], ap, arith, cond, false, length, map, sym, true}
use Rattle.std.proofs.lemmas.List.{length-map, length-take}
use Rattle.chr_semantics.specs.Program.{Program}
use Rattle.chr_semantics.specs.State.{Element, State, active, goal, known}
use Rattle.chr_semantics.specs.Tasks.{below_top, guest_in, guest_tasks, lives, tasks, tasks_at, tasks_from, tasks_top, without_repeats}
use Rattle.chr_semantics.specs.declared.limits.TheConstants.{MAX_ROUNDS, MAX_TASKS}
use Rattle.std.specs.Prelude.{nat_le}
use Rattle.chr_laws.specs.Rounds as rounds
use Rattle.chr_core.specs.RoundView.{round_view, rounds_view}
use Rattle.chr_core.specs.declared.round.Round.{Round}

few_at : (p : Program) (s : State) (es : List Element) → length (tasks_top p s es) ≤ MAX_TASKS
few_at p s [] = omega arith
few_at p s (goal g ∷ es) = omega arith
few_at p s (known i a ∷ es) = omega arith
few_at p s (active i j a ∷ es) = by (lives s i)
  where
    by : (b : Bool) → length (cond b (tasks_at p s i j a es) []) ≤ MAX_TASKS
    by true = omega (arith, length-take MAX_TASKS (without_repeats [] (tasks_from p a.sym i j ++ below_top p s es ++ guest_tasks p s (guest_in es))))
    by false = omega arith

pub few_tasks : (p : Program) (s : State) → length (tasks p s) ≤ MAX_TASKS
few_tasks p s = few_at p s s.stack

below_last : (n : ℕ) → n < MAX_ROUNDS → false ≡ nat_le MAX_ROUNDS n
below_last n h = grind (arith, h)

-- where fewer rounds are kept than there can be, fewer were made
pub fewer_made : {A : Type 0} (kept : List (Round A)) (made : List ℕ) → map (λ (d : rounds.Round). d.at) (rounds_view kept) ≡ made → length kept < MAX_ROUNDS → false ≡ nat_le MAX_ROUNDS (length made)
fewer_made kept made ats below =
    let many = ap (λ (l : List ℕ). length l) (sym ats) ∙ length-map (rounds_view kept) (λ (d : rounds.Round). d.at) ∙ length-map kept round_view in
    below_last (length made) (omega (arith, many, below))
