-- A round that is made of a machine's state is as the laws have it.
use Rattle.std.proofs.Common.{◌≡◌, ◌∙◌, Bool, List, Option, ap, false, length, map, refl, sym, ℕ}
use Rattle.std.proofs.lemmas.List.{length-replicate}
use Rattle.std.specs.Prelude.{replicate}
use Rattle.chr_semantics.specs.Calls.{rise_by_calls}
use Rattle.chr_semantics.specs.Names.{Names}
use Rattle.chr_semantics.specs.Program.{Atom, Program, Query}
use Rattle.chr_semantics.specs.Snapshot.{snapshot_of}
use Rattle.chr_semantics.specs.Stamps.{stamp}
use Rattle.chr_semantics.specs.State.{State, start}
use Rattle.chr_semantics.specs.Step.{after}
use Rattle.chr_semantics.specs.Tasks.{Task, tasks}
use Rattle.chr_laws.specs.Rounds.{IsRound, Round, task_sum}
use Rattle.chr_laws.specs.Sums.{guest_goal, marks_at, sum_of}
use Rattle.chr_machine.specs.Model.{Model, state_in}
use Rattle.chr_core.specs.IsAt.{IsAt}
use Rattle.chr_core.specs.RoundView.{round_of, touches_at}

module _ (names : Names) (p : Program) (r : Query) (m : Model) (at : IsAt names p r m) where
  state_is : state_in m ≡ after p (start r) m.steps
  state_is = at.run.state_is

  rules_are : m.rules ≡ p
  rules_are = at.run.same.rules

  touches_are : (t : Task) → touches_at m t ≡ task_sum p (rise_by_calls p) (start r) m.steps t
  touches_are t = λ k. sum_of (λ x. at.stamps_are x k) (marks_at (rules_are k) (state_is k) t)

  pub is_round_of : (let w = snapshot_of p (state_in m) in IsRound p (rise_by_calls p) (start r) (round_of m w.tasks w.guest))
  is_round_of = record {
    next_is = ap (λ (s : State). s.next_id) state_is;
    guest_is = ap guest_goal state_is;
    sums_are = λ k. map (λ t. touches_are t k) (tasks p (state_is k));
    flags_are = length-replicate (length (tasks p (state_in m))) false ∙ ap (λ (s : State). length (tasks p s)) state_is;
  }
