-- A core goes on to stand at the schedule with one Step more.
use Rattle.std.proofs.Common.{List, None, Some, [], ap, refl, subst, sym, ℕ, ◌+◌, ◌++◌, ◌∙◌, ◌∷◌, ◌≡◌}
use Rattle.chr_semantics.specs.Calls.{rise_by_calls}
use Rattle.chr_semantics.specs.Names.{Names}
use Rattle.chr_semantics.specs.Program.{Program, Query}
use Rattle.chr_semantics.specs.Schedule.{Event, move}
use Rattle.chr_semantics.specs.State.{start}
use Rattle.chr_semantics.specs.Step.{after}
use Rattle.chr_semantics.specs.Tasks.{Task, needed_task}
use Rattle.chr_laws.specs.Stands.{Core, Stands}
use Rattle.chr_laws.proofs.Stands.{stands_law}
use Rattle.chr_machine.specs.MachineView.{Moves}
use Rattle.chr_machine.specs.Model.{Model, state_in}
use Rattle.chr_machine.specs.NeedView.{need, plain, search_of}
use Rattle.chr_core.specs.IsAt.{IsAt}
use Rattle.chr_core.specs.Serving.{NoneServes, ServesAt}
use Rattle.chr_core.proofs.Moves.{at_moved}
use Rattle.chr_core.proofs.Needs.{need_plain, need_search}

module _ (p : Program) (r : Query) (m n : Model) (at : IsAt m.names p r m) (moves : Moves m n) where
  -- the machine stands where the transitions lead
  pub at_next : IsAt n.names p r n
  at_next = subst (λ (names : Names). IsAt names p r n) (sym moves.same.names) (at_moved m.names p r m n at moves)

  module _ (es : List Event) (c : Core) (stands : Stands p (rise_by_calls p) (start r) es c) (steps_are : c.steps ≡ m.steps) where
    needs_are : needed_task p (after p (start r) c.steps) ≡ needed_task m.rules (state_in m)
    needs_are = ap (λ (k : ℕ). needed_task p (after p (start r) k)) steps_are ∙ sym (λ k. needed_task (at.run.same.rules k) (at.run.state_is k))

    next_is : c.steps + 1 ≡ n.steps
    next_is = ap (λ (k : ℕ). k + 1) steps_are ∙ sym moves.steps_are

    pub plain_next : need m ≡ plain → Stands p (rise_by_calls p) (start r) (es ++ move ∷ []) (record c { steps = n.steps })
    plain_next needs =
        subst (λ (k : ℕ). Stands p (rise_by_calls p) (start r) (es ++ move ∷ []) (record c { steps = k })) next_is
        (stands_law.moves p (rise_by_calls p) (start r) es c stands (needs_are ∙ (need_plain (needed_task m.rules (state_in m)) m.status needs).0))

    module _ (t : Task) (needs : need m ≡ search_of t) where
      needed : needed_task p (after p (start r) c.steps) ≡ Some t
      needed = needs_are ∙ (need_search (needed_task m.rules (state_in m)) m.status t needs).0

      pub own_next : NoneServes p (start r) c t → Stands p (rise_by_calls p) (start r) (es ++ move ∷ []) (record c { steps = n.steps; own = c.own + 1 })
      own_next none =
          subst (λ (k : ℕ). Stands p (rise_by_calls p) (start r) (es ++ move ∷ []) (record c { steps = k; own = c.own + 1 })) next_is
          (stands_law.searches p (rise_by_calls p) (start r) es c t stands needed none.row none.guests)

      pub used_next : (i : ℕ) → ServesAt p (start r) c t i → Stands p (rise_by_calls p) (start r) (es ++ move ∷ []) (record c { steps = n.steps; used = c.used + 1 })
      used_next i w =
          subst (λ (k : ℕ). Stands p (rise_by_calls p) (start r) (es ++ move ∷ []) (record c { steps = k; used = c.used + 1 })) next_is
          (stands_law.uses p (rise_by_calls p) (start r) es c t i w.answer stands needed w.there w.its w.serves)
