-- What holds of a core after a step, whatever that answers.
use Rattle.std.proofs.Common.{◌≡◌, ◌∙◌, ◌+◌, List, ap, arith, refl, subst, sym, ℕ}
use Rattle.chr_semantics.specs.Calls.{rise_by_calls}
use Rattle.chr_semantics.specs.Schedule.{Event}
use Rattle.chr_semantics.specs.Tasks.{Task}
use Rattle.chr_laws.specs.Stands as stands
use Rattle.chr_laws.specs.Stands.{Stands}
use Rattle.chr_shelf.specs.declared.run.RunName.{Ghosts}
use Rattle.chr_machine.specs.MachineView.{Steps}
use Rattle.chr_machine.specs.Model.{Model}
use Rattle.chr_machine.specs.NeedView.{need, plain, search_of}
use Rattle.chr_machine.specs.declared.stepped.Stepped.{Stepped}
use Rattle.chr_machine.specs.declared.stepped.Stepped.TheVariants.{Moved, Ended, Spent}
use Rattle.chr_core.specs.CoreView.{core_in, events_of, machine_in, query_of, start_of, stepped_events}
use Rattle.chr_core.specs.IsAt.{IsAt}
use Rattle.chr_core.specs.Serving.{NoneServes, ServesAt}
use Rattle.chr_core.specs.Stepping.{steps_in}
use Rattle.chr_core.specs.declared.run_core.Core.{Core}
use Rattle.chr_core.proofs.Steps.{at_next, own_next, plain_next, used_next}

-- the machine became n
module _ {J A : Type 0} {G : Ghosts J} (old : Core J A G) (n : Model) where
  abbrev StandsBy : List Event → stands.Core → Type 0
  StandsBy es c = Stands G.rules (rise_by_calls G.rules) (start_of old) es c

  -- it stands where the transitions lead
  pub at_stepped : (stepped : Stepped) → Steps stepped (machine_in old) n → IsAt n.names G.rules (query_of old) n
  at_stepped Moved w = at_next G.rules (query_of old) (machine_in old) n old.at w
  at_stepped Ended w = subst (λ (m : Model). IsAt m.names G.rules (query_of old) m) (sym w.1) old.at
  at_stepped Spent w = subst (λ (m : Model). IsAt m.names G.rules (query_of old) m) (sym w.2) old.at

  -- where nothing moved, the core stands where it stood
  stays : n ≡ machine_in old → (c : stands.Core) → StandsBy (events_of old) c → c.steps ≡ (machine_in old).steps → StandsBy (events_of old) (record c { steps = n.steps })
  stays same c old_stands is = subst (λ (k : ℕ). StandsBy (events_of old) (record c { steps = k })) (is ∙ ap (λ (m : Model). m.steps) (sym same)) old_stands

  with_own : StandsBy (events_of old) (record (core_in old) { own = old.own + 0 })
  with_own = let none : old.own ≡ old.own + 0 = omega arith in subst (λ (k : ℕ). StandsBy (events_of old) (record (core_in old) { own = k })) none old.stands

  with_used : StandsBy (events_of old) (record (core_in old) { used = old.used + 0 })
  with_used = let none : old.used ≡ old.used + 0 = omega arith in subst (λ (k : ℕ). StandsBy (events_of old) (record (core_in old) { used = k })) none old.stands

  -- after a step without a search
  plain_by : (stepped : Stepped) → Steps stepped (machine_in old) n → need (machine_in old) ≡ plain → StandsBy (stepped_events stepped (events_of old)) (record (core_in old) { steps = n.steps })
  plain_by Moved w needs = plain_next G.rules (query_of old) (machine_in old) n old.at w (events_of old) (core_in old) old.stands refl needs
  plain_by Ended w needs = stays w.1 (core_in old) old.stands refl
  plain_by Spent w needs = stays w.2 (core_in old) old.stands refl

  pub plain_stepped : (stepped : Stepped) → Steps stepped (machine_in old) n → need (machine_in old) ≡ plain
      → (es : List Event) → es ≡ stepped_events stepped (events_of old) → StandsBy es (record (core_in old) { steps = n.steps })
  plain_stepped stepped w needs es e = subst (λ (l : List Event). StandsBy l (record (core_in old) { steps = n.steps })) (sym e) (plain_by stepped w needs)

  module _ (t : Task) (needs : need (machine_in old) ≡ search_of t) where
    -- after one that made its search
    own_by : (stepped : Stepped) → Steps stepped (machine_in old) n → NoneServes G.rules (start_of old) (core_in old) t
        → StandsBy (stepped_events stepped (events_of old)) (record (core_in old) { steps = n.steps; own = old.own + steps_in stepped })
    own_by Moved w none = own_next G.rules (query_of old) (machine_in old) n old.at w (events_of old) (core_in old) old.stands refl t needs none
    own_by Ended w none = stays w.1 (record (core_in old) { own = old.own + 0 }) with_own refl
    own_by Spent w none = stays w.2 (record (core_in old) { own = old.own + 0 }) with_own refl

    pub own_stepped : (stepped : Stepped) → Steps stepped (machine_in old) n → NoneServes G.rules (start_of old) (core_in old) t
        → (es : List Event) (k : ℕ) → es ≡ stepped_events stepped (events_of old) → k ≡ steps_in stepped → StandsBy es (record (core_in old) { steps = n.steps; own = old.own + k })
    own_stepped stepped w none es k e i =
        subst (λ (l : List Event). StandsBy l (record (core_in old) { steps = n.steps; own = old.own + k })) (sym e)
        (subst (λ (j : ℕ). StandsBy (stepped_events stepped (events_of old)) (record (core_in old) { steps = n.steps; own = old.own + j })) (sym i) (own_by stepped w none))

    -- after one that used an answer
    used_by : (stepped : Stepped) → Steps stepped (machine_in old) n → (i : ℕ) → ServesAt G.rules (start_of old) (core_in old) t i
        → StandsBy (stepped_events stepped (events_of old)) (record (core_in old) { steps = n.steps; used = old.used + steps_in stepped })
    used_by Moved w i serves = used_next G.rules (query_of old) (machine_in old) n old.at w (events_of old) (core_in old) old.stands refl t needs i serves
    used_by Ended w i serves = stays w.1 (record (core_in old) { used = old.used + 0 }) with_used refl
    used_by Spent w i serves = stays w.2 (record (core_in old) { used = old.used + 0 }) with_used refl

    pub used_stepped : (stepped : Stepped) → Steps stepped (machine_in old) n → (i : ℕ) → ServesAt G.rules (start_of old) (core_in old) t i
        → (es : List Event) (k : ℕ) → es ≡ stepped_events stepped (events_of old) → k ≡ steps_in stepped → StandsBy es (record (core_in old) { steps = n.steps; used = old.used + k })
    used_stepped stepped w i serves es k e is =
        subst (λ (l : List Event). StandsBy l (record (core_in old) { steps = n.steps; used = old.used + k })) (sym e)
        (subst (λ (j : ℕ). StandsBy (stepped_events stepped (events_of old)) (record (core_in old) { steps = n.steps; used = old.used + j })) (sym is) (used_by stepped w i serves))
