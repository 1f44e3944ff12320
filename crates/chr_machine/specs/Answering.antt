-- What is known of the search that a step asks for.
use Rattle.std.specs.Prelude.{◌≡◌}
use Rattle.chr_semantics.specs.Footprint.{step_answer}
use Rattle.chr_semantics.specs.Search.{ids_found}
use Rattle.chr_machine.specs.Firing.{atom_at, search_in}
use Rattle.chr_machine.specs.Model.{CourseModel, Model, state_in}
use Rattle.chr_machine.specs.declared.search_answer.SearchAnswer.{SearchAnswer}
use Rattle.chr_machine.specs.declared.search_answer.SearchAnswer.TheVariants.{Missing, Found}
use Rattle.chr_machine.specs.declared.turning.ActiveConstraint.{ActiveConstraint}

-- what is known holds of the search of the step
abbrev pub AnswersStep : Model → SearchAnswer → Type 0
AnswersStep m Missing = Unit {0}
AnswersStep m (Found ids) = ids ≡ step_answer m.rules (state_in m)

-- and of the search for an active constraint
abbrev pub AnswersSearch : {A : Type 0} → CourseModel → ActiveConstraint A → SearchAnswer → Type 0
AnswersSearch c x Missing = Unit {0}
AnswersSearch c x (Found ids) = ids ≡ ids_found (search_in c x.id.0 x.occurrence (atom_at x))
