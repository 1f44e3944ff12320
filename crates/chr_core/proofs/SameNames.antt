-- A step and an arrival keep the query and the names.
use Rattle.std.proofs.Common.{◌≡◌, Err, Ok, Result, ap}
use Rattle.std.specs.Prelude.{IfOk, OnErr}
use Rattle.chr_shelf.specs.declared.run.RunName.{Ghosts}
use Rattle.chr_machine.specs.MachineView.{Steps}
use Rattle.chr_machine.specs.Model.{Model}
use Rattle.chr_machine.specs.declared.stepped.Stepped.{Stepped}
use Rattle.chr_machine.specs.declared.stepped.Stepped.TheVariants.{Moved, Ended, Spent}
use Rattle.chr_core.specs.CoreView.{IsAsBefore, IsSameRun, machine_in, names_in, query_of}
use Rattle.chr_core.specs.Replaying.{IsSameQuery}
use Rattle.chr_core.specs.declared.run_core.Core.{Core}

module _ {J A : Type 0} {G : Ghosts J} (old new : Core J A G) where
  run_names : IsSameRun old new → names_in new ≡ names_in old
  run_names same = ap (λ (m : Model). m.names) same.machine_is

  step_names : {E : Type 0} (o : Result Stepped E) → IfOk o (λ stepped. Steps stepped (machine_in old) (machine_in new)) → OnErr o (IsAsBefore old new) → names_in new ≡ names_in old
  step_names (Err e) steps same = run_names same.run
  step_names (Ok Moved) steps same = steps.same.names
  step_names (Ok Ended) steps same = ap (λ (m : Model). m.names) steps.1
  step_names (Ok Spent) steps same = ap (λ (m : Model). m.names) steps.2

  pub run_same : IsSameRun old new → IsSameQuery old new
  run_same same = record { query_is = same.query_is; names_are = run_names same }

  pub step_same : {E : Type 0} (o : Result Stepped E) → query_of new ≡ query_of old → IfOk o (λ stepped. Steps stepped (machine_in old) (machine_in new)) → OnErr o (IsAsBefore old new) → IsSameQuery old new
  step_same o query steps same = record { query_is = query; names_are = step_names o steps same }
