-- An answer that comes to a round is to a task of the round, and is what the task finds there.
use Rattle.std.proofs.Common.{◌≡◌, ◌∙◌, ◌<◌, List, Option, Some, arith, length, sym, ℕ}
use Rattle.std.proofs.lemmas.List.{length-map}
use Rattle.std.proofs.lemmas.Option.{slice_get_within}
use Rattle.std.specs.Prelude.{slice_get}
use Rattle.chr_semantics.specs.Footprint.{answer}
use Rattle.chr_semantics.specs.Program.{Program, Query}
use Rattle.chr_semantics.specs.Snapshot.{snapshot_of}
use Rattle.chr_semantics.specs.State.{start}
use Rattle.chr_semantics.specs.Step.{after}
use Rattle.chr_semantics.specs.Tasks.{Task}
use Rattle.chr_semantics.proofs.SnapshotLaw.{snapshot_law}
use Rattle.chr_find.specs.declared.snapshot.Snapshot.{Snapshot}
use Rattle.chr_laws.specs.Kept.{IsPlaced}
use Rattle.chr_laws.specs.Rounds.{Round, ats}
use Rattle.chr_shelf.specs.Answers.{IsTrueIn, IsTrueOf}
use Rattle.chr_core.specs.Shown.{AreShown, at_in}

module _ {A : Type 0} (p : Program) (r : Query) (rounds : List Round) (shots : List (Snapshot A)) (shown : AreShown p (start r) rounds shots)
    (i : ℕ) (shot : Snapshot A) (there : slice_get shots i ≡ Some shot) (index : ℕ) (t : Task) (ids : Option (List ℕ)) (is : IsTrueIn p shot index t ids) where
  here : IsTrueOf p (snapshot_of p (after p (start r) (at_in rounds i))) index t ids
  here = is (snapshot_of p (after p (start r) (at_in rounds i))) (shown.shown i shot there)

  pub placed : IsPlaced p (start r) (ats rounds) (record { round = i; index = index; task = t; ids = ids })
  placed =
      let n = shown.same in
      let h = slice_get_within shots i shot there in
      let m = length-map rounds (λ (d : Round). d.at) in
      (omega (arith, n, h, m), here.task_is)

  pub right : ids ≡ answer p (after p (start r) (at_in rounds i)) t
  right = here.ids_are ∙ snapshot_law.published p r (at_in rounds i) t
