-- A core goes on to stand at the schedule with the arrival of an answer that is kept.
use Rattle.std.proofs.Common.{Bool, List, None, Option, Some, [], ap, cond, false, length, not, refl, set, subst, sym, true, ℕ, ◌&&◌, ◌++◌, ◌==◌, ◌∙◌, ◌∷◌, ◌≡◌}
use Rattle.std.specs.Prelude.{slice_get}
use Rattle.chr_semantics.specs.Footprint.{answer}
use Rattle.chr_semantics.specs.Program.{Program}
use Rattle.chr_semantics.specs.Schedule.{Event, arrive, kept, progress, took}
use Rattle.chr_semantics.specs.Stamps.{Rise}
use Rattle.chr_semantics.specs.State.{State}
use Rattle.chr_semantics.specs.Step.{after}
use Rattle.chr_semantics.specs.Tasks.{Task, same_task}
use Rattle.chr_laws.specs.Kept.{Answered, IsPlaced, is_guests, newest}
use Rattle.chr_laws.specs.Rounds.{Round, ats}
use Rattle.chr_laws.specs.Stands.{Core, Stands}
use Rattle.chr_laws.proofs.Flags.{ats_set, flagged, flags_set, rounds_set}
use Rattle.chr_laws.proofs.Served.{same_task_true}
use Rattle.chr_laws.proofs.Stands.{stands_law}
use Rattle.chr_core.specs.Shown.{at_in}
use Rattle.chr_core.proofs.Found.{at_of_round, flag_within, round_at}

-- what is the same for a task is the same for each that is the same task
same_for : (t u : Task) (b : Bool) (x y : Task → Option ℕ) (z : Option ℕ) → x u ≡ y u → cond (same_task t u && b) (x t) z ≡ cond (same_task t u && b) (y t) z
same_for t u b x y z e = at (same_task t u) refl
  where
    at : (s : Bool) → same_task t u ≡ s → cond (s && b) (x t) z ≡ cond (s && b) (y t) z
    at false is = refl
    at true is = let same = same_task_true t u is in ap (λ (w : Option ℕ). cond b w z) (ap x same ∙ e ∙ ap y (sym same))

module _ (p : Program) (rise : Rise) (q : State) (es : List Event) (c : Core) (stands : Stands p rise q es c) (k : Answered) (d : Round) (there : slice_get c.rounds k.round ≡ Some d) (placed : IsPlaced p q (ats c.rounds) k)
    (its_guests is_newest : Bool) (guests_is : its_guests ≡ (k.task.0 == d.next)) where
  -- it was an answer to a task of the guest, or not
  guests_same : is_guests p q (ats c.rounds) k ≡ its_guests
  guests_same =
      ap (λ (n : ℕ). k.task.0 == (after p q n).next_id) (at_of_round c.rounds k.round d there)
      ∙ ap (λ (n : ℕ). k.task.0 == n) (sym (round_at p rise q c.rounds k.round d stands.holds.are_rounds there).next_is)
      ∙ sym guests_is

  pub kept_next : (new_rounds : List Round) (new_answers : List Answered) (new_row : Task → Option ℕ) (new_guests : Task → List ℕ)
      → took (progress p q es) k.round k.index ≡ kept k.round → k.ids ≡ answer p (after p q (at_in c.rounds k.round)) k.task
      → ((n : ℕ) → newest (ats c.rounds) c.answers (at_in c.rounds k.round) n (c.row k.task) ≡ cond is_newest (Some n) (c.row k.task))
      → new_rounds ≡ set c.rounds k.round (flagged d k.index) → new_answers ≡ c.answers ++ k ∷ []
      → ((t : Task) → new_row t ≡ cond (same_task t k.task && not its_guests) (cond is_newest (Some (length c.answers)) (c.row t)) (c.row t))
      → ((t : Task) → new_guests t ≡ cond (same_task t k.task && its_guests) (c.guests t ++ length c.answers ∷ []) (c.guests t))
      → Stands p rise q (es ++ arrive k.round k.index ∷ []) (record c { rounds = new_rounds; answers = new_answers; row = new_row; guests = new_guests })
  kept_next new_rounds new_answers new_row new_guests took_is right newest_is rounds_are answers_are row_is guests_are =
      subst (λ (rs : List Round). Stands p rise q (es ++ arrive k.round k.index ∷ []) (record c { rounds = rs; answers = new_answers; row = new_row; guests = new_guests })) (sym rounds_are)
      (subst (λ (ks : List Answered). Stands p rise q (es ++ arrive k.round k.index ∷ []) (record c { rounds = set c.rounds k.round (flagged d k.index); answers = ks; row = new_row; guests = new_guests })) (sym answers_are)
      (stands_law.keeps p rise q es c (set c.rounds k.round (flagged d k.index)) new_row new_guests k stands took_is placed right
      (ats_set c.rounds k.round k.index d there)
      (rounds_set p rise q c.rounds k.round k.index d there stands.holds.are_rounds)
      (flags_set c.rounds k.round k.index d there (flag_within p rise q c.rounds stands.holds.are_rounds k.round d there k refl placed))
      (λ t. row_is t
      ∙ ap (λ (b : Bool). cond (same_task t k.task && not b) (cond is_newest (Some (length c.answers)) (c.row t)) (c.row t)) (sym guests_same)
      ∙ same_for t k.task (not (is_guests p q (ats c.rounds) k)) (λ u. cond is_newest (Some (length c.answers)) (c.row u)) (λ u. newest (ats c.rounds) c.answers (at_in c.rounds k.round) (length c.answers) (c.row u)) (c.row t) (sym (newest_is (length c.answers))))
      (λ t. guests_are t ∙ ap (λ (b : Bool). cond (same_task t k.task && b) (c.guests t ++ length c.answers ∷ []) (c.guests t)) (sym guests_same))))

  -- and its rounds have the same transitions before them
  pub ats_next : (new_rounds : List Round) → new_rounds ≡ set c.rounds k.round (flagged d k.index) → ats new_rounds ≡ ats c.rounds
  ats_next new_rounds e = ap ats e ∙ ats_set c.rounds k.round k.index d there
