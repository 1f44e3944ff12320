-- An answer that comes to a round is no event that is refused.
use Rattle.std.proofs.Common.{◌≡◌, ◌∙◌, Bool, List, None, Some, ap, cond, false, length, subst, sym, true, ℕ}
use Rattle.std.proofs.lemmas.Bool.{lt-ltb}
use Rattle.std.specs.List.{list_any}
use Rattle.std.proofs.lemmas.Option.{slice_get_within}
use Rattle.std.specs.Prelude.{slice_get}
use Rattle.chr_semantics.specs.Program.{Program}
use Rattle.chr_semantics.specs.Schedule.{Progress, double, is_late, kept, late, round_refusal, took, unknown_task}
use Rattle.chr_semantics.specs.State.{State}
use Rattle.chr_semantics.specs.Step.{after}
use Rattle.chr_semantics.specs.Tasks.{same_task, tasks}
use Rattle.chr_laws.specs.Kept.{Answered, IsPlaced}
use Rattle.chr_laws.specs.Rounds.{Round, ats}
use Rattle.chr_laws.proofs.Places.{get_some}
use Rattle.chr_core.specs.CoreView.{AllowsArrival, IsThere, took_view}
use Rattle.chr_core.specs.Shown.{at_in}
use Rattle.chr_core.specs.declared.arriving.Took.{Took}
use Rattle.chr_core.specs.declared.arriving.Took.TheVariants.{Double, Kept, Late, Stranger}

-- its round stands, and has its task
pub there : (p : Program) (q : State) (g : Progress) (rounds : List Round) (k : Answered) → ats rounds ≡ g.rounds → IsPlaced p q (ats rounds) k → IsThere p q g k.round k.index
there p q g rounds k same placed n =
    let at = get_some (ats rounds) k.round 0 placed.0 in
    let within = slice_get_within (tasks p (after p q (at_in rounds k.round))) k.index k.task placed.1 in
    ap (λ (l : List ℕ). round_refusal p q n k.index (slice_get l k.round)) (sym same)
    ∙ (ap (round_refusal p q n k.index) at
    ∙ ap (λ (b : Bool). cond b None (Some (unknown_task n))) (lt-ltb k.index (length (tasks p (after p q (at_in rounds k.round)))) within))

-- whatever becomes of it
pub allows : (p : Program) (q : State) (g : Progress) (i x : ℕ) (t : Took) → took_view t ≡ took g i x → IsThere p q g i x → AllowsArrival p q g x t
allows p q g i x t e h = by (is_late g i) (list_any (same_task (i, x)) g.kept) t e
  where
    by : (b c : Bool) (t : Took) → took_view t ≡ cond b (late i) (cond c (double i) (kept i)) → AllowsArrival p q g x t
    by true c (Late j) e = let same : j ≡ i = cc in subst (λ (n : ℕ). IsThere p q g n x) (sym same) h
    by true c (Kept j) e = cc
    by true c (Double j) e = cc
    by true c Stranger e = cc
    by false true (Double j) e = let same : j ≡ i = cc in subst (λ (n : ℕ). IsThere p q g n x) (sym same) h
    by false true (Kept j) e = cc
    by false true (Late j) e = cc
    by false true Stranger e = cc
    by false false (Kept j) e = let same : j ≡ i = cc in subst (λ (n : ℕ). IsThere p q g n x) (sym same) h
    by false false (Late j) e = cc
    by false false (Double j) e = cc
    by false false Stranger e = cc
