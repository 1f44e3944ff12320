-- What a round that a core keeps tells of the tasks of its state.
use Rattle.std.proofs.Common.{List, None, Option, Some, [], ap, arith, cond, get_or, length, map, refl, subst, sym, zero, suc, ℕ, ◌<◌, ◌∙◌, ◌∷◌, ◌≡◌}
use Rattle.std.proofs.lemmas.List.{length-map}
use Rattle.std.proofs.lemmas.Option.{slice_get-map, slice_get_read, slice_get_within}
use Rattle.std.specs.Prelude.{nat_lt, option_map, slice_get, unwrap_or}
use Rattle.chr_semantics.specs.Program.{Atom, Program, occurrence}
use Rattle.chr_semantics.specs.Schedule.{Refusal, round_refusal, unknown_task}
use Rattle.chr_semantics.specs.Stamps.{Rise}
use Rattle.chr_semantics.specs.State.{State}
use Rattle.chr_semantics.specs.Step.{after}
use Rattle.chr_semantics.specs.Tasks.{Task, tasks}
use Rattle.chr_semantics.specs.Touch.{footprint_at, footprint_of}
use Rattle.chr_laws.specs.Kept.{Answered, IsPlaced}
use Rattle.chr_laws.specs.Rounds.{AreRounds, IsRound, Round, ats, task_sum}
use Rattle.chr_core.specs.Shown.{at_in}

-- what a call of `get` gives of a slice
pub got : {X : Type 0} (ds xs : List X) (i : ℕ) (x : X) → ds ≡ xs → i < length ds → x ≡ get_or ds i x → slice_get xs i ≡ Some x
got {X} ds xs i x same lt e = ap (λ (l : List X). slice_get l i) (sym same) ∙ slice_get_read ds (length ds) i x refl lt e

-- the transitions before it
pub at_of_round : (rounds : List Round) (i : ℕ) (d : Round) → slice_get rounds i ≡ Some d → at_in rounds i ≡ d.at
at_of_round rounds i d e = ap (λ (x : Option ℕ). unwrap_or x 0) (slice_get-map (λ (c : Round). c.at) rounds i ∙ ap (option_map (λ (c : Round). c.at)) e)

-- the marks of the occurrence of a task's constraint, by its symbol
pub marks_by : (p : Program) (j f : ℕ) (x : Option Atom) → Some f ≡ option_map (λ (a : Atom). a.sym) x → footprint_of (occurrence p f j) ≡ footprint_at p j x
marks_by p j f None e = cc
marks_by p j f (Some a) e = let same : f ≡ a.sym = cc in ap (λ (g : ℕ). footprint_of (occurrence p g j)) same

module _ (p : Program) (rise : Rise) (q : State) where
  pub round_at : (rounds : List Round) (i : ℕ) (d : Round) → AreRounds p rise q rounds → slice_get rounds i ≡ Some d → IsRound p rise q d
  round_at [] i d are e = cc
  round_at (c ∷ cs) zero d are e = let same : c ≡ d = cc in subst (IsRound p rise q) same are.0
  round_at (c ∷ cs) (suc i) d are e = round_at cs i d are.1 e

  module _ (rounds : List Round) (are : AreRounds p rise q rounds) (i : ℕ) (d : Round) (there : slice_get rounds i ≡ Some d) where
    is : IsRound p rise q d
    is = round_at rounds i d are there

    -- it has a flag for the task of an answer
    pub flag_within : (k : Answered) → k.round ≡ i → IsPlaced p q (ats rounds) k → k.index < length d.flags
    flag_within k its placed =
        let at : at_in rounds k.round ≡ d.at = ap (at_in rounds) its ∙ at_of_round rounds i d there in
        let task : slice_get (tasks p (after p q d.at)) k.index ≡ Some k.task = subst (λ (n : ℕ). slice_get (tasks p (after p q n)) k.index ≡ Some k.task) at placed.1 in
        let h = slice_get_within (tasks p (after p q d.at)) k.index k.task task in
        let n = is.flags_are in omega (arith, n, h)

    -- why an arrival is refused
    pub refusal_by : (given : List ℕ) (at_place x : ℕ) → ats rounds ≡ given → round_refusal p q at_place x (slice_get given i) ≡ cond (nat_lt x (length d.sums)) None (Some (unknown_task at_place))
    refusal_by given at_place x same =
        let its : slice_get given i ≡ Some d.at = ap (λ (l : List ℕ). slice_get l i) (sym same) ∙ slice_get-map (λ (c : Round). c.at) rounds i ∙ ap (option_map (λ (c : Round). c.at)) there in
        let n : length (tasks p (after p q d.at)) ≡ length d.sums = sym (ap (λ (l : List ℕ). length l) is.sums_are ∙ length-map (tasks p (after p q d.at)) (task_sum p rise q d.at)) in
        ap (round_refusal p q at_place x) its ∙ ap (λ (m : ℕ). cond (nat_lt x m) None (Some (unknown_task at_place))) n

-- a round to which an arrival is not refused stands
pub stands_at : (p : Program) (q : State) (rounds : List Round) (i : ℕ) (given : List ℕ) (at_place x : ℕ) → ats rounds ≡ given → round_refusal p q at_place x (slice_get given i) ≡ None → i < length rounds
stands_at p q rounds i given at_place x same none =
    let n = length-map rounds (λ (c : Round). c.at) in
    subst (λ (m : ℕ). i < m) (ap (λ (l : List ℕ). length l) (sym same) ∙ n) (by given i none)
  where
    by : (l : List ℕ) (j : ℕ) → round_refusal p q at_place x (slice_get l j) ≡ None → j < length l
    by [] j e = cc
    by (y ∷ l) zero e = omega arith
    by (y ∷ l) (suc j) e = let h = by l j e in omega (arith, h)
