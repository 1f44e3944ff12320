-- That a core stands at a schedule has one proof at most.
use Rattle.std.specs.Prelude.{ℕ, List, [], ◌∷◌}
use Rattle.std.specs.Coded.{×_prop, Unit-prop, codes}
use Rattle.std.proofs.Props.{props}
use Rattle.chr_semantics.specs.Program.{Program}
use Rattle.chr_semantics.specs.Stamps.{Rise}
use Rattle.chr_semantics.specs.State.{State}
use Rattle.chr_find.specs.AtomCode.{atom_code}
use Rattle.chr_laws.specs.Kept.{Answered, ArePlaced, IsPlaced}
use Rattle.chr_laws.specs.Rounds.{AreAnswers, AreRounds, IsRound, Round}
use Rattle.chr_core.specs.Codes.{rule_code, state_code}

IsRound-prop : (p : Program) (rise : Rise) (q : State) (d : Round) → IsProp (IsRound p rise q d)
IsRound-prop p rise q d = hlevel (atom_code, codes, props)

IsPlaced-prop : (p : Program) (q : State) (rounds : List ℕ) (k : Answered) → IsProp (IsPlaced p q rounds k)
IsPlaced-prop p q rounds k = hlevel (codes, props)

pub AreRounds-prop : (p : Program) (rise : Rise) (q : State) (rounds : List Round) → IsProp (AreRounds p rise q rounds)
AreRounds-prop p rise q [] = Unit-prop
AreRounds-prop p rise q (d ∷ ds) = ×_prop (IsRound-prop p rise q d) (AreRounds-prop p rise q ds)

pub ArePlaced-prop : (p : Program) (q : State) (rounds : List ℕ) (kept : List Answered) → IsProp (ArePlaced p q rounds kept)
ArePlaced-prop p q rounds [] = Unit-prop
ArePlaced-prop p q rounds (k ∷ ks) = ×_prop (IsPlaced-prop p q rounds k) (ArePlaced-prop p q rounds ks)

pub AreAnswers-prop : (p : Program) (q : State) (rounds : List ℕ) (answers : List Answered) → IsProp (AreAnswers p q rounds answers)
AreAnswers-prop p q rounds [] = Unit-prop
AreAnswers-prop p q rounds (k ∷ ks) = ×_prop (hlevel (codes, props)) (AreAnswers-prop p q rounds ks)

-- the set for `by { Prim.hlevel cores }` after a ghost field of a core
pub ruleset cores = (AreRounds-prop, ArePlaced-prop, AreAnswers-prop, rule_code, state_code, atom_code, codes, props)
