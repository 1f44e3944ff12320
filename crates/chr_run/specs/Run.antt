-- What a run answers, and what goes out.
use Rattle.std.specs.Prelude.{◌≡◌, ℕ, List, None, Option, Result, Ok, Err}
use Rattle.std.specs.Io.KnownBytes.{Appends, Keeps}
use Rattle.chr_semantics.specs.Names.{Names}
use Rattle.chr_semantics.specs.Outcome.{run_refusal}
use Rattle.chr_semantics.specs.Program.{Program, Query}
use Rattle.chr_semantics.specs.Text.{text}
use Rattle.chr_run.specs.Headline.{IsRun, PastLimits}
use Rattle.chr_run.specs.Output.{AppendsLess}
use Rattle.chr_run.specs.Sending.{IsCut}
use Rattle.chr_run.specs.declared.error.RunError.TheVariants.{BudgetTooLarge, TooManyWorkers}
use Rattle.chr_run.specs.declared.error.TextError.{TextError}
use Rattle.chr_run.specs.declared.error.TextError.TheVariants as error
use Rattle.chr_run.specs.declared.result.Run.{Run}

module _ {A : Type 0} (names : Names) (p : Program) (q : Query) (n workers : ℕ) (old new : Option (List ℕ)) where
  -- What an answer of a run of n transitions says of the bytes that the outlet tells: all of its text is out, or else a first part of it, and
  -- not all.
  abbrev pub GoesOut : {E : Type 0} → Result (Run A) E → Type 0
  GoesOut (Ok run) = Appends old new (text names p q n) × IsRun names p q n workers run
  GoesOut (Err e) = AppendsLess old new (text names p q n)

  -- the same where the error is Write or want of memory
  abbrev pub Sends : Result (Run A) TextError → Type 0
  Sends (Ok run) = Appends old new (text names p q n) × IsRun names p q n workers run
  Sends (Err e) = IsCut e × AppendsLess old new (text names p q n)

  -- the same of a run that the limits may refuse: then nothing goes out; a program and a query that are there are never refused as texts
  abbrev pub IsInto : Result (Run A) TextError → Type 0
  IsInto (Err (error.Run BudgetTooLarge)) = PastLimits n workers BudgetTooLarge × Keeps old new
  IsInto (Err (error.Run TooManyWorkers)) = PastLimits n workers TooManyWorkers × Keeps old new
  IsInto r = (run_refusal n workers ≡ None) × Sends r
