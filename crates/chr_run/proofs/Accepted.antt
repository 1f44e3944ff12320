-- The answers of a run of two texts.
use Rattle.std.proofs.Common.{ℕ, List, Option, Result, Ok, Err}
use Rattle.chr_semantics.specs.Accepted.{IsAccepted}
use Rattle.chr_semantics.specs.Names.{Names}
use Rattle.chr_semantics.specs.Program.{Program as Rules, Query as Goals}
use Rattle.chr_run.specs.Run.{IsInto}
use Rattle.chr_run.specs.Texts.{IsTextRun}
use Rattle.chr_run.specs.declared.error.RunError.TheVariants.{BudgetTooLarge, TooManyWorkers, Memory}
use Rattle.chr_run.specs.declared.error.TextError.{TextError}
use Rattle.chr_run.specs.declared.error.TextError.TheVariants as error
use Rattle.chr_run.specs.declared.result.Run.{Run}

-- the run of what is accepted is the run of the texts
pub accepted_run : {A : Type 0} (program query : List ℕ) (names : Names) (rules : Rules) (q : Goals) (n workers : ℕ) (old new : Option (List ℕ)) (result : Result (Run A) TextError)
    → IsAccepted program query names rules q → IsInto names rules q n workers old new result → IsTextRun program query n workers old new result
accepted_run program query names rules q n workers old new (Ok run) a h = record { names = names; rules = rules; q = q; accepted = a; into = h }
accepted_run program query names rules q n workers old new (Err error.Write) a h = record { names = names; rules = rules; q = q; accepted = a; into = h }
accepted_run program query names rules q n workers old new (Err (error.Run Memory)) a h = record { names = names; rules = rules; q = q; accepted = a; into = h }
accepted_run program query names rules q n workers old new (Err (error.Run BudgetTooLarge)) a h = h
accepted_run program query names rules q n workers old new (Err (error.Run TooManyWorkers)) a h = h
accepted_run program query names rules q n workers old new (Err (error.Program e)) a h = absurd h.1.0
accepted_run program query names rules q n workers old new (Err (error.Rules e)) a h = absurd h.1.0
accepted_run program query names rules q n workers old new (Err (error.Query e)) a h = absurd h.1.0
accepted_run program query names rules q n workers old new (Err (error.Goals e)) a h = absurd h.1.0
accepted_run program query names rules q n workers old new (Err (error.Schedule e)) a h = absurd h.1.0
accepted_run program query names rules q n workers old new (Err (error.Replay e)) a h = absurd h.1.0
