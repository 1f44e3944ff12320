-- What the run of two texts answers, and what goes out.
use Rattle.std.specs.Prelude.{◌≡◌, ℕ, List, None, Option, Result, Ok, Err}
use Rattle.std.specs.Io.KnownBytes.{Keeps}
use Rattle.chr_semantics.specs.Accepted.{IsAcceptedProgram, IsAccepted}
use Rattle.chr_semantics.specs.Checked.{Checked, checked, checked_query}
use Rattle.chr_semantics.specs.Grammar.{IsProgram, IsQuery}
use Rattle.chr_semantics.specs.Names.{Names}
use Rattle.chr_semantics.specs.Outcome.{run_refusal}
use Rattle.chr_semantics.specs.Program.{Program as Rules, Query as Goals}
use Rattle.chr_semantics.specs.Reading.{IsRead}
use Rattle.chr_semantics.specs.Syntax as syntax
use Rattle.chr_read.specs.Refusals.{IsRefusal}
use Rattle.chr_rules.specs.Checks.{IsError}
use Rattle.chr_run.specs.Headline.{PastLimits}
use Rattle.chr_run.specs.Run.{IsInto}
use Rattle.chr_run.specs.declared.error.RunError.TheVariants.{Memory}
use Rattle.chr_run.specs.declared.error.TextError.{TextError}
use Rattle.chr_run.specs.declared.error.TextError.TheVariants as error
use Rattle.chr_run.specs.declared.result.Run.{Run}

-- the text of a program is not read so, or it is read and there is this mistake
abbrev pub IsProgramError : List ℕ → TextError → Type 0
IsProgramError text (error.Program e) = IsRefusal IsProgram text e
IsProgramError text (error.Rules e) = (spelled : syntax.Program) × IsRead IsProgram text spelled × IsError e (checked spelled)
IsProgramError text _ = ⊥

-- the same of a query over an accepted program
abbrev pub IsQueryError : Checked → List ℕ → TextError → Type 0
IsQueryError c text (error.Query e) = IsRefusal IsQuery text e
IsQueryError c text (error.Goals e) = (spelled : syntax.Query) × IsRead IsQuery text spelled × IsError e (checked_query c spelled)
IsQueryError c text _ = ⊥

-- Why two texts are not run: the program is looked at first, then the query over it.
abbrev pub IsTextError : List ℕ → List ℕ → TextError → Type 0
IsTextError program query (error.Program e) = IsProgramError program (error.Program e)
IsTextError program query (error.Rules e) = IsProgramError program (error.Rules e)
IsTextError program query (error.Query e) = (c : Checked) × IsAcceptedProgram program c × IsQueryError c query (error.Query e)
IsTextError program query (error.Goals e) = (c : Checked) × IsAcceptedProgram program c × IsQueryError c query (error.Goals e)
IsTextError program query _ = ⊥

module _ {A : Type 0} (program query : List ℕ) (n workers : ℕ) (old new : Option (List ℕ)) where
  -- the texts are accepted, and the run of what they stand for answers so
  pub record IsAcceptedRun (result : Result (Run A) TextError) : Type 0 where
    pub names : Names
    pub rules : Rules
    pub q : Goals
    pub accepted : IsAccepted program query names rules q
    pub into : IsInto names rules q n workers old new result

  -- What an answer says of the texts and of the bytes that the writer tells. The limits are looked at before the texts.
  abbrev pub IsTextRun : Result (Run A) TextError → Type 0
  IsTextRun (Ok run) = IsAcceptedRun (Ok run)
  IsTextRun (Err error.Write) = IsAcceptedRun (Err error.Write)
  IsTextRun (Err (error.Run Memory)) = IsAcceptedRun (Err (error.Run Memory))
  IsTextRun (Err (error.Run e)) = PastLimits n workers e × Keeps old new
  IsTextRun (Err e) = (run_refusal n workers ≡ None) × IsTextError program query e × Keeps old new
