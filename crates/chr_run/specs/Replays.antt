-- What the replay of a schedule over two texts answers, and what goes out.
use Rattle.std.specs.Prelude.{◌≡◌, ℕ, List, Option, None, Result, Ok, Err}
use Rattle.std.specs.Io.KnownBytes.{Appends, Keeps}
use Rattle.chr_semantics.specs.Accepted.{IsAccepted}
use Rattle.chr_semantics.specs.Names.{Names}
use Rattle.chr_semantics.specs.Program.{Program as Rules, Query as Goals}
use Rattle.chr_semantics.specs.Schedule.{Event, counts, first_refusal, no_progress, progress}
use Rattle.chr_semantics.specs.ScheduleText.{read_schedule}
use Rattle.chr_semantics.specs.State.{start}
use Rattle.chr_semantics.specs.Step.{after}
use Rattle.chr_semantics.specs.Text.{text}
use Rattle.chr_schedule.specs.ErrorView.{IsErrorOf}
use Rattle.chr_schedule.specs.declared.error.ScheduleError.{ScheduleError}
use Rattle.chr_trace.specs.State.{status_view}
use Rattle.chr_trace.specs.declared.state.Status.{Status}
use Rattle.chr_core.specs.CoreView.{counts_view}
use Rattle.chr_core.specs.Replaying.{IsRefusal}
use Rattle.chr_core.specs.declared.error.ReplayError.TheVariants.{Memory}
use Rattle.chr_core.specs.declared.run_core.Counts.{Counts}
use Rattle.chr_run.specs.Output.{AppendsLess}
use Rattle.chr_run.specs.Texts.{IsTextError}
use Rattle.chr_run.specs.declared.error.TextError.{TextError}
use Rattle.chr_run.specs.declared.error.TextError.TheVariants.{Replay, Schedule, Write}

-- the text of what the Steps of a schedule lead to
abbrev pub replayed_text : Names → Rules → Goals → List Event → List ℕ
replayed_text names p q es = text names p q (progress p (start q) es).steps

-- no event is refused, and all of the text goes out; the answer is the status, with the counts of the schedule
pub record ReplaysWhole (names : Names) (p : Rules) (q : Goals) (es : List Event) (old new : Option (List ℕ)) (made : Status × Counts) : Type 0 where
  pub allowed : first_refusal p (start q) no_progress 0 es ≡ None
  pub appends : Appends old new (replayed_text names p q es)
  pub status_is : status_view made.0 ≡ (after p (start q) (progress p (start q) es).steps).status
  pub counts_are : counts_view made.1 ≡ counts p (start q) es

-- why bytes did not go out whole: the writer failed after a first part of them, with some left, or memory was refused before
abbrev pub IsUnsent : List ℕ → Option (List ℕ) → Option (List ℕ) → TextError → Type 0
IsUnsent bytes old new Write = AppendsLess old new bytes
IsUnsent bytes old new (Replay Memory) = Keeps old new
IsUnsent bytes old new _ = ⊥

-- What the replay of a schedule of a query's run answers. The first event that is refused decides.
abbrev pub IsReplayed : Names → Rules → Goals → List Event → Option (List ℕ) → Option (List ℕ) → Result (Status × Counts) TextError → Type 0
IsReplayed names p q es old new (Ok made) = ReplaysWhole names p q es old new made
IsReplayed names p q es old new (Err Write) = (first_refusal p (start q) no_progress 0 es ≡ None) × AppendsLess old new (replayed_text names p q es)
IsReplayed names p q es old new (Err (Replay e)) = IsRefusal (first_refusal p (start q) no_progress 0 es) e × Keeps old new
IsReplayed names p q es old new (Err e) = ⊥

-- the text is no schedule
abbrev pub IsUnread : List ℕ → TextError → Type 0
IsUnread schedule (Schedule e) = IsErrorOf schedule e
IsUnread schedule _ = ⊥

-- the texts are accepted, the schedule is read, and its replay answers so
pub record IsAcceptedReplay (program query schedule : List ℕ) (old new : Option (List ℕ)) (result : Result (Status × Counts) TextError) : Type 0 where
  pub names : Names
  pub rules : Rules
  pub q : Goals
  pub es : List Event
  pub accepted : IsAccepted program query names rules q
  pub read : read_schedule schedule ≡ Ok es
  pub replayed : IsReplayed names rules q es old new result

-- the texts are accepted, but the third is no schedule
pub record IsScheduleError (program query schedule : List ℕ) (e : ScheduleError) : Type 0 where
  pub names : Names
  pub rules : Rules
  pub q : Goals
  pub accepted : IsAccepted program query names rules q
  pub unread : IsErrorOf schedule e

-- What an answer says of the three texts and of the bytes that the writer tells. The program is looked at first, then the query, then the
-- schedule.
abbrev pub IsTextReplay : List ℕ → List ℕ → List ℕ → Option (List ℕ) → Option (List ℕ) → Result (Status × Counts) TextError → Type 0
IsTextReplay program query schedule old new (Ok made) = IsAcceptedReplay program query schedule old new (Ok made)
IsTextReplay program query schedule old new (Err Write) = IsAcceptedReplay program query schedule old new (Err Write)
IsTextReplay program query schedule old new (Err (Replay e)) = IsAcceptedReplay program query schedule old new (Err (Replay e))
IsTextReplay program query schedule old new (Err (Schedule e)) = IsScheduleError program query schedule e × Keeps old new
IsTextReplay program query schedule old new (Err e) = IsTextError program query e × Keeps old new
