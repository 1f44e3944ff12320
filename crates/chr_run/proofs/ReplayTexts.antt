-- The answers of a replay over two texts.
use Rattle.std.proofs.Common.{◌≡◌, ◌++◌, ℕ, List, None, Option, Result, Ok, Err, ap, subst}
use Rattle.chr_semantics.specs.Accepted.{IsAccepted}
use Rattle.chr_semantics.specs.Names.{Names}
use Rattle.chr_semantics.specs.Outcome.{Outcome, outcome_after}
use Rattle.chr_semantics.specs.Program.{Program as Rules, Query as Goals}
use Rattle.chr_semantics.specs.Schedule.{Event, first_refusal, no_progress}
use Rattle.chr_semantics.specs.ScheduleText.{read_schedule}
use Rattle.chr_semantics.specs.State.{start}
use Rattle.chr_semantics.specs.Text.{lines_text, outcome, text}
use Rattle.chr_trace.specs.declared.state.Status.{Status}
use Rattle.chr_core.specs.declared.error.ReplayError.TheVariants.{Memory, TooManyRounds, TooManySteps, UnknownRound, UnknownTask}
use Rattle.chr_core.specs.declared.run_core.Counts.{Counts}
use Rattle.chr_run.specs.Output.{AppendsLess}
use Rattle.chr_run.specs.Replays.{IsReplayed, IsTextReplay, IsUnread, IsUnsent, replayed_text}
use Rattle.chr_run.proofs.Parts.{keeps_same}
use Rattle.chr_run.specs.declared.error.TextError.{TextError}
use Rattle.chr_run.specs.declared.error.TextError.TheVariants as error

-- the text of an outcome
abbrev pub whole : Names → Rules → Outcome → List ℕ
whole names p w = lines_text (w.lines ++ outcome names w.var_names p w.state)

-- the text of a run's outcome is that of the run
pub text_is : (names : Names) (p : Rules) (q : Goals) (n : ℕ) (w : Outcome) → w ≡ outcome_after names p q n → whole names p w ≡ text names p q n
text_is names p q n w e = ap (whole names p) e

-- where a text did not go out whole
pub unsent : (names : Names) (p : Rules) (q : Goals) (es : List Event) (bytes : List ℕ) (old new : Option (List ℕ)) (e : TextError)
    → first_refusal p (start q) no_progress 0 es ≡ None → bytes ≡ replayed_text names p q es → IsUnsent bytes old new e → IsReplayed names p q es old new (Err e)
unsent names p q es bytes old new error.Write allowed same h = (allowed, subst (AppendsLess old new) same h)
unsent names p q es bytes old new (error.Replay Memory) allowed same h = (tt, h)
unsent names p q es bytes old new (error.Replay (UnknownRound k)) allowed same h = absurd h
unsent names p q es bytes old new (error.Replay (UnknownTask k)) allowed same h = absurd h
unsent names p q es bytes old new (error.Replay (TooManyRounds k)) allowed same h = absurd h
unsent names p q es bytes old new (error.Replay (TooManySteps k)) allowed same h = absurd h
unsent names p q es bytes old new (error.Run e) allowed same h = absurd h
unsent names p q es bytes old new (error.Program e) allowed same h = absurd h
unsent names p q es bytes old new (error.Rules e) allowed same h = absurd h
unsent names p q es bytes old new (error.Query e) allowed same h = absurd h
unsent names p q es bytes old new (error.Goals e) allowed same h = absurd h
unsent names p q es bytes old new (error.Schedule e) allowed same h = absurd h

module _ (program query : List ℕ) (names : Names) (rules : Rules) (q : Goals) (accepted : IsAccepted program query names rules q) (schedule : List ℕ) where
  -- the texts are accepted, but the schedule is not read
  pub unread : (old : Option (List ℕ)) (e : TextError) → IsUnread schedule e → IsTextReplay program query schedule old old (Err e)
  unread old error.Write h = absurd h
  unread old (error.Run e) h = absurd h
  unread old (error.Program e) h = absurd h
  unread old (error.Rules e) h = absurd h
  unread old (error.Query e) h = absurd h
  unread old (error.Goals e) h = absurd h
  unread old (error.Replay e) h = absurd h
  unread old (error.Schedule e) h = (record { names = names; rules = rules; q = q; accepted = accepted; unread = h }, keeps_same old)

  -- the replay of what is accepted is that of the texts
  pub accepted_replay : (es : List Event) → read_schedule schedule ≡ Ok es → (old new : Option (List ℕ)) (result : Result (Status × Counts) TextError)
      → IsReplayed names rules q es old new result → IsTextReplay program query schedule old new result
  accepted_replay es read old new (Ok made) h = record { names = names; rules = rules; q = q; es = es; accepted = accepted; read = read; replayed = h }
  accepted_replay es read old new (Err error.Write) h = record { names = names; rules = rules; q = q; es = es; accepted = accepted; read = read; replayed = h }
  accepted_replay es read old new (Err (error.Replay e)) h = record { names = names; rules = rules; q = q; es = es; accepted = accepted; read = read; replayed = h }
  accepted_replay es read old new (Err (error.Run e)) h = absurd h
  accepted_replay es read old new (Err (error.Program e)) h = absurd h
  accepted_replay es read old new (Err (error.Rules e)) h = absurd h
  accepted_replay es read old new (Err (error.Query e)) h = absurd h
  accepted_replay es read old new (Err (error.Goals e)) h = absurd h
  accepted_replay es read old new (Err (error.Schedule e)) h = absurd h
