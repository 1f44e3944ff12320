-- What the program `chr` answers.
use Rattle.std.specs.Prelude.{◌≡◌, ◌⊎◌, ℕ, ◌==◌, if◌then◌else◌, Bool, true, List, [], ◌∷◌, codes, Option, Some, None, IfSome, Result, Ok, Err, option_map}
use Rattle.std.specs.Str.{byte}
use Rattle.std.specs.Io.KnownBytes.{Appends, Keeps}
use Rattle.std.specs.declared.alloc.Global.{Global}
use Rattle.chr_trace.specs.declared.state.Status.{Status}
use Rattle.chr_core.specs.CoreView.{counts_view}
use Rattle.chr_core.specs.declared.run_core.Counts.{Counts}
use Rattle.chr_words.specs.Words.{Asks, Values, run, help, version, refused, asks_of, number_of}
use Rattle.chr_run.specs.Output.{AppendsLess, AppendsPart}
use Rattle.chr_run.specs.Replays.{IsTextReplay}
use Rattle.chr_run.specs.Reports.{Follows, Options, budget_of, counts_text, is_silent, refusal_text, status_code, unread_text, workers_of}
use Rattle.chr_run.specs.Texts.{IsTextRun}
use Rattle.chr_run.specs.declared.error.RunError.TheVariants.{Memory}
use Rattle.chr_run.specs.declared.error.TextError.{TextError}
use Rattle.chr_run.specs.declared.error.TextError.TheVariants as error
use Rattle.chr_run.specs.declared.result.Run.{Run}

-- the text up to its first line feed, or all of it
abbrev pub first_line : List ℕ → List ℕ
first_line [] = []
first_line (c ∷ cs) = if c == byte "\n" then [] else c ∷ first_line cs

-- the text after its first line feed, or none
abbrev pub after_line : List ℕ → List ℕ
after_line [] = []
after_line (c ∷ cs) = if c == byte "\n" then cs else after_line cs

-- What the program does: the known bytes of its output and of its error output, before it and after it, and its exit status.
pub record Effect : Type 0 where
  pub output_before : Option (List ℕ)
  pub output_after : Option (List ℕ)
  pub error_before : Option (List ℕ)
  pub error_after : Option (List ℕ)
  pub code : ℕ

-- what it does, by these
abbrev pub effect : Option (List ℕ) → Option (List ℕ) → Option (List ℕ) → Option (List ℕ) → ℕ → Effect
effect output output' error error' code = record {
  output_before = output;
  output_after = output';
  error_before = error;
  error_after = error';
  code = code;
}

-- nothing goes out, and the line is said, as far as it can be
pub record Refuses (line : List ℕ) (e : Effect) : Type 0 where
  pub code_is : e.code ≡ 2
  pub keeps : Keeps e.output_before e.output_after
  pub says : AppendsPart e.error_before e.error_after line

-- what follows an answer
abbrev pub Ends : (List ℕ → List ℕ → Type 0) → Options → Result (Run Global) TextError → Effect → Type 0
Ends written a (Ok made) e = Follows written a made e.error_before e.error_after e.code
Ends written a (Err refusal) e = (e.code ≡ 2) × AppendsPart e.error_before e.error_after (refusal_text refusal)

module _ (written : List ℕ → List ℕ → Type 0) where
  -- the run of a program and a query, and what follows it
  pub record RunsTexts (program query : List ℕ) (a : Options) (e : Effect) : Type 0 where
    pub result : Result (Run Global) TextError
    pub is_run : IsTextRun program query (budget_of a) (workers_of a) e.output_before e.output_after result
    pub ends : Ends written a result e

  -- the run of the bytes, as far as these are known: their first line is a query, and what stands after it a program
  pub record RunsInput (known : Option (List ℕ)) (a : Options) (e : Effect) : Type 0 where
    pub bytes : List ℕ
    pub is_known : IfSome known (λ whole. bytes ≡ whole)
    pub runs : RunsTexts (after_line bytes) (first_line bytes) a e

  -- the run of the program in a file, as far as its bytes are known, and of this query
  pub record RunsFile (known : Option (List ℕ)) (query : List ℕ) (a : Options) (e : Effect) : Type 0 where
    pub bytes : List ℕ
    pub is_known : IfSome known (λ whole. bytes ≡ whole)
    pub runs : RunsTexts bytes query a e

-- the text goes out, or as much of it as the output takes, where that is not all
abbrev pub Shows : List ℕ → Effect → Type 0
Shows text e = ((e.code ≡ 0) × Appends e.output_before e.output_after text × Keeps e.error_before e.error_after)
    ⊎ ((e.code ≡ 2) × AppendsLess e.output_before e.output_after text × AppendsPart e.error_before e.error_after (refusal_text error.Write))

-- the run that is asked for, by its program, its query and what else is said of it, or why there is none
abbrev pub RunsWords : (List ℕ → List ℕ → Type 0) → Option (List ℕ) → Option (List ℕ) → Options → (List ℕ → Option (List ℕ)) → Option (List ℕ) → Effect → Type 0
RunsWords written None query a files input e = RunsInput written input a e ⊎ Refuses (codes "chr: cannot read\n") e
RunsWords written (Some path) None a files input e = Refuses (codes "chr: QUERY is missing\n") e
RunsWords written (Some path) (Some query) a files input e = RunsFile written (files path) query a e ⊎ Refuses (unread_text path) e

-- the exit status of a replay
abbrev pub replay_code : Result (Status × Counts) TextError → ℕ
replay_code (Ok made) = status_code made.0
replay_code (Err e) = 2

-- what is said on the error output of a replay
abbrev pub SaysReplay : Result (Status × Counts) TextError → Effect → Type 0
SaysReplay (Ok made) e = AppendsPart e.error_before e.error_after (counts_text (counts_view made.1))
SaysReplay (Err refusal) e = AppendsPart e.error_before e.error_after (refusal_text refusal)

-- the replay of a schedule of a program and a query, and what is said of it
pub record ReplaysTexts (program query schedule : List ℕ) (e : Effect) : Type 0 where
  pub result : Result (Status × Counts) TextError
  pub is_replay : IsTextReplay program query schedule e.output_before e.output_after result
  pub code_is : e.code ≡ replay_code result
  pub says : SaysReplay result e

-- the replay of the schedule in a file, as far as its bytes are known
pub record ReplaysFile (program query : List ℕ) (known : Option (List ℕ)) (e : Effect) : Type 0 where
  pub bytes : List ℕ
  pub is_known : IfSome known (λ whole. bytes ≡ whole)
  pub replays : ReplaysTexts program query bytes e

-- the replay of the schedule in a file, of the program in another one, as far as their bytes are known
pub record ReplaysBoth (program_known : Option (List ℕ)) (query : List ℕ) (schedule_known : Option (List ℕ)) (e : Effect) : Type 0 where
  pub bytes : List ℕ
  pub is_known : IfSome program_known (λ whole. bytes ≡ whole)
  pub replays : ReplaysFile bytes query schedule_known e

-- the replay of the schedule in a file; or the first of the two files that is not read
abbrev pub ReplaysFiles : (List ℕ → Option (List ℕ)) → List ℕ → List ℕ → List ℕ → Effect → Type 0
ReplaysFiles files program query schedule e =
    ReplaysBoth (files program) query (files schedule) e ⊎ Refuses (unread_text program) e ⊎ Refuses (unread_text schedule) e

-- the replay that is asked for, which wants a program and a query, and nothing said of a run
abbrev pub ReplaysWords : Option (List ℕ) → Option (List ℕ) → Bool → List ℕ → (List ℕ → Option (List ℕ)) → Effect → Type 0
ReplaysWords (Some program) (Some query) true schedule files e = ReplaysFiles files program query schedule e
ReplaysWords _ _ _ schedule files e = Refuses (codes "chr: --replay stands alone\n") e

-- a run, or the replay of a schedule where one is named
abbrev pub DoesWords : (List ℕ → List ℕ → Type 0) → Option (List ℕ) → Option (List ℕ) → Options → Option (List ℕ) → (List ℕ → Option (List ℕ)) → Option (List ℕ) → Effect → Type 0
DoesWords written program query a None files input e = RunsWords written program query a files input e
DoesWords written program query a (Some schedule) files input e = ReplaysWords program query (is_silent a) schedule files e

-- what the words ask of a run
abbrev pub options_in : Values → Options
options_in v = record { budget = option_map number_of v.budget; workers = option_map number_of v.workers; recorded = v.recorded; totals = v.totals }

-- the version, and the kit that proved it
abbrev pub version_text : List ℕ
version_text = codes "chr 0.1.0\nrattle-kit-13f logic dac8208d650f15bf\n"

-- what is done where this is asked for; the texts of help and of what is wrong with words are those of `clap`
abbrev pub DoesAsked : (List ℕ → List ℕ → Type 0) → Asks → (List ℕ → Option (List ℕ)) → Option (List ℕ) → Effect → Type 0
DoesAsked written (run words) files input e = DoesWords written words.program words.query (options_in words.values) words.values.replay files input e
DoesAsked written help files input e = (text : List ℕ) × Shows text e
DoesAsked written version files input e = Shows version_text e
DoesAsked written refused files input e = (text : List ℕ) × Refuses text e

-- what the program does for its words, or memory is refused to the reading of these
abbrev pub IsCommand : (List ℕ → List ℕ → Type 0) → List (List ℕ) → (List ℕ → Option (List ℕ)) → Option (List ℕ) → Effect → Type 0
IsCommand written words files input e = DoesAsked written (asks_of words) files input e ⊎ Refuses (refusal_text (error.Run Memory)) e
