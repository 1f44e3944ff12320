-- What comes of a job.
use Rattle.std.specs.Prelude.{ℕ, List, Option, Result}
use Rattle.chr_rules.specs.ProgramView.{names_of, rules_of}
use Rattle.chr_rules.specs.RuleView.{query_view}
use Rattle.chr_run.specs.Run.{GoesOut, Sends}
use Rattle.chr_run.specs.declared.error.TextError.{TextError}
use Rattle.chr_run.specs.declared.job.Job.{Job}
use Rattle.chr_run.specs.declared.result.Run.{Run}

-- an answer tells the run of the job, and its text is out; else a first part of the text is out, and not all
abbrev pub Does : {A E : Type 0} → Job A → Option (List ℕ) → Option (List ℕ) → Result (Run A) E → Type 0
Does job old new r = GoesOut (names_of job.program.now) (rules_of job.program.now) (query_view job.query) job.limits.budget job.limits.workers old new r

-- the same where the error is Write or want of memory
abbrev pub Writes : {A : Type 0} → Job A → Option (List ℕ) → Option (List ℕ) → Result (Run A) TextError → Type 0
Writes job old new r = Sends (names_of job.program.now) (rules_of job.program.now) (query_view job.query) job.limits.budget job.limits.workers old new r
