-- The error of a line.
use Rattle.std.proofs.Common.{◌≡◌, ℕ, List, MatchOption, IfSome}
use Rattle.std.specs.Prelude.{Err}
use Rattle.chr_semantics.specs.ScheduleText.{read_schedule}
use Rattle.chr_schedule.specs.ErrorView.{IsErrorOf, kind_view}
use Rattle.chr_schedule.specs.declared.error.ScheduleErrorKind.{ScheduleErrorKind}
use Rattle.chr_schedule.specs.declared.error.ScheduleError.{ScheduleError}

-- an error of this kind in this line is the text's, where what the kind says is wrong with that line
pub error_is : (text : List ℕ) (e : ScheduleError) (kind : ScheduleErrorKind) (k : ℕ) → e.kind ≡ kind → MatchOption (kind_view kind) (e.line ≡ 0) (λ _. e.line ≡ k) → IfSome (kind_view kind) (λ wrong. read_schedule text ≡ Err (record { kind = wrong; line = k })) → IsErrorOf text e
error_is text e ScheduleErrorKind.BadLine k is at wrong = rw (is, at) wrong
error_is text e ScheduleErrorKind.BadNumber k is at wrong = rw (is, at) wrong
error_is text e ScheduleErrorKind.TooManyEvents k is at wrong = rw (is, at) wrong
error_is text e ScheduleErrorKind.Memory k is at wrong = rw is at
