-- What is read of a text, line by line.
use Rattle.std.proofs.Common.{◌≡◌, ℕ, ◌+◌, Bool, true, false, cond, nat_lt, List, ◌∷◌, ◌++◌, length, ap, sym, refl, ◌∙◌, append_assoc, length-append}
use Rattle.std.specs.Prelude.{Result, Ok, Err}
use Rattle.std.specs.Str.{byte}
use Rattle.std.proofs.lemmas.List.{length-replicate}
use Rattle.chr_semantics.specs.Schedule.{Event, move}
use Rattle.chr_semantics.specs.ScheduleText.{Line, publishes, arrives, moves, ScheduleError, ScheduleErrorKind, too_many_events, before_events, events_of, size_of, line_of, read_parts, read_schedule, with_line}
use Rattle.chr_semantics.specs.declared.limits.TheConstants.{MAX_SCHEDULE_EVENTS}
use Rattle.chr_schedule.specs.LineView.{appended}
use Rattle.chr_schedule.specs.Parts.{parts}
use Rattle.chr_schedule.proofs.Cuts.{some_parts}

-- these events before what is read
abbrev pub with_front : List Event → Result (List Event) ScheduleError → Result (List Event) ScheduleError
with_front front (Ok es) = Ok (front ++ es)
with_front front (Err e) = Err e

-- what is read of a text is these events before what is read of the rest, which begins with the k-th line
pub record IsReadTo (text : List ℕ) (front : List Event) (k : ℕ) (rest : List ℕ) : Type 0 where
  pub whole : read_schedule text ≡ with_front front (read_parts (length front) k (parts (byte "\n") rest))

-- a line with its line feed, and the parts after it
line_first : (n k : ℕ) (line others : List ℕ) → read_parts n k (line ∷ parts (byte "\n") others) ≡ with_line n k (line_of (parts (byte " ") line)) (λ m. read_parts m (k + 1) (parts (byte "\n") others))
line_first n k line others = let some = some_parts (byte "\n") others in rw some.2 refl

-- the size of a line is the number of its events
length-events_of : (l : Line) → length (events_of l) ≡ size_of l
length-events_of publishes = refl
length-events_of (arrives r x) = refl
length-events_of (moves n) = length-replicate n move

-- events before those of a line
both_before : (front : List Event) (r : Result (List Event) ScheduleError) (l : Line) → with_front front (before_events l r) ≡ with_front (front ++ events_of l) r
both_before front (Ok es) l = ap Ok (sym (append_assoc front (events_of l) es))
both_before front (Err w) l = refl

-- a line whose events are appended is read
grown : (front new : List Event) (k : ℕ) (read : Result Line ScheduleErrorKind) (after : ℕ → Result (List Event) ScheduleError) → appended front read ≡ Ok new → with_front front (with_line (length front) k read after) ≡ with_front new (after (length new))
grown front new k (Err w) after h = cc
grown front new k (Ok l) after h = fits (nat_lt MAX_SCHEDULE_EVENTS (length front + size_of l)) h
  where
    fits : (long : Bool) → cond long (Err too_many_events) (Ok (front ++ events_of l)) ≡ Ok new → with_front front (cond long (Err (record { kind = too_many_events; line = k })) (before_events l (after (length front + size_of l)))) ≡ with_front new (after (length new))
    fits true e = cc
    fits false e =
        let is : front ++ events_of l ≡ new = cc in
        let len : length front + size_of l ≡ length (front ++ events_of l) = sym (length-append front (events_of l) ∙ ap (λ n. length front + n) (length-events_of l)) in
        both_before front (after (length front + size_of l)) l ∙ rw (← is, len) refl

-- the next line is read
pub line_read : (text : List ℕ) (front new : List Event) (k : ℕ) (rest line others : List ℕ) → IsReadTo text front k rest → parts (byte "\n") rest ≡ line ∷ parts (byte "\n") others → appended front (line_of (parts (byte " ") line)) ≡ Ok new → IsReadTo text new (k + 1) others
line_read text front new k rest line others h cut grows = record {
  whole = h.whole ∙ ap (λ ps. with_front front (read_parts (length front) k ps)) cut ∙ ap (with_front front) (line_first (length front) k line others)
      ∙ grown front new k (line_of (parts (byte " ") line)) (λ m. read_parts m (k + 1) (parts (byte "\n") others)) grows;
}

-- a line whose events are not appended is at fault
at_fault : (front : List Event) (k : ℕ) (read : Result Line ScheduleErrorKind) (after : ℕ → Result (List Event) ScheduleError) (wrong : ScheduleErrorKind) → appended front read ≡ Err wrong → with_front front (with_line (length front) k read after) ≡ Err (record { kind = wrong; line = k })
at_fault front k (Err w) after wrong h = let is : w ≡ wrong = cc in rw is refl
at_fault front k (Ok l) after wrong h = many (nat_lt MAX_SCHEDULE_EVENTS (length front + size_of l)) h
  where
    many : (long : Bool) → cond long (Err too_many_events) (Ok (front ++ events_of l)) ≡ Err wrong → with_front front (cond long (Err (record { kind = too_many_events; line = k })) (before_events l (after (length front + size_of l)))) ≡ Err (record { kind = wrong; line = k })
    many true e = let is : too_many_events ≡ wrong = cc in rw is refl
    many false e = cc

-- the next line is at fault
pub line_at_fault : (text : List ℕ) (front : List Event) (k : ℕ) (rest line others : List ℕ) (wrong : ScheduleErrorKind) → IsReadTo text front k rest → parts (byte "\n") rest ≡ line ∷ parts (byte "\n") others → appended front (line_of (parts (byte " ") line)) ≡ Err wrong → read_schedule text ≡ Err (record { kind = wrong; line = k })
line_at_fault text front k rest line others wrong h cut is =
    h.whole ∙ ap (λ ps. with_front front (read_parts (length front) k ps)) cut ∙ ap (with_front front) (line_first (length front) k line others)
    ∙ at_fault front k (line_of (parts (byte " ") line)) (λ m. read_parts m (k + 1) (parts (byte "\n") others)) wrong is
