-- Schedules as text: what is printed, what is read, and what is wrong with a text (this project's own format).
use Rattle.std.specs.Prelude.{◌≡◌, ℕ, suc, ◌+◌, ◌≤◌, Bool, true, cond, not, ◌&&◌, ◌==◌, nat_lt, nat_le, List, [], ◌∷◌, ◌++◌, map, length, replicate, codes, Result, Ok, Err, slice_index}
use Rattle.std.specs.List.{list_all, slice_split}
use Rattle.std.specs.Str.{byte, bytes_eq}
use Rattle.std.specs.Fmt.{decimal}
use Rattle.std.specs.Char.{is_ascii_digit}
use Rattle.chr_semantics.specs.Tokens.{digits_value}
use Rattle.chr_semantics.specs.Text.{lines_text}
use Rattle.chr_semantics.specs.Schedule.{Event, publish, arrive, move}
use Rattle.chr_semantics.specs.declared.limits.TheConstants.{MAX_SCHEDULE_EVENTS, MAX_SCHEDULE_NUMBER}

-- a line: a Publish, the arrival of an answer (round, index), or a number of Steps
pub data Line : Type 0 where
  publishes : Line
  arrives : ℕ → ℕ → Line
  moves : ℕ → Line

abbrev pub events_of : Line → List Event
events_of publishes = publish ∷ []
events_of (arrives r x) = arrive r x ∷ []
events_of (moves n) = replicate n move

-- how many these are
abbrev pub size_of : Line → ℕ
size_of publishes = 1
size_of (arrives r x) = 1
size_of (moves n) = n

-- a Step before these lines joins the Steps of the first
abbrev pub with_move : List Line → List Line
with_move [] = moves 1 ∷ []
with_move (publishes ∷ ls) = moves 1 ∷ publishes ∷ ls
with_move (arrives r x ∷ ls) = moves 1 ∷ arrives r x ∷ ls
with_move (moves n ∷ ls) = moves (suc n) ∷ ls

-- each longest run of Steps is one line
abbrev pub lines_of : List Event → List Line
lines_of [] = []
lines_of (publish ∷ es) = publishes ∷ lines_of es
lines_of (arrive r x ∷ es) = arrives r x ∷ lines_of es
lines_of (move ∷ es) = with_move (lines_of es)

abbrev pub line_text : Line → List ℕ
line_text publishes = codes "publish"
line_text (arrives r x) = codes "arrive" ++ byte " " ∷ (decimal r ++ byte " " ∷ decimal x)
line_text (moves n) = codes "step" ++ byte " " ∷ decimal n

-- what is printed
abbrev pub schedule_text : List Event → List ℕ
schedule_text es = lines_text (map line_text (lines_of es))

-- what is wrong with a line, besides `Memory`: there is no such line, or its line feed is missing; a number has a leading zero, is too
-- large, or is no number of Steps; the events up to it are too many
pub data ScheduleErrorKind : Type 0 where
  bad_line : ScheduleErrorKind
  bad_number : ScheduleErrorKind
  too_many_events : ScheduleErrorKind

pub record ScheduleError : Type 0 where
  pub kind : ScheduleErrorKind
  pub line : ℕ

abbrev pub are_digits : List ℕ → Bool
are_digits w = nat_lt 0 (length w) && list_all is_ascii_digit w

-- digits are a number where no zero leads, and it is not too large
abbrev pub is_number : List ℕ → Bool
is_number w = not (slice_index w 0 == byte "0" && nat_lt 1 (length w)) && nat_le (digits_value 0 w) MAX_SCHEDULE_NUMBER

abbrev pub checked_line : Bool → Line → Result Line ScheduleErrorKind
checked_line right l = cond right (Ok l) (Err bad_number)

-- a line by its words, between which one space stands
abbrev pub line_of : List (List ℕ) → Result Line ScheduleErrorKind
line_of [] = Err bad_line
line_of (w ∷ []) = cond (bytes_eq w (codes "publish")) (Ok publishes) (Err bad_line)
line_of (w ∷ n ∷ []) = cond (bytes_eq w (codes "step") && are_digits n) (checked_line (is_number n && nat_lt 0 (digits_value 0 n)) (moves (digits_value 0 n))) (Err bad_line)
line_of (w ∷ r ∷ x ∷ []) = cond (bytes_eq w (codes "arrive") && (are_digits r && are_digits x)) (checked_line (is_number r && is_number x) (arrives (digits_value 0 r) (digits_value 0 x))) (Err bad_line)
line_of (w ∷ r ∷ x ∷ y ∷ ws) = Err bad_line

abbrev pub before_events : Line → Result (List Event) ScheduleError → Result (List Event) ScheduleError
before_events l (Ok es) = Ok (events_of l ++ es)
before_events l (Err e) = Err e

-- a line and what is read of those after it, with the number of events before it, and it is the k-th line
abbrev pub with_line : ℕ → ℕ → Result Line ScheduleErrorKind → (ℕ → Result (List Event) ScheduleError) → Result (List Event) ScheduleError
with_line n k (Err e) after = Err (record { kind = e; line = k })
with_line n k (Ok l) after = cond (nat_lt MAX_SCHEDULE_EVENTS (n + size_of l)) (Err (record { kind = too_many_events; line = k })) (before_events l (after (n + size_of l)))

-- nothing stands after the last line feed
abbrev pub read_last : ℕ → List ℕ → Result (List Event) ScheduleError
read_last k [] = Ok []
read_last k (b ∷ bs) = Err (record { kind = bad_line; line = k })

-- the parts of a text between its line feeds
abbrev pub read_parts : ℕ → ℕ → List (List ℕ) → Result (List Event) ScheduleError
read_parts n k [] = Ok []
read_parts n k (w ∷ []) = read_last k w
read_parts n k (w ∷ next ∷ more) = with_line n k (line_of (slice_split (λ b. b == byte " ") w)) (λ m. read_parts m (k + 1) (next ∷ more))

-- what is read: the first line at fault decides, and lines count from 1
abbrev pub read_schedule : List ℕ → Result (List Event) ScheduleError
read_schedule text = read_parts 0 1 (slice_split (λ b. b == byte "\n") text)

-- an event whose numbers can be written
abbrev pub is_printable : Event → Bool
is_printable publish = true
is_printable (arrive r x) = nat_le r MAX_SCHEDULE_NUMBER && nat_le x MAX_SCHEDULE_NUMBER
is_printable move = true

-- what is printed reads back
abbrev pub ReadBackLaw : Type 0
ReadBackLaw = (es : List Event) → list_all is_printable es ≡ true → length es ≤ MAX_SCHEDULE_EVENTS → read_schedule (schedule_text es) ≡ Ok es
