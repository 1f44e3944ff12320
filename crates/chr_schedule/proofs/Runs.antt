-- The lines of events, with those of Steps that are not written yet.
use Rattle.std.proofs.Common.{◌≡◌, ℕ, zero, suc, ◌+◌, ◌<◌, ◌≤◌, List, [], ◌∷◌, ◌++◌, map, replicate, length, drop, get_or, ap, sym, refl, ◌∙◌, append_assoc, append-nil}
use Rattle.std.proofs.Math.ListN.{drop_of_length-le}
use Rattle.std.proofs.lemmas.List.{map-append, drop_more, replicate_more}
use Rattle.std.proofs.lemmas.List.Concat.{flat_map-append}
use Rattle.std.specs.Str.{byte}
use Rattle.chr_semantics.specs.Schedule as semantics
use Rattle.chr_semantics.specs.Schedule.{move}
use Rattle.chr_semantics.specs.ScheduleText.{Line, moves, line_text, lines_of, schedule_text, with_move}
use Rattle.chr_semantics.specs.Text.{lines_text}
use Rattle.chr_schedule.specs.declared.event.Event.{Event}
use Rattle.chr_schedule.specs.EventView.{event_view, events_view}
use Rattle.chr_schedule.specs.LineView.{run_of}

-- a Step before a run of them, where no Step follows
onto_run : (n : ℕ) (ls : List Line) → with_move ls ≡ moves 1 ∷ ls → with_move (run_of n ++ ls) ≡ moves (suc n) ∷ ls
onto_run zero ls h = h
onto_run (suc n) ls h = refl

-- a run of Steps, where no Step follows, is a line of its own
lines_of-run : (n : ℕ) (es : List semantics.Event) → with_move (lines_of es) ≡ moves 1 ∷ lines_of es → lines_of (replicate n move ++ es) ≡ run_of n ++ lines_of es
lines_of-run zero es h = refl
lines_of-run (suc n) es h = ap with_move (lines_of-run n es h) ∙ onto_run n (lines_of es) h

-- the text of lines and of further lines
lines_text-append : (xs ys : List Line) → lines_text (map line_text (xs ++ ys)) ≡ lines_text (map line_text xs) ++ lines_text (map line_text ys)
lines_text-append xs ys = ap lines_text (map-append line_text xs ys) ∙ flat_map-append (λ l. l ++ byte "\n" ∷ []) (map line_text xs) (map line_text ys)

-- the text of Steps, of an event that is none and has its own line, and of further events
run_text : (n : ℕ) (e : semantics.Event) (l : Line) (es : List semantics.Event) → lines_of (e ∷ es) ≡ l ∷ lines_of es → with_move (l ∷ lines_of es) ≡ moves 1 ∷ l ∷ lines_of es → schedule_text (replicate n move ++ e ∷ es) ≡ lines_text (map line_text (run_of n ++ l ∷ [])) ++ schedule_text es
run_text n e l es is own =
    let lines : lines_of (replicate n move ++ e ∷ es) ≡ (run_of n ++ l ∷ []) ++ lines_of es = lines_of-run n (e ∷ es) (rw is own) ∙ rw is (sym (append_assoc (run_of n) (l ∷ []) (lines_of es))) in
    ap (λ ls. lines_text (map line_text ls)) lines ∙ lines_text-append (run_of n ++ l ∷ []) (lines_of es)

-- the next event is the first of those that are left
next_event : (es : List Event) (i : ℕ) (d e : Event) → i < length es → get_or es i d ≡ e → events_view (drop i es) ≡ event_view e ∷ events_view (drop (i + 1) es)
next_event es i d e h is = ap events_view (drop_more es i d h) ∙ ap (λ x. event_view x ∷ events_view (drop (i + 1) es)) is

-- a Step more waits
pub step_passed : (es : List Event) (i n : ℕ) (d : Event) → i < length es → get_or es i d ≡ Event.Step → schedule_text (replicate n move ++ events_view (drop i es)) ≡ schedule_text (replicate (n + 1) move ++ events_view (drop (i + 1) es))
step_passed es i n d h is =
    let rest = events_view (drop (i + 1) es) in
    ap (λ fs. schedule_text (replicate n move ++ fs)) (next_event es i d Event.Step h is)
    ∙ ap schedule_text (sym (append_assoc (replicate n move) (move ∷ []) rest) ∙ ap (λ ms. ms ++ rest) (replicate_more n move))

-- an event that is no Step: the Steps that wait have their line, and then it has its own
pub event_passed : (es : List Event) (i n : ℕ) (d e : Event) (l : Line) → i < length es → get_or es i d ≡ e → ((fs : List semantics.Event) → lines_of (event_view e ∷ fs) ≡ l ∷ lines_of fs) → ((ls : List Line) → with_move (l ∷ ls) ≡ moves 1 ∷ l ∷ ls)
    → schedule_text (replicate n move ++ events_view (drop i es)) ≡ lines_text (map line_text (run_of n ++ l ∷ [])) ++ schedule_text (events_view (drop (i + 1) es))
event_passed es i n d e l h is line own =
    let rest = events_view (drop (i + 1) es) in
    ap (λ fs. schedule_text (replicate n move ++ fs)) (next_event es i d e h is) ∙ run_text n (event_view e) l rest (line rest) (own (lines_of rest))

-- no event is left: the Steps that wait have their line
pub all_passed : (es : List Event) (i n : ℕ) → length es ≤ i → schedule_text (replicate n move ++ events_view (drop i es)) ≡ lines_text (map line_text (run_of n))
all_passed es i n h =
    ap (λ fs. schedule_text (replicate n move ++ events_view fs)) (drop_of_length-le es h)
    ∙ ap (λ ls. lines_text (map line_text ls)) (lines_of-run n [] refl ∙ append-nil (run_of n))
