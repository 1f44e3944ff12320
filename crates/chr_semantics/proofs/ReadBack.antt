-- What is printed of a schedule reads back.
use Rattle.std.proofs.Common.{◌≡◌, ℕ, zero, suc, ◌+◌, ◌*◌, ◌<◌, ◌≤◌, true, false, cond, not, ◌&&◌, ◌==◌, List, [], ◌∷◌, ◌++◌, map, length, ap, refl, ◌∙◌, arith, nat_lt, nat_le}
use Rattle.std.specs.Prelude.{All, Result, Ok, Err, codes, flat_map, slice_index}
use Rattle.std.proofs.Common.{append_assoc}
use Rattle.std.specs.List.{list_all, slice_split}
use Rattle.std.specs.Str.{byte, bytes_eq}
use Rattle.std.specs.Str.Parse.{AllDigits}
use Rattle.std.specs.Fmt.{decimal}
use Rattle.std.specs.Char.{digit_value, is_ascii_digit}
use Rattle.std.proofs.lemmas.Bool.{and_parts, and_from, le-ltb, leb-true, lt-ltb, not-true}
use Rattle.std.proofs.lemmas.Fmt.{decimal_is_IsNumeral, first_decimal, decimal_digit}
use Rattle.std.proofs.lemmas.Str.Parse.{digit_from_value}
use Rattle.std.proofs.lemmas.Str.{digit_value_digit}
use Rattle.std.proofs.lemmas.List.Splits.{slice_split_at, slice_split_none}
use Rattle.std.proofs.lemmas.List.Elements.{All-nil, All-cons, All-append}
use Rattle.chr_semantics.specs.Schedule.{Event, publish, arrive, move}
use Rattle.chr_semantics.specs.ScheduleText.{Line, ReadBackLaw, ScheduleError, ScheduleErrorKind, are_digits, bad_number, with_line, arrives, events_of, is_number, is_printable, line_of, line_text, lines_of, moves, publishes, read_parts, size_of, with_move}
use Rattle.chr_semantics.specs.Text.{lines_text}
use Rattle.chr_semantics.specs.Tokens.{digits_value}
use Rattle.chr_semantics.specs.declared.limits.TheConstants.{MAX_SCHEDULE_EVENTS, MAX_SCHEDULE_NUMBER}

-- digits

are_all_digits : (ds : List ℕ) → AllDigits 10 ds → list_all is_ascii_digit ds ≡ true
are_all_digits [] d = refl
are_all_digits (c ∷ cs) d = let k = digit_from_value c d.0 in and_from (is_ascii_digit c) (list_all is_ascii_digit cs) (grind (arith, k)) (are_all_digits cs d.1)

same_value : (n : ℕ) (ds : List ℕ) → AllDigits 10 ds → digits_value n ds ≡ Rattle.std.specs.Str.Parse.digits_value_after 10 n ds
same_value n [] d = refl
same_value n (c ∷ cs) d =
    let k = digit_value_digit c (digit_from_value c d.0) in
    ap (λ m. digits_value m cs) (omega (arith, k)) ∙ same_value (n * 10 + digit_value c) cs d.1

other_bytes : (b : ℕ) (ds : List ℕ) → b < 48 → AllDigits 10 ds → All (λ c. (c == b) ≡ false) ds
other_bytes b [] l d = All-nil (λ c. (c == b) ≡ false)
other_bytes b (c ∷ cs) l d = let k = digit_from_value c d.0 in All-cons (λ c. (c == b) ≡ false) c cs (grind (arith, k, l)) (other_bytes b cs l d.1)

-- a number as it is written

module _ (n : ℕ) (h : n ≤ MAX_SCHEDULE_NUMBER) where
  numeral_is : AllDigits 10 (decimal n)
  numeral_is = (decimal_is_IsNumeral n (omega (arith, h))).0.1

  pub value_is : digits_value 0 (decimal n) ≡ n
  value_is = let k = decimal_is_IsNumeral n (omega (arith, h)) in same_value 0 (decimal n) k.0.1 ∙ k.1

  pub digits_are : are_digits (decimal n) ≡ true
  digits_are = let k = decimal_is_IsNumeral n (omega (arith, h)) in and_from (nat_lt 0 (length (decimal n))) (list_all is_ascii_digit (decimal n)) (let l = k.0.0 in grind (arith, l)) (are_all_digits (decimal n) k.0.1)

  leads_at : (m : ℕ) → m ≡ n → (slice_index (decimal m) 0 == byte "0" && nat_lt 1 (length (decimal m))) ≡ false
  leads_at zero e = ap (λ (w : List ℕ). slice_index w 0 == byte "0" && nat_lt 1 (length w)) (decimal_digit 0 (omega arith))
  leads_at (suc m) e = let k = first_decimal (suc m) (omega arith) (omega (arith, h, e)) in rw (other k)
    where
      other : 48 < slice_index (decimal (suc m)) 0 → (slice_index (decimal (suc m)) 0 == 48) ≡ false
      other l = grind (arith, l)

  pub number_is : is_number (decimal n) ≡ true
  number_is = and_from (not (slice_index (decimal n) 0 == byte "0" && nat_lt 1 (length (decimal n)))) (nat_le (digits_value 0 (decimal n)) MAX_SCHEDULE_NUMBER) (ap not (leads_at n refl)) (let v = value_is in grind (arith, v, h))

  pub no_space : All (λ b. (b == byte " ") ≡ false) (decimal n)
  no_space = other_bytes 32 (decimal n) (omega arith) numeral_is

  pub no_feed : All (λ b. (b == byte "\n") ≡ false) (decimal n)
  no_feed = other_bytes 10 (decimal n) (omega arith) numeral_is

-- a line

abbrev IsRight : Line → Type 0
IsRight publishes = Unit {0}
IsRight (arrives r x) = (r ≤ MAX_SCHEDULE_NUMBER) × (x ≤ MAX_SCHEDULE_NUMBER)
IsRight (moves n) = (0 < n) × (n ≤ MAX_SCHEDULE_NUMBER)

abbrev words_of : List ℕ → List (List ℕ)
words_of = slice_split (λ b. b == byte " ")

arrive_words : (r x : ℕ) → r ≤ MAX_SCHEDULE_NUMBER → x ≤ MAX_SCHEDULE_NUMBER → words_of (line_text (arrives r x)) ≡ codes "arrive" ∷ decimal r ∷ decimal x ∷ []
arrive_words r x h k =
    ap (λ (ws : List (List ℕ)). codes "arrive" ∷ ws)
    (slice_split_at (λ b. b == byte " ") (decimal r) (byte " ") (decimal x) (no_space r h) refl ∙ ap (λ (ws : List (List ℕ)). decimal r ∷ ws) (slice_split_none (λ b. b == byte " ") (decimal x) (no_space x k)))

step_words : (n : ℕ) → n ≤ MAX_SCHEDULE_NUMBER → words_of (line_text (moves n)) ≡ codes "step" ∷ decimal n ∷ []
step_words n h = ap (λ (ws : List (List ℕ)). codes "step" ∷ ws) (slice_split_none (λ b. b == byte " ") (decimal n) (no_space n h))

-- the line that is printed is the line that is read
line_back : (l : Line) → IsRight l → line_of (words_of (line_text l)) ≡ Ok l
line_back publishes h = refl
line_back (arrives r x) h = ap line_of (arrive_words r x h.0 h.1) ∙ rw (digits_are r h.0, digits_are x h.1, number_is r h.0, number_is x h.1, value_is r h.0, value_is x h.1) refl
line_back (moves n) h = ap line_of (step_words n h.1) ∙ rw (digits_are n h.1, number_is n h.1, value_is n h.1) (some n h.0)
  where
    some : (m : ℕ) → 0 < m → cond (true && nat_lt 0 m) (Ok (moves m)) (Err bad_number) ≡ Ok (moves m)
    some m l = rw (lt-ltb 0 m l) refl

-- no line feed stands in it
after_word : (w : List ℕ) → list_all (λ b. not (b == byte "\n")) w ≡ true → All (λ b. (b == byte "\n") ≡ false) w
after_word [] h = All-nil (λ b. (b == byte "\n") ≡ false)
after_word (b ∷ bs) h = let r = and_parts (not (b == byte "\n")) (list_all (λ c. not (c == byte "\n")) bs) h in All-cons (λ c. (c == byte "\n") ≡ false) b bs (not-true (b == byte "\n") r.0) (after_word bs r.1)

no_feed_in : (l : Line) → IsRight l → All (λ b. (b == byte "\n") ≡ false) (line_text l)
no_feed_in publishes h = after_word (codes "publish") refl
no_feed_in (arrives r x) h =
    let no : ℕ → Type 0 = λ b. (b == byte "\n") ≡ false in
    All-append no (codes "arrive ") (decimal r ++ byte " " ∷ decimal x) (after_word (codes "arrive ") refl)
    (All-append no (decimal r) (byte " " ∷ decimal x) (no_feed r h.0) (All-cons no (byte " ") (decimal x) refl (no_feed x h.1)))
no_feed_in (moves n) h = All-append (λ b. (b == byte "\n") ≡ false) (codes "step ") (decimal n) (after_word (codes "step ") refl) (no_feed n h.1)

-- lines

abbrev AreRight : List Line → Type 0
AreRight [] = Unit {0}
AreRight (l ∷ ls) = IsRight l × AreRight ls

total : List Line → ℕ
total [] = 0
total (l ∷ ls) = size_of l + total ls

abbrev parts_of : List Line → List (List ℕ)
parts_of ls = map line_text ls ++ [] ∷ []

text_parts : (ls : List Line) → AreRight ls → slice_split (λ b. b == byte "\n") (lines_text (map line_text ls)) ≡ parts_of ls
text_parts [] h = refl
text_parts (l ∷ ls) h =
    ap (slice_split (λ b. b == byte "\n")) (append_assoc (line_text l) (byte "\n" ∷ []) (lines_text (map line_text ls)))
    ∙ slice_split_at (λ b. b == byte "\n") (line_text l) (byte "\n") (lines_text (map line_text ls)) (no_feed_in l h.0) refl
    ∙ ap (λ (ws : List (List ℕ)). line_text l ∷ ws) (text_parts ls h.1)

line_at : (n k : ℕ) (l : Line) (es : List Event) (after : ℕ → Result (List Event) ScheduleError) → n + size_of l ≤ MAX_SCHEDULE_EVENTS → after (n + size_of l) ≡ Ok es → with_line n k (Ok l) after ≡ Ok (events_of l ++ es)
line_at n k l es after h e = rw (le-ltb MAX_SCHEDULE_EVENTS (n + size_of l) h, e) refl

parts_back : (n k : ℕ) (ls : List Line) → AreRight ls → n + total ls ≤ MAX_SCHEDULE_EVENTS → read_parts n k (parts_of ls) ≡ Ok (flat_map events_of ls)
unfolding total
parts_back n k [] h few = refl
parts_back n k (l ∷ []) h few =
    ap (λ (r : Result Line ScheduleErrorKind). with_line n k r (λ m. read_parts m (k + 1) (parts_of []))) (line_back l h.0)
    ∙ line_at n k l [] (λ m. read_parts m (k + 1) (parts_of [])) (omega (arith, few)) (parts_back (n + size_of l) (k + 1) [] h.1 (omega (arith, few)))
parts_back n k (l ∷ m ∷ ls) h few =
    ap (λ (r : Result Line ScheduleErrorKind). with_line n k r (λ i. read_parts i (k + 1) (parts_of (m ∷ ls)))) (line_back l h.0)
    ∙ line_at n k l (flat_map events_of (m ∷ ls)) (λ i. read_parts i (k + 1) (parts_of (m ∷ ls))) (omega (arith, few)) (parts_back (n + size_of l) (k + 1) (m ∷ ls) h.1 (omega (arith, few)))

-- what the lines of some events are

move_events : (ls : List Line) → flat_map events_of (with_move ls) ≡ move ∷ flat_map events_of ls
move_events [] = refl
move_events (publishes ∷ ls) = refl
move_events (arrives r x ∷ ls) = refl
move_events (moves n ∷ ls) = refl

lines_events : (es : List Event) → flat_map events_of (lines_of es) ≡ es
lines_events [] = refl
lines_events (publish ∷ es) = ap (λ (fs : List Event). publish ∷ fs) (lines_events es)
lines_events (arrive r x ∷ es) = ap (λ (fs : List Event). arrive r x ∷ fs) (lines_events es)
lines_events (move ∷ es) = move_events (lines_of es) ∙ ap (λ (fs : List Event). move ∷ fs) (lines_events es)

move_total : (ls : List Line) → total (with_move ls) ≡ suc (total ls)
unfolding total
move_total [] = refl
move_total (publishes ∷ ls) = omega arith
move_total (arrives r x ∷ ls) = omega arith
move_total (moves n ∷ ls) = omega arith

lines_total : (es : List Event) → total (lines_of es) ≡ length es
unfolding total
lines_total [] = refl
lines_total (publish ∷ es) = omega (arith, lines_total es)
lines_total (arrive r x ∷ es) = omega (arith, lines_total es)
lines_total (move ∷ es) = omega (arith, move_total (lines_of es), lines_total es)

move_right : (ls : List Line) → AreRight ls → suc (total ls) ≤ MAX_SCHEDULE_NUMBER → AreRight (with_move ls)
unfolding total
move_right [] h few = ((omega arith, omega arith), tt)
move_right (publishes ∷ ls) h few = ((omega arith, omega arith), h)
move_right (arrives r x ∷ ls) h few = ((omega arith, omega arith), h)
move_right (moves n ∷ ls) h few = ((omega arith, omega (arith, few)), h.1)

lines_right : (es : List Event) → list_all is_printable es ≡ true → length es ≤ MAX_SCHEDULE_EVENTS → AreRight (lines_of es)
lines_right [] h few = tt
lines_right (publish ∷ es) h few = (tt, lines_right es h (omega (arith, few)))
lines_right (arrive r x ∷ es) h few =
    let w = and_parts (is_printable (arrive r x)) (list_all is_printable es) h in
    let v = and_parts (nat_le r MAX_SCHEDULE_NUMBER) (nat_le x MAX_SCHEDULE_NUMBER) w.0 in
    ((leb-true r MAX_SCHEDULE_NUMBER v.0, leb-true x MAX_SCHEDULE_NUMBER v.1), lines_right es w.1 (omega (arith, few)))
lines_right (move ∷ es) h few = move_right (lines_of es) (lines_right es h (omega (arith, few))) (omega (arith, lines_total es, few))

pub read_back_law : ReadBackLaw
read_back_law es h few =
    ap (read_parts 0 1) (text_parts (lines_of es) (lines_right es h few))
    ∙ parts_back 0 1 (lines_of es) (lines_right es h few) (omega (arith, lines_total es, few))
    ∙ ap Ok (lines_events es)
