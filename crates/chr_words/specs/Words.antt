-- What the words after the program's name ask for. A word that begins with a hyphen is an option, up to the word `--`.
use Rattle.std.specs.Prelude.{◌^◌, ◌&&◌, ◌==◌, ℕ, Bool, true, false, List, [], ◌∷◌, Option, Some, None, if◌then◌else◌, codes, nat_lt, not, is_some, length, find, slice_get}
use Rattle.std.specs.List.{list_all}
use Rattle.std.specs.Char.{digit_value}
use Rattle.std.specs.Str.{byte, bytes_eq, chars}
use Rattle.std.specs.Str.Parse.{digits_value, without_leading_plus}
use Rattle.clap.specs.Lexer.{long_of, short_of}

-- the options that take a value
pub data Taker : Type 0 where
  budget : Taker
  workers : Taker
  recorded : Taker
  replay : Taker

abbrev pub takers : List Taker
takers = budget ∷ workers ∷ recorded ∷ replay ∷ []

-- the options that take none
pub data Flag : Type 0 where
  totals_flag : Flag
  help_flag : Flag

abbrev pub flags : List Flag
flags = totals_flag ∷ help_flag ∷ []

-- the values of the options, as they were said, and whether `--totals` was
pub record Values : Type 0 where
  pub budget : Option (List ℕ)
  pub workers : Option (List ℕ)
  pub recorded : Option (List ℕ)
  pub replay : Option (List ℕ)
  pub totals : Bool

abbrev pub no_values : Values
no_values = record { budget = None; workers = None; recorded = None; replay = None; totals = false }

abbrev pub name_of : Taker → List ℕ
name_of budget = codes "budget"
name_of workers = codes "workers"
name_of recorded = codes "record"
name_of replay = codes "replay"

abbrev pub flag_name : Flag → List ℕ
flag_name totals_flag = codes "totals"
flag_name help_flag = codes "help"

abbrev pub value_of : Taker → Values → Option (List ℕ)
value_of budget values = values.budget
value_of workers values = values.workers
value_of recorded values = values.recorded
value_of replay values = values.replay

abbrev pub with_value : Taker → List ℕ → Values → Values
with_value budget word values = record values { budget = Some word }
with_value workers word values = record values { workers = Some word }
with_value recorded word values = record values { recorded = Some word }
with_value replay word values = record values { replay = Some word }

-- what was said: the program, the query, and the values of the options
pub record RunWords : Type 0 where
  pub program : Option (List ℕ)
  pub query : Option (List ℕ)
  pub values : Values

abbrev pub no_words : RunWords
no_words = record { program = None; query = None; values = no_values }

-- what all the words ask for
pub data Asks : Type 0 where
  run : RunWords → Asks
  help : Asks
  version : Asks
  refused : Asks

-- where the reading stands between two words: `awaits` where an option still wants its value, `plain` after the word `--`
pub record Reading : Type 0 where
  pub run_words : RunWords
  pub awaits : Option Taker
  pub plain : Bool

-- what a word comes to
pub data Step : Type 0 where
  goes : Reading → Step
  stops : Asks → Step

-- decimal digits, where one plus may stand first, of a number below this bound
abbrev pub is_below : ℕ → List ℕ → Bool
is_below bound text =
    let digits = without_leading_plus text in
    (nat_lt 0 (length digits) && list_all (λ d. nat_lt (digit_value d) 10) digits) && nat_lt (digits_value 10 digits) bound

-- its value
abbrev pub number_of : List ℕ → ℕ
number_of text = digits_value 10 (without_leading_plus text)

-- the option takes this word for its value
abbrev pub fits : Taker → List ℕ → Bool
fits budget word = is_below (2 ^ 64) word
fits workers word = is_below (2 ^ 32) word
fits recorded word = true
fits replay word = true

-- a word that is the program, the query, or one too many
abbrev pub operand_step : Reading → List ℕ → Option (List ℕ) → Option (List ℕ) → Step
operand_step r word None query = goes (record r { run_words = record r.run_words { program = Some word } })
operand_step r word (Some p) None = goes (record r { run_words = record r.run_words { query = Some word } })
operand_step r word (Some p) (Some q) = stops refused

-- the value of an option, which is said once
abbrev pub taken_step : Reading → Taker → List ℕ → Step
taken_step r o word = if is_some (value_of o r.run_words.values) then stops refused
    else (if fits o word then goes (record r { run_words = record r.run_words { values = with_value o word r.run_words.values }; awaits = None }) else stops refused)

-- a word that is no option
abbrev pub value_step : Reading → Option Taker → List ℕ → Step
value_step r (Some o) word = taken_step r o word
value_step r None word = operand_step r word r.run_words.program r.run_words.query

-- an option that takes a value, as `--name` or `--name=value`
abbrev pub taker_step : Reading → Taker → Option (List ℕ) → Step
taker_step r o None = if is_some (value_of o r.run_words.values) then stops refused else goes (record r { awaits = Some o })
taker_step r o (Some value) = taken_step r o value

abbrev pub with_totals : Values → Values
with_totals values = record values { totals = true }

-- an option that takes no value: `--help`, or `--totals`, which is said once
abbrev pub flag_step : Reading → Flag → Option (List ℕ) → Step
flag_step r f (Some value) = stops refused
flag_step r help_flag None = stops help
flag_step r totals_flag None = if r.run_words.values.totals then stops refused
    else goes (record r { run_words = record r.run_words { values = with_totals r.run_words.values } })

-- the option of this name that takes a value, and the one that takes none
abbrev pub named : List ℕ → Option Taker
named name = find (λ o. bytes_eq (name_of o) name) takers

abbrev pub flag_named : List ℕ → Option Flag
flag_named name = find (λ f. bytes_eq (flag_name f) name) flags

-- `--name`, by the option of this name
abbrev pub long_step : Reading → Option Taker → Option Flag → Option (List ℕ) → Step
long_step r (Some o) flag value = taker_step r o value
long_step r None (Some f) value = flag_step r f value
long_step r None None value = stops refused

-- `-c` and what follows, where `-h` is the only one
abbrev pub short_step : Reading → List ℕ → Option ℕ → Step
short_step r word None = value_step r r.awaits word
short_step r word (Some c) = if is_some r.awaits then stops refused else (if byte "h" == c then stops help else stops refused)

-- by its parts, where it is `--name`, or `-c`
abbrev pub option_step : Reading → List ℕ → Option (List ℕ × Option (List ℕ)) → Option (List ℕ) → Step
option_step r word (Some parts) letters = if is_some r.awaits then stops refused else long_step r (named parts.0) (flag_named parts.0) parts.1
option_step r word None (Some letters) = short_step r word (slice_get (chars letters) 0)
option_step r word None None = value_step r r.awaits word

abbrev pub parts_step : Reading → List ℕ → Bool → Option (List ℕ × Option (List ℕ)) → Option (List ℕ) → Step
parts_step r word is_dashes parts letters = if is_dashes then (if is_some r.awaits then stops refused else goes (record r { plain = true })) else option_step r word parts letters

-- what one word comes to
abbrev pub step : Reading → List ℕ → Step
step r word = if r.plain then operand_step r word r.run_words.program r.run_words.query
    else parts_step r word (bytes_eq word (codes "--")) (long_of word) (short_of word)

abbrev pub asks_after : Step → (Reading → Asks) → Asks
asks_after (goes r) next = next r
asks_after (stops a) next = a

-- what the words ask for, read from here on
unfoldable pub asks_from : Reading → List (List ℕ) → Asks
asks_from r [] = if is_some r.awaits then refused else run r.run_words
asks_from r (word ∷ words) = asks_after (step r word) (λ next. asks_from next words)

-- what the words ask for, read from the first one on
abbrev pub asks_read : List (List ℕ) → Asks
asks_read words = asks_from (record { run_words = no_words; awaits = None; plain = false }) words

-- the word `--version` stands alone
abbrev pub is_version : List (List ℕ) → Bool
is_version [] = false
is_version (word ∷ []) = bytes_eq word (codes "--version")
is_version (word ∷ next ∷ words) = false

-- what the words ask for
abbrev pub asks_of : List (List ℕ) → Asks
asks_of words = if is_version words then version else asks_read words

-- the word does not begin with a hyphen
abbrev pub is_plain : List ℕ → Bool
is_plain [] = true
is_plain (c ∷ cs) = not (c == byte "-")
