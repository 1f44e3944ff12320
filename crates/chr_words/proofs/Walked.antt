-- The walk over the words ends as they ask.
use Rattle.std.proofs.Common.{◌≡◌, ◌∙◌, ◌&&◌, ◌==◌, ℕ, Bool, true, false, cond, refl, sym, ap, ap₂, arith, subst, List, [], ◌∷◌, Option, Some, None, codes, true≢false}
use Rattle.std.specs.Prelude.{is_some, slice_get}
use Rattle.std.specs.Str.{bytes_eq, chars}
use Rattle.clap.specs.Lexer.{long_of, short_of}
use Rattle.clap.specs.Kinds.{or_else}
use Rattle.clap.specs.Simple.{is_simple, matches_of}
use Rattle.clap.specs.Faults.{fault_of, is_simple_and_free, settle_fault, step_fault, turn_fault, use_fault, values_fault}
use Rattle.clap.specs.Walk.{Row, Text, Walk, after_step, has_row, idle, settled_rows, used, value, walked, with_default}
use Rattle.clap.specs.declared.error.kind.ErrorKind.TheVariants as kind
use Rattle.chr_words.specs.App.{chr_app}
use Rattle.chr_words.specs.Words.{Asks, Flag, Reading, RunWords, Taker, Values, asks_from, asks_read, asks_after, budget, fits, flag_named, goes, help, help_flag, long_step, name_of, named, no_values, operand_step, parts_step, recorded, refused, replay, run, short_step, stops, taken_step, totals_flag, value_of, version, with_totals, with_value, workers}
use Rattle.chr_words.proofs.Rows.{HasFirst, Holds, built_of, default_other, default_totals, no_option_is_totals, program_built, program_used, query_built, query_used, said_totals, totals_built, totals_used, value_used}
use Rattle.chr_words.proofs.Numbers.{accepts_is}
use Rattle.chr_words.proofs.Turns.{Agrees, Shows, are_wrong, ends, ends_wrong, fails_at, finished_is, goes_on, rules, top}
use Rattle.chr_words.proofs.Steps.{at, held_at, placed_at, placed_fault, program_placed, query_placed, turn_is, walk_is}
use Rattle.chr_words.proofs.Cases.{alone_fault, alone_walk, by_names, letter_help, letter_unknown, letter_wrong, long_fault_by, long_fault_is, long_walk_by, long_walk_is, long_wrong, no_letter_fault, no_letter_walk, plain_fault_by, plain_walk_by, short_fault_by, flag_fault, flag_valued, short_walk_by, totals_walk, valued_fault, valued_walk}
use Rattle.chr_words.proofs.Doomed.{doomed, doomed_behind, wrong_turn}
use Rattle.chr_words.proofs.Again.{awaited, doomed_again, no_value, no_value_fault, plain_fault, plain_walk, value_fault, value_is}

abbrev dashes : Text
dashes = 45 ∷ 45 ∷ []

abbrev said_of : Option Text → Option Text → Values → RunWords
said_of program query values = record { program = program; query = query; values = values }

abbrev reading : Option Text → Option Text → Values → Option Taker → Bool → Reading
reading program query values awaits plain = record { run_words = said_of program query values; awaits = awaits; plain = plain }

abbrev place_of : Option Text → Option Text → ℕ
place_of None query = 1
place_of (Some p) None = 2
place_of (Some p) (Some q) = 3

-- where no value is to come
abbrev Rests : List Text → Type 0
Rests words = (plain : Bool) (program query : Option Text) (values : Values) (rows : List Row) (pending : Option (Text × List Text)) → settle_fault rules false (held_at rows pending) ≡ []
    → Holds program query values (settled_rows rules pending rows)
    → Agrees (asks_from (reading program query values None plain) words) (at plain idle (place_of program query) rows pending) words

-- where the value of an option is to come, which was not said before
abbrev Awaits : List Text → Type 0
Awaits words = (o : Taker) (program query : Option Text) (values : Values) (rows : List Row) → value_of o values ≡ None → Holds program query values rows
    → Agrees (asks_from (reading program query values (Some o) false) words) (at false (awaited o) (place_of program query) rows (no_value o)) words

shows_held : (program query : Option Text) (values : Values) (rows : List Row) → Holds program query values rows → Shows (said_of program query values) (with_default rows totals_built)
shows_held program query values rows h = record {
  program = (default_other _ rows program refl h.at_program).first;
  query = (default_other _ rows query refl h.at_query).first;
  budget = (option budget).one;
  workers = (option workers).one;
  recorded = (option recorded).first;
  replay = (option replay).first;
  totals = default_totals rows values.totals h.at_totals;
  fit = h.fit;
}
  where
    option : (o : Taker) → HasFirst (name_of o) (with_default rows totals_built) (value_of o values)
    option o = default_other _ rows _ (no_option_is_totals o) (h.at_value o)

-- ---- no words

rests_end : Rests []
unfolding asks_from
rests_end plain program query values rows pending fine holds = (
  ends (at plain idle (place_of program query) rows pending) refl fine,
  subst (λ (rs : List Row). Shows (said_of program query values) rs) (sym (finished_is (held_at rows pending))) (shows_held program query values (settled_rows rules pending rows) holds),
)

awaits_end : Awaits []
unfolding asks_from
awaits_end o program query values rows none holds =
    ap are_wrong (ends_wrong (at false (awaited o) (place_of program query) rows (no_value o)) kind.InvalidValue refl (no_value_fault o rows))

-- ---- a word for a positional

module _ (word : Text) (words : List Text) (rest : Rests words) where
  program_fine : (query : Option Text) (values : Values) (rows : List Row) → Holds None query values rows → settle_fault rules false (held_at rows (Some (codes "PROGRAM", word ∷ []))) ≡ []
  program_fine query values rows holds = ap (λ b. or_else (cond (b && true) (kind.ArgumentConflict ∷ []) []) []) holds.at_program.has

  query_fine : (p : Text) (values : Values) (rows : List Row) → Holds (Some p) None values rows → settle_fault rules false (held_at rows (Some (codes "QUERY", word ∷ []))) ≡ []
  query_fine p values rows holds = ap (λ b. or_else (cond (b && true) (kind.ArgumentConflict ∷ []) []) []) holds.at_query.has

  places : (plain : Bool) (program query : Option Text) (values : Values) (rows : List Row) (pending : Option (Text × List Text)) → settle_fault rules false (held_at rows pending) ≡ []
      → Holds program query values (settled_rows rules pending rows)
      → turn_fault top [] (at plain idle (place_of program query) rows pending) word ≡ step_fault top (place_of program query) (held_at rows pending) value
      → walked rules [] (at plain idle (place_of program query) rows pending) word
      ≡ after_step rules word (at plain idle (place_of program query) rows pending) (held_at rows pending) value
      → Agrees (asks_after (operand_step (reading program query values None plain) word program query) (λ next. asks_from next words)) (at plain idle (place_of program query) rows pending) (word ∷ words)
  places plain None (Some q) values rows pending fine holds turn walk = absurd (true≢false (ap is_some (holds.ordered refl)))
  places plain None None values rows pending fine holds turn walk =
      goes_on _ _ (placed_at plain program_built 2 rows pending word) word words (turn ∙ placed_fault program_built (held_at rows pending) refl ∙ fine) (walk ∙ program_placed plain rows pending word)
      (rest plain (Some word) None values (settled_rows rules pending rows) (Some (codes "PROGRAM", word ∷ [])) (program_fine None values (settled_rows rules pending rows) holds)
      (program_used None values (settled_rows rules pending rows) word holds))
  places plain (Some p) None values rows pending fine holds turn walk =
      goes_on _ _ (placed_at plain query_built 3 rows pending word) word words (turn ∙ placed_fault query_built (held_at rows pending) refl ∙ fine) (walk ∙ query_placed plain rows pending word)
      (rest plain (Some p) (Some word) values (settled_rows rules pending rows) (Some (codes "QUERY", word ∷ [])) (query_fine p values (settled_rows rules pending rows) holds)
      (query_used p values (settled_rows rules pending rows) word holds))
  places plain (Some p) (Some q) values rows pending fine holds turn walk = ap are_wrong (fails_at _ word words kind.UnknownArgument turn)

-- ---- the value of an option

checked : (b n : Bool) → b ≡ n → or_else (cond b [] (kind.ValueValidation ∷ [])) [] ≡ cond n [] (kind.ValueValidation ∷ [])
checked b true e = ap (λ b. or_else (cond b [] (kind.ValueValidation ∷ [])) []) e
checked b false e = ap (λ b. or_else (cond b [] (kind.ValueValidation ∷ [])) []) e

-- clap takes the same values
values_are : (o : Taker) (x : Text) (n : Bool) → fits o x ≡ n → values_fault (built_of o) (x ∷ []) ≡ cond n [] (kind.ValueValidation ∷ [])
values_are budget x n e = checked _ n (accepts_is 18446744073709551615 (omega arith) x ∙ e)
values_are workers x n e = checked _ n (accepts_is 4294967295 (omega arith) x ∙ e)
values_are recorded x true e = refl
values_are recorded x false e = absurd (true≢false e)
values_are replay x true e = refl
values_are replay x false e = absurd (true≢false e)

-- a first value, by whether it fits
first_value : (o : Taker) (rows : List Row) (x : Text) (n : Bool) → has_row (name_of o) rows ≡ false → fits o x ≡ n
    → settle_fault rules false (held_at rows (value_is o x)) ≡ cond n [] (kind.ValueValidation ∷ [])
first_value o rows x n none e = value_fault o rows x false none ∙ values_are o x n e

second_value : (o : Taker) (rows : List Row) (x : Text) → has_row (name_of o) rows ≡ true → settle_fault rules false (held_at rows (value_is o x)) ≡ kind.ArgumentConflict ∷ []
second_value o rows x again = value_fault o rows x true again

-- what a use of it does where nothing is pending
used_fault : (o : Taker) (rows : List Row) (x : Text) → use_fault false (built_of o) (x ∷ []) rows ≡ settle_fault rules false (held_at rows (value_is o x))
used_fault budget rows x = refl
used_fault workers rows x = refl
used_fault recorded rows x = refl
used_fault replay rows x = refl

-- it has a row where it was said
has_said : (o : Taker) (values : Values) (rows : List Row) (said : Option Text) → HasFirst (name_of o) rows (value_of o values) → value_of o values ≡ said → has_row (name_of o) rows ≡ is_some said
has_said o values rows said h e = h.has ∙ ap is_some e

-- the value is settled by a use of its option
value_settled : (o : Taker) (program query : Option Text) (values : Values) (rows : List Row) (x : Text) → fits o x ≡ true → value_of o values ≡ None → Holds program query values rows
    → Holds program query (with_value o x values) (settled_rows rules (value_is o x) rows)
value_settled budget program query values rows x e none holds = value_used budget program query values rows x e none holds
value_settled workers program query values rows x e none holds = value_used workers program query values rows x e none holds
value_settled recorded program query values rows x e none holds = value_used recorded program query values rows x e none holds
value_settled replay program query values rows x e none holds = value_used replay program query values rows x e none holds

-- ---- a word where no value is to come

-- by what was said of the option before, and by whether the value fits
abbrev taken_by : Option Text → Bool → Reading → Asks → (Reading → Asks) → Asks
taken_by before n next stop more = asks_after (cond (is_some before) (stops stop) (cond n (goes next) (stops stop))) more

module _ (word : Text) (words : List Text) (rest : Rests words) (await : Awaits words) (program query : Option Text) (values : Values) (rows : List Row)
    (pending : Option (Text × List Text)) (fine : settle_fault rules false (held_at rows pending) ≡ []) (holds : Holds program query values (settled_rows rules pending rows)) where
  abbrev here : Walk
  here = at false idle (place_of program query) rows pending

  abbrev before : List Row
  before = settled_rows rules pending rows

  abbrev now : Reading
  now = reading program query values None false

  module _ (name : Text) (v : Option Text) (is_b : bytes_eq word dashes ≡ false) (is_long : long_of word ≡ Some (name, v)) where
    long_turn : (n : Option Taker) (f : Option Flag) → named name ≡ n → flag_named name ≡ f
        → turn_fault top [] here word ≡ long_fault_by idle (place_of program query) (held_at rows pending) word v (by_names n f)
    long_turn n f is_n is_f =
        turn_is (place_of program query) rows pending word false (Some (name, v)) is_b is_long idle
        ∙ long_fault_is idle (place_of program query) rows pending word name v n f is_n is_f

    long_walk : (n : Option Taker) (f : Option Flag) → named name ≡ n → flag_named name ≡ f
        → walked rules [] here word ≡ long_walk_by idle (place_of program query) rows pending word v (by_names n f)
    long_walk n f is_n is_f =
        walk_is (place_of program query) rows pending word false (Some (name, v)) is_b is_long idle
        ∙ long_walk_is idle (place_of program query) rows pending word name v n f is_n is_f

  -- `--name` of an option that takes a value
  option_alone : (o : Taker) (said : Option Text) → value_of o values ≡ said
      → turn_fault top [] here word ≡ long_fault_by idle (place_of program query) (held_at rows pending) word None (Some (built_of o))
      → walked rules [] here word ≡ long_walk_by idle (place_of program query) rows pending word None (Some (built_of o))
      → Agrees (asks_after (cond (is_some said) (stops refused) (goes (reading program query values (Some o) false))) (λ next. asks_from next words)) here (word ∷ words)
  option_alone o None is_said turn walk =
      goes_on _ _ (at false (awaited o) (place_of program query) before (no_value o)) word words
      (turn ∙ alone_fault idle (place_of program query) rows pending word o ∙ ap (λ f. or_else f []) fine)
      (walk ∙ alone_walk idle (place_of program query) rows pending word o) (await o program query values before is_said holds)
  option_alone o (Some d) is_said turn walk =
      goes_on refused _ (at false (awaited o) (place_of program query) before (no_value o)) word words
      (turn ∙ alone_fault idle (place_of program query) rows pending word o ∙ ap (λ f. or_else f []) fine)
      (walk ∙ alone_walk idle (place_of program query) rows pending word o)
      (doomed_again o (place_of program query) before (has_said o values before (Some d) (holds.at_value o) is_said) words)

  -- `--name=value`
  option_valued : (o : Taker) (x : Text) (said : Option Text) (n : Bool) → value_of o values ≡ said → fits o x ≡ n
      → turn_fault top [] here word ≡ long_fault_by idle (place_of program query) (held_at rows pending) word (Some x) (Some (built_of o))
      → walked rules [] here word ≡ long_walk_by idle (place_of program query) rows pending word (Some x) (Some (built_of o))
      → Agrees (taken_by said n (reading program query (with_value o x values) None false) refused (λ next. asks_from next words)) here (word ∷ words)
  option_valued o x (Some d) n is_said e turn walk =
      ap are_wrong (fails_at _ word words kind.ArgumentConflict (turn ∙ valued_fault idle (place_of program query) rows pending word o x
      ∙ ap₂ (λ f u. or_else (or_else f u) []) fine (used_fault o before x ∙ second_value o before x (has_said o values before (Some d) (holds.at_value o) is_said))))
  option_valued o x None true is_said e turn walk =
      goes_on _ _ (at false idle (place_of program query) (used (built_of o) (x ∷ []) before) None) word words
      (turn ∙ valued_fault idle (place_of program query) rows pending word o x
      ∙ ap₂ (λ f u. or_else (or_else f u) []) fine (used_fault o before x ∙ first_value o before x true (has_said o values before None (holds.at_value o) is_said) e))
      (walk ∙ valued_walk idle (place_of program query) rows pending word o x)
      (rest false program query (with_value o x values) (used (built_of o) (x ∷ []) before) None refl (value_used o program query values before x e is_said holds))
  option_valued o x None false is_said e turn walk =
      ap are_wrong (fails_at _ word words kind.ValueValidation (turn ∙ valued_fault idle (place_of program query) rows pending word o x
      ∙ ap₂ (λ f u. or_else (or_else f u) []) fine (used_fault o before x ∙ first_value o before x false (has_said o values before None (holds.at_value o) is_said) e)))

  -- `--totals`, by whether it was said before
  totals_fault : (said : Bool) → values.totals ≡ said → turn_fault top [] here word ≡ long_fault_by idle (place_of program query) (held_at rows pending) word None (Some totals_built)
      → turn_fault top [] here word ≡ cond said (kind.ArgumentConflict ∷ []) []
  totals_fault said is_said turn =
      turn ∙ flag_fault idle (place_of program query) rows pending word totals_flag
      ∙ ap₂ (λ f b. or_else (or_else f (or_else (cond (b && true) (kind.ArgumentConflict ∷ []) []) [])) []) fine (holds.at_totals.has ∙ ap (λ b. is_some (said_totals b)) is_said) ∙ by_said said
    where
      by_said : (said : Bool) → or_else (or_else (cond (is_some (said_totals said) && true) (kind.ArgumentConflict ∷ []) []) []) [] ≡ cond said (kind.ArgumentConflict ∷ []) []
      by_said true = refl
      by_said false = refl

  totals_alone : (said : Bool) → values.totals ≡ said → turn_fault top [] here word ≡ long_fault_by idle (place_of program query) (held_at rows pending) word None (Some totals_built)
      → walked rules [] here word ≡ long_walk_by idle (place_of program query) rows pending word None (Some totals_built)
      → Agrees (asks_after (cond said (stops refused) (goes (reading program query (with_totals values) None false))) (λ next. asks_from next words)) here (word ∷ words)
  totals_alone true is_said turn walk = ap are_wrong (fails_at _ word words kind.ArgumentConflict (totals_fault true is_said turn))
  totals_alone false is_said turn walk =
      goes_on _ _ (at false idle (place_of program query) (used totals_built [] before) None) word words (totals_fault false is_said turn)
      (walk ∙ totals_walk idle (place_of program query) rows pending word)
      (rest false program query (with_totals values) (used totals_built [] before) None refl (totals_used program query values before is_said holds))

  long_words : (name : Text) (v : Option Text) (n : Option Taker) (f : Option Flag) → bytes_eq word dashes ≡ false → long_of word ≡ Some (name, v) → named name ≡ n
      → flag_named name ≡ f → Agrees (asks_after (long_step now n f v) (λ next. asks_from next words)) here (word ∷ words)
  long_words name None (Some o) f is_b is_long is_n is_f =
      option_alone o (value_of o values) refl (long_turn name None is_b is_long (Some o) f is_n is_f) (long_walk name None is_b is_long (Some o) f is_n is_f)
  long_words name (Some x) (Some o) f is_b is_long is_n is_f =
      option_valued o x (value_of o values) (fits o x) refl refl (long_turn name (Some x) is_b is_long (Some o) f is_n is_f) (long_walk name (Some x) is_b is_long (Some o) f is_n is_f)
  long_words name None None (Some help_flag) is_b is_long is_n is_f =
      fails_at _ word words kind.DisplayHelp (long_turn name None is_b is_long None (Some help_flag) is_n is_f ∙ ap (λ f. or_else (or_else f (kind.DisplayHelp ∷ [])) []) fine)
  long_words name None None (Some totals_flag) is_b is_long is_n is_f =
      totals_alone values.totals refl (long_turn name None is_b is_long None (Some totals_flag) is_n is_f) (long_walk name None is_b is_long None (Some totals_flag) is_n is_f)
  long_words name (Some x) None (Some f) is_b is_long is_n is_f =
      ap are_wrong (fails_at _ word words kind.TooManyValues (long_turn name (Some x) is_b is_long None (Some f) is_n is_f ∙ flag_valued idle (place_of program query) rows pending word f x))
  long_words name v None None is_b is_long is_n is_f =
      ap are_wrong (fails_at _ word words kind.UnknownArgument (long_turn name v is_b is_long None None is_n is_f))

  module _ (is_b : bytes_eq word dashes ≡ false) (is_long : long_of word ≡ None) where
    short_turn : (letters : Option Text) → short_of word ≡ letters → turn_fault top [] here word ≡ short_fault_by idle (place_of program query) (held_at rows pending) word letters
    short_turn letters e =
        turn_is (place_of program query) rows pending word false None is_b is_long idle ∙ ap (short_fault_by idle (place_of program query) (held_at rows pending) word) e

    short_walk : (letters : Option Text) → short_of word ≡ letters → walked rules [] here word ≡ short_walk_by idle (place_of program query) rows pending word letters
    short_walk letters e = walk_is (place_of program query) rows pending word false None is_b is_long idle ∙ ap (short_walk_by idle (place_of program query) rows pending word) e

    letter_words : (flags : Text) (c : Option ℕ) → short_of word ≡ Some flags → slice_get (chars flags) 0 ≡ c
        → Agrees (asks_after (short_step now word c) (λ next. asks_from next words)) here (word ∷ words)
    letter_words flags None is_short is_c =
        places word words rest false program query values rows pending fine holds
        (short_turn (Some flags) is_short ∙ no_letter_fault idle (place_of program query) rows pending word flags is_c)
        (short_walk (Some flags) is_short ∙ no_letter_walk idle (place_of program query) rows pending word flags is_c)
    letter_words flags (Some c) is_short is_c = go (104 == c) refl
      where
        go : (b : Bool) → (104 == c) ≡ b → Agrees (asks_after (cond b (stops help) (stops refused)) (λ next. asks_from next words)) here (word ∷ words)
        go true e = fails_at _ word words kind.DisplayHelp (short_turn (Some flags) is_short ∙ letter_help idle (place_of program query) rows pending word flags c is_c e fine)
        go false e = ap are_wrong (fails_at _ word words kind.UnknownArgument
            (short_turn (Some flags) is_short ∙ letter_unknown idle (place_of program query) rows pending word flags c is_c e))

  option_words : (b : Bool) (parts : Option (Text × Option Text)) (letters : Option Text) → bytes_eq word dashes ≡ b
      → long_of word ≡ parts → short_of word ≡ letters → Agrees (asks_after (parts_step now word b parts letters) (λ next. asks_from next words)) here (word ∷ words)
  option_words true parts letters is_b is_long is_short =
      goes_on _ _ (at true idle (place_of program query) rows pending) word words (turn_is (place_of program query) rows pending word true parts is_b is_long idle)
      (walk_is (place_of program query) rows pending word true parts is_b is_long idle) (rest true program query values rows pending fine holds)
  option_words false (Some p) letters is_b is_long is_short = long_words p.0 p.1 (named p.0) (flag_named p.0) is_b is_long refl refl
  option_words false None (Some flags) is_b is_long is_short = letter_words is_b is_long flags (slice_get (chars flags) 0) is_short refl
  option_words false None None is_b is_long is_short =
      places word words rest false program query values rows pending fine holds (short_turn is_b is_long None is_short) (short_walk is_b is_long None is_short)

-- ---- a word where the value of an option is to come

module _ (word : Text) (words : List Text) (rest : Rests words) (o : Taker) (program query : Option Text) (values : Values) (rows : List Row) (none : value_of o values ≡ None)
    (holds : Holds program query values rows) where
  abbrev waits : Walk
  waits = at false (awaited o) (place_of program query) rows (no_value o)

  abbrev wanting : Reading
  wanting = reading program query values (Some o) false

  taken : (said : Option Text) (n : Bool) → value_of o values ≡ said → fits o word ≡ n → turn_fault top [] waits word ≡ []
      → walked rules [] waits word ≡ at false idle (place_of program query) rows (value_is o word)
      → Agrees (taken_by said n (reading program query (with_value o word values) None false) refused (λ next. asks_from next words)) waits (word ∷ words)
  taken (Some x) n is_said e turn walk = absurd (true≢false (ap is_some (sym is_said ∙ none)))
  taken None true is_said e turn walk =
      goes_on _ _ (at false idle (place_of program query) rows (value_is o word)) word words turn walk
      (rest false program query (with_value o word values) rows (value_is o word) (first_value o rows word true (has_said o values rows None (holds.at_value o) none) e)
      (value_settled o program query values rows word e none holds))
  taken None false is_said e turn walk =
      goes_on refused _ (at false idle (place_of program query) rows (value_is o word)) word words turn walk
      (doomed (place_of program query) rows (value_is o word) kind.ValueValidation (first_value o rows word false (has_said o values rows None (holds.at_value o) none) e) refl words)

  module _ (is_b : bytes_eq word dashes ≡ false) (is_long : long_of word ≡ None) where
    wait_turn : (letters : Option Text) → short_of word ≡ letters → turn_fault top [] waits word ≡ short_fault_by (awaited o) (place_of program query) (held_at rows (no_value o)) word letters
    wait_turn letters e =
        turn_is (place_of program query) rows (no_value o) word false None is_b is_long (awaited o)
        ∙ ap (short_fault_by (awaited o) (place_of program query) (held_at rows (no_value o)) word) e

    wait_walk : (letters : Option Text) → short_of word ≡ letters → walked rules [] waits word ≡ short_walk_by (awaited o) (place_of program query) rows (no_value o) word letters
    wait_walk letters e =
        walk_is (place_of program query) rows (no_value o) word false None is_b is_long (awaited o) ∙ ap (short_walk_by (awaited o) (place_of program query) rows (no_value o) word) e

    -- the word is the value
    is_value : turn_fault top [] waits word ≡ plain_fault_by (awaited o) (place_of program query) (held_at rows (no_value o)) word
        → walked rules [] waits word ≡ plain_walk_by (awaited o) (place_of program query) rows (no_value o) word
        → Agrees (asks_after (taken_step wanting o word) (λ next. asks_from next words)) waits (word ∷ words)
    is_value turn walk =
        taken (value_of o values) (fits o word) refl refl (turn ∙ plain_fault o (place_of program query) rows word) (walk ∙ plain_walk o (place_of program query) rows word)

    wait_letters : (flags : Text) (c : Option ℕ) → short_of word ≡ Some flags → slice_get (chars flags) 0 ≡ c
        → Agrees (asks_after (short_step wanting word c) (λ next. asks_from next words)) waits (word ∷ words)
    wait_letters flags None is_short is_c =
        is_value (wait_turn (Some flags) is_short ∙ no_letter_fault (awaited o) (place_of program query) rows (no_value o) word flags is_c)
        (wait_walk (Some flags) is_short ∙ no_letter_walk (awaited o) (place_of program query) rows (no_value o) word flags is_c)
    wait_letters flags (Some c) is_short is_c =
        wrong_turn waits word words (short_fault_by (awaited o) (place_of program query) (held_at rows (no_value o)) word (Some flags)) (wait_turn (Some flags) is_short)
        (letter_wrong (awaited o) (place_of program query) rows (no_value o) word flags c kind.InvalidValue is_c (no_value_fault o rows) refl)

  wait_words : (b : Bool) (parts : Option (Text × Option Text)) (letters : Option Text) → bytes_eq word dashes ≡ b → long_of word ≡ parts → short_of word ≡ letters
      → Agrees (asks_after (parts_step wanting word b parts letters) (λ next. asks_from next words)) waits (word ∷ words)
  wait_words true parts letters is_b is_long is_short =
      goes_on refused _ (at true (awaited o) (place_of program query) rows (no_value o)) word words
      (turn_is (place_of program query) rows (no_value o) word true parts is_b is_long (awaited o))
      (walk_is (place_of program query) rows (no_value o) word true parts is_b is_long (awaited o))
      (doomed_behind (place_of program query) rows (no_value o) kind.InvalidValue (no_value_fault o rows) refl (awaited o) words)
  wait_words false (Some p) letters is_b is_long is_short =
      wrong_turn waits word words _ (turn_is (place_of program query) rows (no_value o) word false (Some p) is_b is_long (awaited o))
      (long_wrong (awaited o) (place_of program query) rows (no_value o) word p.0 p.1 kind.InvalidValue (no_value_fault o rows) refl)
  wait_words false None (Some flags) is_b is_long is_short = wait_letters is_b is_long flags (slice_get (chars flags) 0) is_short refl
  wait_words false None None is_b is_long is_short = is_value is_b is_long (wait_turn is_b is_long None is_short) (wait_walk is_b is_long None is_short)

-- ---- all the words

rests_more : (word : Text) (words : List Text) → Rests words → Awaits words → Rests (word ∷ words)
unfolding asks_from walked
rests_more word words rest await true program query values rows pending fine holds = places word words rest true program query values rows pending fine holds refl refl
rests_more word words rest await false program query values rows pending fine holds =
    option_words word words rest await program query values rows pending fine holds (bytes_eq word dashes) (long_of word) (short_of word) refl refl refl

awaits_more : (word : Text) (words : List Text) → Rests words → Awaits (word ∷ words)
unfolding asks_from
awaits_more word words rest o program query values rows none holds =
    wait_words word words rest o program query values rows none holds (bytes_eq word dashes) (long_of word) (short_of word) refl refl refl

all_words : (words : List Text) → Rests words × Awaits words
all_words [] = (rests_end, awaits_end)
all_words (word ∷ words) =
    let more = all_words words in
    (rests_more word words more.0 more.1, awaits_more word words more.0)

nothing_held : (o : Taker) → HasFirst (name_of o) [] (value_of o no_values)
nothing_held budget = record { first = refl; one = refl; has = refl }
nothing_held workers = record { first = refl; one = refl; has = refl }
nothing_held recorded = record { first = refl; one = refl; has = refl }
nothing_held replay = record { first = refl; one = refl; has = refl }

nothing_fit : (o : Taker) (text : Text) → value_of o no_values ≡ Some text → fits o text ≡ true
nothing_fit budget text e = absurd (true≢false (ap is_some (sym e)))
nothing_fit workers text e = absurd (true≢false (ap is_some (sym e)))
nothing_fit recorded text e = refl
nothing_fit replay text e = refl

nothing_holds : Holds None None no_values []
nothing_holds = record {
  at_program = record { first = refl; one = refl; has = refl };
  at_query = record { first = refl; one = refl; has = refl };
  at_value = nothing_held;
  at_totals = record { first = refl; one = refl; has = refl };
  ordered = λ e. e;
  fit = nothing_fit;
}

-- what clap makes of the words is what they ask for
abbrev pub IsParsedAs : Asks → List Text → Type 0
IsParsedAs (run run_words) words = (fault_of chr_app words ≡ []) × Shows run_words (matches_of chr_app words)
IsParsedAs help words = fault_of chr_app words ≡ kind.DisplayHelp ∷ []
IsParsedAs version words = ⊥
IsParsedAs refused words = are_wrong (fault_of chr_app words) ≡ true

parsed_as : (a : Asks) (words : List Text) → Agrees a (at false idle 1 [] None) words → IsParsedAs a words
parsed_as (run run_words) words h = h
parsed_as help words h = h
parsed_as version words h = h
parsed_as refused words h = h

pub all_parsed : (words : List Text) → IsParsedAs (asks_read words) words
all_parsed words = parsed_as (asks_read words) words ((all_words words).0 false None None no_values [] None refl nothing_holds)

pub chr_is_simple : is_simple chr_app ≡ true
chr_is_simple = refl

pub chr_is_free : is_simple_and_free chr_app ≡ true
chr_is_free = refl
