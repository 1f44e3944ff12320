-- Where what is pending fails, the rest of the words does not help.
use Rattle.std.proofs.Common.{◌≡◌, ◌∙◌, ℕ, Bool, true, false, refl, ap, List, [], ◌∷◌, Option, Some, None}
use Rattle.std.specs.Prelude.{slice_get}
use Rattle.std.specs.Str.{bytes_eq, chars}
use Rattle.clap.specs.Lexer.{long_of, short_of}
use Rattle.clap.specs.Kinds.{Kinds}
use Rattle.clap.specs.Faults.{settle_fault, step_fault, turn_fault}
use Rattle.clap.specs.Walk.{Row, Text, Waiting, Walk, idle, value}
use Rattle.clap.specs.declared.error.kind.ErrorKind.{ErrorKind}
use Rattle.chr_words.specs.Words.{refused}
use Rattle.chr_words.proofs.Turns.{are_wrong, ends_wrong, fails_at, fault_at, goes_on, is_wrong, rules, top}
use Rattle.chr_words.proofs.Steps.{at, held_at, place_fails, turn_is, walk_is}
use Rattle.chr_words.proofs.Cases.{Wrong, letter_wrong, long_wrong, no_letter_fault, plain_fault_by, short_fault_by}

-- a word at which the walk fails
wrong_word : (w : Walk) (word : Text) (words : List Text) → Wrong (turn_fault top [] w word) → are_wrong (fault_at w (word ∷ words)) ≡ true
wrong_word w word words f = ap are_wrong (fails_at w word words f.kind f.is) ∙ f.wrong

pub wrong_turn : (w : Walk) (word : Text) (words : List Text) (fault : Kinds) → turn_fault top [] w word ≡ fault → Wrong fault → are_wrong (fault_at w (word ∷ words)) ≡ true
wrong_turn w word words fault e f = wrong_word w word words (record { kind = f.kind; is = e ∙ f.is; wrong = f.wrong })

module _ (position : ℕ) (rows : List Row) (pending : Option (Text × List Text)) (k : ErrorKind) (is : settle_fault rules false (held_at rows pending) ≡ k ∷ [])
    (wrong : is_wrong k ≡ true) where
  ends_so : (plain : Bool) (waiting : Waiting) → are_wrong (fault_at (at plain waiting position rows pending) []) ≡ true
  ends_so plain waiting = ap are_wrong (ends_wrong (at plain waiting position rows pending) k refl is) ∙ wrong

  no_place : Wrong (step_fault top position (held_at rows pending) value)
  no_place =
      let f = place_fails position (held_at rows pending) k is wrong in
      record { kind = f.0; is = f.1; wrong = f.2 }

  -- after `--`
  pub doomed_behind : (waiting : Waiting) (words : List Text) → are_wrong (fault_at (at true waiting position rows pending) words) ≡ true
  doomed_behind waiting [] = ends_so true waiting
  doomed_behind waiting (word ∷ words) = wrong_turn _ word words (step_fault top position (held_at rows pending) value) refl no_place

  abbrev DoomedBy : Text → List Text → Type 0
  DoomedBy word words = are_wrong (fault_at (at false idle position rows pending) (word ∷ words)) ≡ true

  doomed_plain : (word : Text) (words : List Text) (letters : Option Text) → bytes_eq word (45 ∷ 45 ∷ []) ≡ false → long_of word ≡ None → short_of word ≡ letters
      → short_fault_by idle position (held_at rows pending) word letters ≡ plain_fault_by idle position (held_at rows pending) word → DoomedBy word words
  doomed_plain word words letters is_b is_long is_short same =
      wrong_turn _ word words (step_fault top position (held_at rows pending) value)
      (turn_is position rows pending word false None is_b is_long idle ∙ ap (short_fault_by idle position (held_at rows pending) word) is_short ∙ same) no_place

  doomed_letters : (word : Text) (words : List Text) (letters : Option Text) (c : Option ℕ) → bytes_eq word (45 ∷ 45 ∷ []) ≡ false → long_of word ≡ None → short_of word ≡ letters
      → (flags : Text) → letters ≡ Some flags → slice_get (chars flags) 0 ≡ c → DoomedBy word words
  doomed_letters word words letters None is_b is_long is_short flags is_flags none =
      doomed_plain word words (Some flags) is_b is_long (is_short ∙ is_flags) (no_letter_fault idle position rows pending word flags none)
  doomed_letters word words letters (Some c) is_b is_long is_short flags is_flags some =
      wrong_turn _ word words (short_fault_by idle position (held_at rows pending) word (Some flags))
      (turn_is position rows pending word false None is_b is_long idle ∙ ap (short_fault_by idle position (held_at rows pending) word) (is_short ∙ is_flags))
      (letter_wrong idle position rows pending word flags c k some is wrong)

  doomed_by : (word : Text) (words : List Text) (b : Bool) (parts : Option (Text × Option Text)) (letters : Option Text) → bytes_eq word (45 ∷ 45 ∷ []) ≡ b → long_of word ≡ parts
      → short_of word ≡ letters → DoomedBy word words
  doomed_by word words true parts letters is_b is_long is_short =
      goes_on refused _ (at true idle position rows pending) word words (turn_is position rows pending word true parts is_b is_long idle)
      (walk_is position rows pending word true parts is_b is_long idle) (doomed_behind idle words)
  doomed_by word words false (Some p) letters is_b is_long is_short =
      wrong_turn _ word words _ (turn_is position rows pending word false (Some p) is_b is_long idle) (long_wrong idle position rows pending word p.0 p.1 k is wrong)
  doomed_by word words false None (Some flags) is_b is_long is_short = doomed_letters word words (Some flags) (slice_get (chars flags) 0) is_b is_long is_short flags refl refl
  doomed_by word words false None None is_b is_long is_short = doomed_plain word words None is_b is_long is_short refl

  -- anywhere
  pub doomed : (words : List Text) → are_wrong (fault_at (at false idle position rows pending) words) ≡ true
  doomed [] = ends_so false idle
  doomed (word ∷ words) = doomed_by word words (bytes_eq word (45 ∷ 45 ∷ [])) (long_of word) (short_of word) refl refl refl
