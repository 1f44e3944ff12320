-- An option that is said a second time is refused, whatever stands after it.
use Rattle.std.proofs.Common.{◌≡◌, ◌∙◌, ◌&&◌, ℕ, Bool, true, false, cond, refl, ap, List, [], ◌∷◌, Option, Some, None}
use Rattle.std.specs.Prelude.{slice_get}
use Rattle.std.specs.Str.{bytes_eq, chars}
use Rattle.std.proofs.Math.Bool.{and-true}
use Rattle.clap.specs.Lexer.{long_of, short_of}
use Rattle.clap.specs.Kinds.{or_else}
use Rattle.clap.specs.Faults.{settle_fault, values_fault}
use Rattle.clap.specs.Walk.{Row, Text, Waiting, has_row, idle, option}
use Rattle.clap.specs.declared.error.kind.ErrorKind.TheVariants as kind
use Rattle.chr_words.specs.Words.{Taker, budget, name_of, recorded, refused, replay, workers}
use Rattle.chr_words.proofs.Rows.{built_of}
use Rattle.chr_words.proofs.Turns.{are_wrong, ends_wrong, fault_at, goes_on, rules}
use Rattle.chr_words.proofs.Steps.{at, held_at, turn_is, walk_is}
use Rattle.chr_words.proofs.Cases.{letter_wrong, long_wrong, no_letter_fault, no_letter_walk, plain_fault_by, plain_walk_by, short_fault_by, short_walk_by}
use Rattle.chr_words.proofs.Doomed.{doomed, doomed_behind, wrong_turn}

-- the value of the option is to come
abbrev pub awaited : Taker → Waiting
awaited o = option (name_of o)

abbrev pub no_value : Taker → Option (Text × List Text)
no_value o = Some (name_of o, [])

abbrev pub value_is : Taker → Text → Option (Text × List Text)
value_is o word = Some (name_of o, word ∷ [])

-- it has none yet
pub no_value_fault : (o : Taker) (rows : List Row) → settle_fault rules false (held_at rows (no_value o)) ≡ kind.InvalidValue ∷ []
no_value_fault budget rows = refl
no_value_fault workers rows = refl
no_value_fault recorded rows = refl
no_value_fault replay rows = refl

used_value : (o : Taker) (rows : List Row) (word : Text) → settle_fault rules false (held_at rows (value_is o word))
    ≡ or_else (cond (has_row (name_of o) rows && true) (kind.ArgumentConflict ∷ []) []) (values_fault (built_of o) (word ∷ []))
used_value budget rows word = refl
used_value workers rows word = refl
used_value recorded rows word = refl
used_value replay rows word = refl

pub value_fault : (o : Taker) (rows : List Row) (word : Text) (b : Bool) → has_row (name_of o) rows ≡ b
    → settle_fault rules false (held_at rows (value_is o word)) ≡ or_else (cond b (kind.ArgumentConflict ∷ []) []) (values_fault (built_of o) (word ∷ []))
value_fault o rows word b e =
    used_value o rows word ∙ ap (λ b. or_else (cond b (kind.ArgumentConflict ∷ []) []) (values_fault (built_of o) (word ∷ []))) (and-true (has_row (name_of o) rows) ∙ e)

-- the next word is the value
pub plain_fault : (o : Taker) (position : ℕ) (rows : List Row) (word : Text) → plain_fault_by (awaited o) position (held_at rows (no_value o)) word ≡ []
plain_fault budget position rows word = refl
plain_fault workers position rows word = refl
plain_fault recorded position rows word = refl
plain_fault replay position rows word = refl

pub plain_walk : (o : Taker) (position : ℕ) (rows : List Row) (word : Text) → plain_walk_by (awaited o) position rows (no_value o) word ≡ at false idle position rows (value_is o word)
plain_walk budget position rows word = refl
plain_walk workers position rows word = refl
plain_walk recorded position rows word = refl
plain_walk replay position rows word = refl

module _ (o : Taker) (position : ℕ) (rows : List Row) (again : has_row (name_of o) rows ≡ true) where
  abbrev AgainBy : Text → List Text → Type 0
  AgainBy word words = are_wrong (fault_at (at false (awaited o) position rows (no_value o)) (word ∷ words)) ≡ true

  again_plain : (word : Text) (words : List Text) (letters : Option Text) → bytes_eq word (45 ∷ 45 ∷ []) ≡ false → long_of word ≡ None → short_of word ≡ letters
      → short_fault_by (awaited o) position (held_at rows (no_value o)) word letters ≡ plain_fault_by (awaited o) position (held_at rows (no_value o)) word
      → short_walk_by (awaited o) position rows (no_value o) word letters ≡ plain_walk_by (awaited o) position rows (no_value o) word → AgainBy word words
  again_plain word words letters is_b is_long is_short same_fault same_walk =
      goes_on refused _ (at false idle position rows (value_is o word)) word words
      (turn_is position rows (no_value o) word false None is_b is_long (awaited o) ∙ ap (short_fault_by (awaited o) position (held_at rows (no_value o)) word) is_short ∙ same_fault
      ∙ plain_fault o position rows word)
      (walk_is position rows (no_value o) word false None is_b is_long (awaited o) ∙ ap (short_walk_by (awaited o) position rows (no_value o) word) is_short ∙ same_walk
      ∙ plain_walk o position rows word)
      (doomed position rows (value_is o word) kind.ArgumentConflict (value_fault o rows word true again) refl words)

  again_letters : (word : Text) (words : List Text) (c : Option ℕ) → bytes_eq word (45 ∷ 45 ∷ []) ≡ false → long_of word ≡ None → (flags : Text) → short_of word ≡ Some flags
      → slice_get (chars flags) 0 ≡ c → AgainBy word words
  again_letters word words None is_b is_long flags is_flags none =
      again_plain word words (Some flags) is_b is_long is_flags (no_letter_fault (awaited o) position rows (no_value o) word flags none)
      (no_letter_walk (awaited o) position rows (no_value o) word flags none)
  again_letters word words (Some c) is_b is_long flags is_flags some =
      wrong_turn _ word words (short_fault_by (awaited o) position (held_at rows (no_value o)) word (Some flags))
      (turn_is position rows (no_value o) word false None is_b is_long (awaited o) ∙ ap (short_fault_by (awaited o) position (held_at rows (no_value o)) word) is_flags)
      (letter_wrong (awaited o) position rows (no_value o) word flags c kind.InvalidValue some (no_value_fault o rows) refl)

  again_by : (word : Text) (words : List Text) (b : Bool) (parts : Option (Text × Option Text)) (letters : Option Text) → bytes_eq word (45 ∷ 45 ∷ []) ≡ b → long_of word ≡ parts
      → short_of word ≡ letters → AgainBy word words
  again_by word words true parts letters is_b is_long is_short =
      goes_on refused _ (at true (awaited o) position rows (no_value o)) word words (turn_is position rows (no_value o) word true parts is_b is_long (awaited o))
      (walk_is position rows (no_value o) word true parts is_b is_long (awaited o)) (doomed_behind position rows (no_value o) kind.InvalidValue (no_value_fault o rows) refl (awaited o) words)
  again_by word words false (Some p) letters is_b is_long is_short =
      wrong_turn _ word words _ (turn_is position rows (no_value o) word false (Some p) is_b is_long (awaited o))
      (long_wrong (awaited o) position rows (no_value o) word p.0 p.1 kind.InvalidValue (no_value_fault o rows) refl)
  again_by word words false None (Some flags) is_b is_long is_short = again_letters word words (slice_get (chars flags) 0) is_b is_long flags is_short refl
  again_by word words false None None is_b is_long is_short = again_plain word words None is_b is_long is_short refl refl

  pub doomed_again : (words : List Text) → are_wrong (fault_at (at false (awaited o) position rows (no_value o)) words) ≡ true
  doomed_again [] = ap are_wrong (ends_wrong (at false (awaited o) position rows (no_value o)) kind.InvalidValue refl (no_value_fault o rows))
  doomed_again (word ∷ words) = again_by word words (bytes_eq word (45 ∷ 45 ∷ [])) (long_of word) (short_of word) refl refl refl
