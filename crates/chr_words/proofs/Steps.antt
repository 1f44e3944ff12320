-- What a word does where the walk stands.
use Rattle.std.proofs.Common.{◌≡◌, ◌∙◌, ◌&&◌, ◌==◌, ℕ, Bool, true, false, cond, refl, ap, ap₂, List, [], ◌∷◌, Option, Some, None}
use Rattle.std.specs.Option.{option_map_or}
use Rattle.std.specs.Str.{bytes_eq}
use Rattle.std.proofs.Math.Bool.{and-false, or-false}
use Rattle.clap.specs.Lexer.{long_of}
use Rattle.clap.specs.Kinds.{Kinds, or_else}
use Rattle.clap.specs.Faults.{flag_word_fault, positional_fault, settle_fault, step_fault, stray_fault, turn_fault}
use Rattle.clap.specs.Walk.{Held, Row, Rule, Step, Text, Waiting, Walk, after_step, idle, is_pending, long_or_other, option, positional, pushed, settled, settled_rows, takes_several, trailing, value, walked}
use Rattle.clap.specs.declared.error.kind.ErrorKind.{ErrorKind}
use Rattle.clap.specs.declared.error.kind.ErrorKind.TheVariants as kind
use Rattle.chr_words.proofs.Rows.{program_built, query_built}
use Rattle.chr_words.proofs.Turns.{is_wrong, rules, top}

abbrev pub held_at : List Row → Option (Text × List Text) → Held
held_at rows pending = record { rows = rows; pending = pending; skip = 0 }

-- where the walk stands between two words
abbrev pub at : Bool → Waiting → ℕ → List Row → Option (Text × List Text) → Walk
at plain waiting position rows pending = record {
  held = held_at rows pending;
  waiting = waiting;
  position = position;
  is_trailing = plain;
  stopped = None;
}

abbrev dashes : Text
dashes = 45 ∷ 45 ∷ []

-- ---- what a word is, by its parts

abbrev pub met_by : Waiting → ℕ → Held → Text → Bool → Option (Text × Option Text) → Held × Step
met_by waiting position h word b parts = cond b (h, trailing position) (long_or_other rules waiting word parts h)

abbrev pub fault_by : Waiting → ℕ → Held → Text → Bool → Option (Text × Option Text) → Kinds
fault_by waiting position h word b parts =
    let met = met_by waiting position h word b parts in
    or_else (cond b [] (flag_word_fault rules false parts word h)) (step_fault top position met.0 met.1)

abbrev pub walk_by : Waiting → ℕ → List Row → Option (Text × List Text) → Text → Bool → Option (Text × Option Text) → Walk
walk_by waiting position rows pending word b parts =
    let met = met_by waiting position (held_at rows pending) word b parts in
    after_step rules word (at false waiting position rows pending) met.0 met.1

module _ (position : ℕ) (rows : List Row) (pending : Option (Text × List Text)) (word : Text) (b : Bool) (parts : Option (Text × Option Text))
    (is_b : bytes_eq word dashes ≡ b) (is_parts : long_of word ≡ parts) where
  pub turn_is : (waiting : Waiting) → turn_fault top [] (at false waiting position rows pending) word ≡ fault_by waiting position (held_at rows pending) word b parts
  turn_is idle = ap₂ (fault_by idle position (held_at rows pending) word) is_b is_parts
  turn_is (option id) = ap₂ (fault_by (option id) position (held_at rows pending) word) is_b is_parts
  turn_is positional = ap₂ (fault_by positional position (held_at rows pending) word) is_b is_parts

  pub walk_is : (waiting : Waiting) → walked rules [] (at false waiting position rows pending) word ≡ walk_by waiting position rows pending word b parts
  unfolding walked
  walk_is idle = ap₂ (walk_by idle position rows pending word) is_b is_parts
  walk_is (option id) = ap₂ (walk_by (option id) position rows pending word) is_b is_parts
  walk_is positional = ap₂ (walk_by positional position rows pending word) is_b is_parts

-- ---- a word for a positional

pub placed_fault : (a : Rule) (h : Held) → takes_several a ≡ false → positional_fault rules false a h ≡ settle_fault rules false h
placed_fault a h e = ap (λ b. cond (is_pending a h.pending && b) [] (settle_fault rules false h)) e ∙ ap (λ b. cond b [] (settle_fault rules false h)) (and-false (is_pending a h.pending))

abbrev pub placed_at : Bool → Rule → ℕ → List Row → Option (Text × List Text) → Text → Walk
placed_at plain a position rows pending word = at plain idle position (settled_rows rules pending rows) (Some (a.id, word ∷ []))

abbrev placed_by : Bool → Rule → ℕ → List Row → Option (Text × List Text) → Text → Bool → Bool → Walk
placed_by plain a position rows pending word keeps t = record {
  held = pushed a.id word (cond keeps (held_at rows pending) (settled rules (held_at rows pending)));
  waiting = idle;
  position = position;
  is_trailing = t;
  stopped = None;
}

pub program_placed : (plain : Bool) (rows : List Row) (pending : Option (Text × List Text)) (word : Text)
    → after_step rules word (at plain idle 1 rows pending) (held_at rows pending) value ≡ placed_at plain program_built 2 rows pending word
program_placed plain rows pending word = ap₂ (placed_by plain program_built 2 rows pending word) (and-false (is_pending program_built pending)) (or-false plain)

pub query_placed : (plain : Bool) (rows : List Row) (pending : Option (Text × List Text)) (word : Text)
    → after_step rules word (at plain idle 2 rows pending) (held_at rows pending) value ≡ placed_at plain query_built 3 rows pending word
query_placed plain rows pending word = ap₂ (placed_by plain query_built 3 rows pending word) (and-false (is_pending query_built pending)) (or-false plain)

-- where what is pending fails, a word for a positional fails
pub place_fails : (position : ℕ) (h : Held) (k : ErrorKind) → settle_fault rules false h ≡ k ∷ [] → is_wrong k ≡ true → (l : ErrorKind) × (step_fault top position h value ≡ l ∷ []) × (is_wrong l ≡ true)
place_fails position h k is wrong = go (1 == position) (2 == position)
  where
    go : (a b : Bool) → (l : ErrorKind) × (option_map_or (λ r. positional_fault rules false r h) (cond a (Some program_built) (cond b (Some query_built) None)) (stray_fault top) ≡ l ∷ []) × (is_wrong l ≡ true)
    go true b = (k, placed_fault program_built h refl ∙ is, wrong)
    go false true = (k, placed_fault query_built h refl ∙ is, wrong)
    go false false = (kind.UnknownArgument, refl, refl)
