-- What an option does where the walk stands.
use Rattle.std.proofs.Common.{◌≡◌, ◌∙◌, ◌||◌, ◌==◌, ℕ, Bool, true, false, cond, refl, sym, ap, ap₂, List, [], ◌∷◌, Option, Some, None, codes, length, true≢false}
use Rattle.std.specs.Prelude.{drop, encode_utf8, is_some, slice_get}
use Rattle.std.specs.Option.{option_map_or}
use Rattle.std.specs.Str.{bytes_eq, chars}
use Rattle.std.proofs.Math.Bool.{or-false}
use Rattle.clap.specs.Kinds.{Kinds, or_else}
use Rattle.clap.specs.Faults.{bundle_fault, bundle_step_fault, flags_fault, long_fault, settle_fault, short_fault, step_fault, use_fault}
use Rattle.clap.specs.Walk.{Held, Row, Rule, Text, Waiting, Walk, after_flag, after_step, arg_by_long, arg_by_short, bundle_met, bundle_step, done, idle, long_met, option, short_met, plain, plain_word, reacted, settled_rows, short_or_plain, used}
use Rattle.clap.specs.declared.error.kind.ErrorKind.{ErrorKind}
use Rattle.clap.specs.declared.error.kind.ErrorKind.TheVariants as kind
use Rattle.chr_words.specs.Words.{Flag, Taker, budget, flag_named, help_flag, name_of, named, recorded, replay, totals_flag, workers}
use Rattle.chr_words.proofs.Rows.{budget_built, built_of, flag_built, help_built, record_built, replay_built, totals_built, workers_built}
use Rattle.chr_words.proofs.Turns.{is_wrong, rules, top}
use Rattle.chr_words.proofs.Steps.{at, fault_by, held_at, walk_by}

-- a fault that is one kind, and no request for help
pub record Wrong (fault : Kinds) : Type 0 where
  pub kind : ErrorKind
  pub is : fault ≡ kind ∷ []
  pub wrong : is_wrong kind ≡ true

-- the argument of a name, by the option that takes a value, or by the one that takes none
abbrev pub by_names : Option Taker → Option Flag → Option Rule
by_names (Some o) f = Some (built_of o)
by_names None (Some f) = Some (flag_built f)
by_names None None = None

-- by whether the name is that of the budget, of the workers, of the record, of the replay, of the totals, of the help
abbrev named_by : Bool → Bool → Bool → Bool → Option Taker
named_by b w c r = cond b (Some budget) (cond w (Some workers) (cond c (Some recorded) (cond r (Some replay) None)))

abbrev flag_named_by : Bool → Bool → Option Flag
flag_named_by t h = cond t (Some totals_flag) (cond h (Some help_flag) None)

abbrev rule_by : Bool → Bool → Bool → Bool → Bool → Bool → Option Rule
rule_by b w c r t h =
    cond b (Some budget_built) (cond w (Some workers_built) (cond c (Some record_built) (cond r (Some replay_built) (cond t (Some totals_built) (cond h (Some help_built) None)))))

rule_is : (b w c r t h : Bool) → rule_by (b || false) (w || false) (c || false) (r || false) (t || false) (h || false) ≡ by_names (named_by b w c r) (flag_named_by t h)
rule_is true w c r t h = refl
rule_is false true c r t h = refl
rule_is false false true r t h = refl
rule_is false false false true t h = refl
rule_is false false false false true h = refl
rule_is false false false false false true = refl
rule_is false false false false false false = refl

found_is : (name : Text) (n : Option Taker) (f : Option Flag) → named name ≡ n → flag_named name ≡ f → arg_by_long rules name ≡ by_names n f
found_is name n f is_n is_f =
    rule_is (bytes_eq (codes "budget") name) (bytes_eq (codes "workers") name) (bytes_eq (codes "record") name) (bytes_eq (codes "replay") name) (bytes_eq (codes "totals") name)
    (bytes_eq (codes "help") name) ∙ ap₂ by_names is_n is_f

-- a long option, by the argument that it names
abbrev pub long_fault_by : Waiting → ℕ → Held → Text → Option Text → Option Rule → Kinds
long_fault_by waiting position h word v found =
    let met = after_flag rules waiting word (long_met rules found v h).0 (long_met rules found v h).1 in
    or_else (long_fault rules false found v h) (step_fault top position met.0 met.1)

abbrev pub long_walk_by : Waiting → ℕ → List Row → Option (Text × List Text) → Text → Option Text → Option Rule → Walk
long_walk_by waiting position rows pending word v found =
    let met = after_flag rules waiting word (long_met rules found v (held_at rows pending)).0 (long_met rules found v (held_at rows pending)).1 in
    after_step rules word (at false waiting position rows pending) met.0 met.1

module _ (waiting : Waiting) (position : ℕ) (rows : List Row) (pending : Option (Text × List Text)) (word name : Text) (v : Option Text) (n : Option Taker) (f : Option Flag)
    (is_n : named name ≡ n) (is_f : flag_named name ≡ f) where
  pub long_fault_is : fault_by waiting position (held_at rows pending) word false (Some (name, v)) ≡ long_fault_by waiting position (held_at rows pending) word v (by_names n f)
  long_fault_is = ap (long_fault_by waiting position (held_at rows pending) word v) (found_is name n f is_n is_f)

  pub long_walk_is : walk_by waiting position rows pending word false (Some (name, v)) ≡ long_walk_by waiting position rows pending word v (by_names n f)
  long_walk_is = ap (long_walk_by waiting position rows pending word v) (found_is name n f is_n is_f)

-- an option that takes a value, without one and with one
module _ (waiting : Waiting) (position : ℕ) (rows : List Row) (pending : Option (Text × List Text)) (word : Text) where
  pub alone_fault : (o : Taker) → long_fault_by waiting position (held_at rows pending) word None (Some (built_of o)) ≡ or_else (settle_fault rules false (held_at rows pending)) []
  alone_fault budget = refl
  alone_fault workers = refl
  alone_fault recorded = refl
  alone_fault replay = refl

  pub alone_walk : (o : Taker) → long_walk_by waiting position rows pending word None (Some (built_of o))
      ≡ at false (option (name_of o)) position (settled_rows rules pending rows) (Some (name_of o, []))
  alone_walk budget = refl
  alone_walk workers = refl
  alone_walk recorded = refl
  alone_walk replay = refl

  pub valued_fault : (o : Taker) (x : Text) → long_fault_by waiting position (held_at rows pending) word (Some x) (Some (built_of o))
      ≡ or_else (or_else (settle_fault rules false (held_at rows pending)) (use_fault false (built_of o) (x ∷ []) (settled_rows rules pending rows))) []
  valued_fault budget x = refl
  valued_fault workers x = refl
  valued_fault recorded x = refl
  valued_fault replay x = refl

  pub valued_walk : (o : Taker) (x : Text) → long_walk_by waiting position rows pending word (Some x) (Some (built_of o))
      ≡ at false idle position (used (built_of o) (x ∷ []) (settled_rows rules pending rows)) None
  valued_walk budget x = refl
  valued_walk workers x = refl
  valued_walk recorded x = refl
  valued_walk replay x = refl

  -- an option that takes none, with one and without
  pub flag_valued : (f : Flag) (x : Text) → long_fault_by waiting position (held_at rows pending) word (Some x) (Some (flag_built f)) ≡ kind.TooManyValues ∷ []
  flag_valued totals_flag x = refl
  flag_valued help_flag x = refl

  pub flag_fault : (f : Flag) → long_fault_by waiting position (held_at rows pending) word None (Some (flag_built f))
      ≡ or_else (or_else (settle_fault rules false (held_at rows pending)) (use_fault false (flag_built f) [] (settled_rows rules pending rows))) []
  flag_fault totals_flag = refl
  flag_fault help_flag = refl

  pub totals_walk : long_walk_by waiting position rows pending word None (Some totals_built) ≡ at false idle position (used totals_built [] (settled_rows rules pending rows)) None
  totals_walk = refl

-- where what is pending fails, a long option fails
pub long_wrong : (waiting : Waiting) (position : ℕ) (rows : List Row) (pending : Option (Text × List Text)) (word name : Text) (v : Option Text) (k : ErrorKind)
    → settle_fault rules false (held_at rows pending) ≡ k ∷ [] → is_wrong k ≡ true → Wrong (fault_by waiting position (held_at rows pending) word false (Some (name, v)))
long_wrong waiting position rows pending word name v k is wrong = go (named name) (flag_named name) v refl refl
  where
    go : (n : Option Taker) (f : Option Flag) (v : Option Text) → named name ≡ n → flag_named name ≡ f → Wrong (fault_by waiting position (held_at rows pending) word false (Some (name, v)))
    go (Some o) f None is_n is_f = record {
      kind = k;
      is = long_fault_is waiting position rows pending word name None (Some o) f is_n is_f ∙ alone_fault waiting position rows pending word o ∙ ap (λ f. or_else f []) is;
      wrong = wrong;
    }
    go (Some o) f (Some x) is_n is_f = record {
      kind = k;
      is = long_fault_is waiting position rows pending word name (Some x) (Some o) f is_n is_f ∙ valued_fault waiting position rows pending word o x
          ∙ ap (λ e. or_else (or_else e (use_fault false (built_of o) (x ∷ []) (settled_rows rules pending rows))) []) is;
      wrong = wrong;
    }
    go None (Some f) None is_n is_f = record {
      kind = k;
      is = long_fault_is waiting position rows pending word name None None (Some f) is_n is_f ∙ flag_fault waiting position rows pending word f
          ∙ ap (λ e. or_else (or_else e (use_fault false (flag_built f) [] (settled_rows rules pending rows))) []) is;
      wrong = wrong;
    }
    go None (Some f) (Some x) is_n is_f = record {
      kind = kind.TooManyValues;
      is = long_fault_is waiting position rows pending word name (Some x) None (Some f) is_n is_f ∙ flag_valued waiting position rows pending word f x;
      wrong = refl;
    }
    go None None v is_n is_f = record {
      kind = kind.UnknownArgument;
      is = long_fault_is waiting position rows pending word name v None None is_n is_f;
      wrong = refl;
    }

-- ---- short options

abbrev pub short_fault_by : Waiting → ℕ → Held → Text → Option Text → Kinds
short_fault_by waiting position h word letters =
    let met = short_or_plain rules waiting word letters h in
    or_else (option_map_or (λ flags. bundle_fault rules false flags h) letters []) (step_fault top position met.0 met.1)

abbrev pub short_walk_by : Waiting → ℕ → List Row → Option (Text × List Text) → Text → Option Text → Walk
short_walk_by waiting position rows pending word letters =
    let met = short_or_plain rules waiting word letters (held_at rows pending) in
    after_step rules word (at false waiting position rows pending) met.0 met.1

-- a word that is no option
abbrev pub plain_fault_by : Waiting → ℕ → Held → Text → Kinds
plain_fault_by waiting position h word =
    let met = plain_word rules waiting word h in
    step_fault top position met.0 met.1

abbrev pub plain_walk_by : Waiting → ℕ → List Row → Option (Text × List Text) → Text → Walk
plain_walk_by waiting position rows pending word =
    let met = plain_word rules waiting word (held_at rows pending) in
    after_step rules word (at false waiting position rows pending) met.0 met.1

-- the first character of a bundle
abbrev letter_fault_by : Waiting → ℕ → Held → Text → ℕ → Text → Option ℕ → Kinds
letter_fault_by waiting position h word k flags c =
    let met = bundle_step rules c flags 0 plain h (bundle_met rules k) in
    let after = after_flag rules waiting word met.0 met.1 in
    or_else (bundle_step_fault rules false c flags 0 h (flags_fault rules false k)) (step_fault top position after.0 after.1)

abbrev letter_walk_by : Waiting → ℕ → List Row → Option (Text × List Text) → Text → ℕ → Text → Option ℕ → Walk
letter_walk_by waiting position rows pending word k flags c =
    let met = bundle_step rules c flags 0 plain (held_at rows pending) (bundle_met rules k) in
    let after = after_flag rules waiting word met.0 met.1 in
    after_step rules word (at false waiting position rows pending) after.0 after.1

module _ (waiting : Waiting) (position : ℕ) (rows : List Row) (pending : Option (Text × List Text)) (word : Text) where
  -- no letter stands after the hyphen
  pub no_letter_fault : (flags : Text) → slice_get (chars flags) 0 ≡ None → short_fault_by waiting position (held_at rows pending) word (Some flags) ≡ plain_fault_by waiting position (held_at rows pending) word
  unfolding flags_fault bundle_met
  no_letter_fault [] none = refl
  no_letter_fault (x ∷ xs) none = ap (letter_fault_by waiting position (held_at rows pending) word (length xs) (x ∷ xs)) none

  pub no_letter_walk : (flags : Text) → slice_get (chars flags) 0 ≡ None → short_walk_by waiting position rows pending word (Some flags) ≡ plain_walk_by waiting position rows pending word
  unfolding bundle_met
  no_letter_walk [] none = refl
  no_letter_walk (x ∷ xs) none = ap (letter_walk_by waiting position rows pending word (length xs) (x ∷ xs)) none

abbrev by_letter : Bool → Option Rule
by_letter b = cond b (Some help_built) None

short_found_is : (c : ℕ) (b : Bool) → (104 == c) ≡ b → arg_by_short rules c ≡ by_letter b
short_found_is c b e = ap (λ x. by_letter (x || false)) e ∙ ap by_letter (or-false b)

abbrev letter_found_by : Waiting → ℕ → Held → Text → ℕ → Text → ℕ → Option Rule → Kinds
letter_found_by waiting position h word k flags c found =
    let rest = drop (length (encode_utf8 c)) flags in
    let met = short_met rules found rest h (bundle_met rules k rest 0 done) in
    let after = after_flag rules waiting word met.0 met.1 in
    or_else (short_fault rules false found rest h (flags_fault rules false k rest 0)) (step_fault top position after.0 after.1)

module _ (waiting : Waiting) (position : ℕ) (rows : List Row) (pending : Option (Text × List Text)) (word : Text) where
  letter_is : (flags : Text) (c : ℕ) (b : Bool) → slice_get (chars flags) 0 ≡ Some c → (104 == c) ≡ b
      → (k : ℕ) × (short_fault_by waiting position (held_at rows pending) word (Some flags) ≡ letter_found_by waiting position (held_at rows pending) word k flags c (by_letter b))
  unfolding flags_fault bundle_met chars
  letter_is [] c b is is_b = absurd (true≢false (ap is_some (sym is)))
  letter_is (x ∷ xs) c b is is_b = (
    length xs,
    ap (letter_fault_by waiting position (held_at rows pending) word (length xs) (x ∷ xs)) is
        ∙ ap (letter_found_by waiting position (held_at rows pending) word (length xs) (x ∷ xs) c) (short_found_is c b is_b),
  )

  -- `-h`, where what is pending fails not
  pub letter_help : (flags : Text) (c : ℕ) → slice_get (chars flags) 0 ≡ Some c → (104 == c) ≡ true → settle_fault rules false (held_at rows pending) ≡ []
      → short_fault_by waiting position (held_at rows pending) word (Some flags) ≡ kind.DisplayHelp ∷ []
  letter_help flags c is is_b fine =
      let found = letter_is flags c true is is_b in
      let rest : Text = drop (length (encode_utf8 c)) flags in
      let h : Held = held_at rows pending in
      let met = short_met rules (Some help_built) rest h (bundle_met rules found.0 rest 0 done) in
      let after = after_flag rules waiting word met.0 met.1 in
      found.1 ∙ ap (λ f. or_else (or_else (or_else f (kind.DisplayHelp ∷ [])) (flags_fault rules false found.0 rest 0 (reacted rules help_built [] h)))
      (step_fault top position after.0 after.1)) fine

  -- where what is pending fails, a short option fails
  pub letter_wrong : (flags : Text) (c : ℕ) (k : ErrorKind) → slice_get (chars flags) 0 ≡ Some c → settle_fault rules false (held_at rows pending) ≡ k ∷ [] → is_wrong k ≡ true
      → Wrong (short_fault_by waiting position (held_at rows pending) word (Some flags))
  letter_wrong flags c k is settles wrong = go (104 == c) refl
    where
      go : (b : Bool) → (104 == c) ≡ b → Wrong (short_fault_by waiting position (held_at rows pending) word (Some flags))
      go true is_b =
          let found = letter_is flags c true is is_b in
          let rest : Text = drop (length (encode_utf8 c)) flags in
          let h : Held = held_at rows pending in
          let met = short_met rules (Some help_built) rest h (bundle_met rules found.0 rest 0 done) in
          let after = after_flag rules waiting word met.0 met.1 in
          record {
            kind = k;
            is = found.1 ∙ ap (λ f. or_else (or_else (or_else f (kind.DisplayHelp ∷ [])) (flags_fault rules false found.0 rest 0 (reacted rules help_built [] h)))
                (step_fault top position after.0 after.1)) settles;
            wrong = wrong;
          }
      go false is_b = record { kind = kind.UnknownArgument; is = (letter_is flags c false is is_b).1; wrong = refl }

  -- another letter
  pub letter_unknown : (flags : Text) (c : ℕ) → slice_get (chars flags) 0 ≡ Some c → (104 == c) ≡ false
      → short_fault_by waiting position (held_at rows pending) word (Some flags) ≡ kind.UnknownArgument ∷ []
  letter_unknown flags c is is_b = (letter_is flags c false is is_b).1
