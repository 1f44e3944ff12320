-- What the rows of a parse hold of what was said.
use Rattle.std.proofs.Common.{◌≡◌, ◌∙◌, ◌++◌, ◌||◌, ◌⊎◌, inl, inr, Bool, true, false, cond, refl, sym, ap, ap₂, subst, List, [], ◌∷◌, Option, Some, None, codes, true≢false}
use Rattle.std.specs.Prelude.{is_some, slice_get}
use Rattle.std.specs.List.{find}
use Rattle.std.specs.Prelude.{option_and_then, unwrap_or}
use Rattle.std.specs.Str.{bytes_eq}
use Rattle.clap.specs.Walk.{Row, Rule, Text, first_of, has_row, one_of, reading_by, row_text, stronger, used, with_default, with_values, without}
use Rattle.clap.specs.Simple.{filled, help_rule, with_index}
use Rattle.clap.specs.Values.{bool_text}
use Rattle.clap.specs.declared.parser.matches.ValueSource.{ValueSource}
use Rattle.clap.specs.declared.parser.matches.ValueSource.TheVariants.{CommandLine, DefaultValue}
use Rattle.clap.specs.declared.builder.value_parser.Reading.{Reading as How}
use Rattle.chr_words.specs.Words.{Flag, Taker, Values, budget, fits, help_flag, name_of, recorded, replay, totals_flag, value_of, with_totals, with_value, workers}
use Rattle.chr_words.specs.App.{budget_rule, program_rule, query_rule, record_rule, replay_rule, totals_rule, workers_rule}

abbrev pub program_built : Rule
program_built = with_index 1 (filled program_rule)

abbrev pub query_built : Rule
query_built = with_index 2 (filled query_rule)

abbrev pub budget_built : Rule
budget_built = with_index 3 (filled budget_rule)

abbrev pub workers_built : Rule
workers_built = with_index 3 (filled workers_rule)

abbrev pub record_built : Rule
record_built = with_index 3 (filled record_rule)

abbrev pub replay_built : Rule
replay_built = with_index 3 (filled replay_rule)

abbrev pub built_of : Taker → Rule
built_of budget = budget_built
built_of workers = workers_built
built_of recorded = record_built
built_of replay = replay_built

abbrev pub totals_built : Rule
totals_built = with_index 3 (filled totals_rule)

abbrev pub help_built : Rule
help_built = with_index 3 (filled help_rule)

abbrev pub flag_built : Flag → Rule
flag_built totals_flag = totals_built
flag_built help_flag = help_built

-- how its value is read
abbrev how_of : Taker → How
how_of o = reading_by (built_of o)

abbrev line : ValueSource
line = CommandLine

abbrev pub new_row : Text → How → ValueSource → List Text → Row
new_row id how s values = record {
  id = id;
  values = values;
  count = None;
  source = Some s;
  reading = how;
}

pub without-none : (id : Text) (rows : List Row) → has_row id rows ≡ false → without id rows ≡ rows
without-none id [] e = refl
without-none id (r ∷ rs) e = go (bytes_eq r.id id) e (without-none id rs)
  where
    go : (b : Bool) → (b || has_row id rs) ≡ false → (has_row id rs ≡ false → without id rs ≡ rs) → cond b rs (r ∷ without id rs) ≡ r ∷ rs
    go true e rest = absurd (true≢false e)
    go false e rest = ap (λ xs. r ∷ xs) (rest e)

pub with_values-none : (id : Text) (how : How) (s : ValueSource) (vs : List Text) (rows : List Row) → has_row id rows ≡ false
    → with_values id how s vs rows ≡ rows ++ new_row id how s vs ∷ []
with_values-none id how s vs [] e = refl
with_values-none id how s vs (r ∷ rs) e = go (bytes_eq r.id id) e (with_values-none id how s vs rs)
  where
    go : (b : Bool) → (b || has_row id rs) ≡ false → (has_row id rs ≡ false → with_values id how s vs rs ≡ rs ++ new_row id how s vs ∷ [])
        → cond b ((record r { values = r.values ++ vs; source = Some (stronger r.source s) } ∷ []) ++ rs) (r ∷ with_values id how s vs rs) ≡ (r ∷ rs) ++ new_row id how s vs ∷ []
    go true e rest = absurd (true≢false e)
    go false e rest = ap (λ xs. r ∷ xs) (rest e)

-- what f reads of the row of an id
abbrev pub read_by : (Row → Option Text) → Text → List Row → Option Text
read_by f id rows = option_and_then f (find (λ r. bytes_eq r.id id) rows)

read_by-other : (f : Row → Option Text) (id : Text) (n : Row) (rows : List Row) → bytes_eq n.id id ≡ false → read_by f id (rows ++ n ∷ []) ≡ read_by f id rows
read_by-other f id n [] e = rw e refl
read_by-other f id n (r ∷ rs) e = go (bytes_eq r.id id) (read_by-other f id n rs e)
  where
    go : (b : Bool) → read_by f id (rs ++ n ∷ []) ≡ read_by f id rs
        → option_and_then f (cond b (Some r) (find (λ x. bytes_eq x.id id) (rs ++ n ∷ []))) ≡ option_and_then f (cond b (Some r) (find (λ x. bytes_eq x.id id) rs))
    go true rest = refl
    go false rest = rest

read_by-same : (f : Row → Option Text) (id : Text) (n : Row) (rows : List Row) → bytes_eq n.id id ≡ true → has_row id rows ≡ false → read_by f id (rows ++ n ∷ []) ≡ f n
read_by-same f id n [] e none = rw e refl
read_by-same f id n (r ∷ rs) e none = go (bytes_eq r.id id) none (read_by-same f id n rs e)
  where
    go : (b : Bool) → (b || has_row id rs) ≡ false → (has_row id rs ≡ false → read_by f id (rs ++ n ∷ []) ≡ f n)
        → option_and_then f (cond b (Some r) (find (λ x. bytes_eq x.id id) (rs ++ n ∷ []))) ≡ f n
    go true none rest = absurd (true≢false none)
    go false none rest = rest none

abbrev first_text : Row → Option Text
first_text r = slice_get r.values 0

pub has_row-other : (id : Text) (n : Row) (rows : List Row) → bytes_eq n.id id ≡ false → has_row id (rows ++ n ∷ []) ≡ has_row id rows
has_row-other id n [] e = rw e refl
has_row-other id n (r ∷ rs) e = ap (λ b. bytes_eq r.id id || b) (has_row-other id n rs e)

pub has_row-same : (id : Text) (n : Row) (rows : List Row) → bytes_eq n.id id ≡ true → has_row id (rows ++ n ∷ []) ≡ true
has_row-same id n [] e = rw e refl
has_row-same id n (r ∷ rs) e = go (bytes_eq r.id id) (has_row-same id n rs e)
  where
    go : (b : Bool) → has_row id (rs ++ n ∷ []) ≡ true → (b || has_row id (rs ++ n ∷ [])) ≡ true
    go true rest = refl
    go false rest = rest

-- an id has this first value, which the getters read as it is, or no row
pub record HasFirst (id : Text) (rows : List Row) (value : Option Text) : Type 0 where
  pub first : first_of id rows ≡ value
  pub one : one_of id rows ≡ value
  pub has : has_row id rows ≡ is_some value

HasFirst-other : (id : Text) (n : Row) (rows : List Row) (value : Option Text) → bytes_eq n.id id ≡ false → HasFirst id rows value → HasFirst id (rows ++ n ∷ []) value
HasFirst-other id n rows value e h = record {
  first = read_by-other first_text id n rows e ∙ h.first;
  one = read_by-other row_text id n rows e ∙ h.one;
  has = has_row-other id n rows e ∙ h.has;
}

HasFirst-same : (id : Text) (n : Row) (rows : List Row) (v : Text) → bytes_eq n.id id ≡ true → has_row id rows ≡ false → first_text n ≡ Some v → row_text n ≡ Some v
    → HasFirst id (rows ++ n ∷ []) (Some v)
HasFirst-same id n rows v e none is_first is_one = record {
  first = read_by-same first_text id n rows e none ∙ is_first;
  one = read_by-same row_text id n rows e none ∙ is_one;
  has = has_row-same id n rows e;
}

-- what a use of `--totals` leaves in its row
abbrev pub said_totals : Bool → Option Text
said_totals said = cond said (Some (bool_text true)) None

-- each value is one that its option takes
abbrev pub AreFit : Values → Type 0
AreFit values = (o : Taker) (text : Text) → value_of o values ≡ Some text → fits o text ≡ true

-- the rows are those of what was said
pub record Holds (program query : Option Text) (values : Values) (rows : List Row) : Type 0 where
  pub at_program : HasFirst (codes "PROGRAM") rows program
  pub at_query : HasFirst (codes "QUERY") rows query
  pub at_value : (o : Taker) → HasFirst (name_of o) rows (value_of o values)
  pub at_totals : HasFirst (codes "totals") rows (said_totals values.totals)
  pub ordered : program ≡ None → query ≡ None
  pub fit : AreFit values

-- one use more
used_is : (id : Text) (how : How) (s : ValueSource) (vs : List Text) (rows : List Row) → has_row id rows ≡ false
    → with_values id how s vs (without id rows) ≡ rows ++ new_row id how s vs ∷ []
used_is id how s vs rows none = ap (with_values id how s vs) (without-none id rows none) ∙ with_values-none id how s vs rows none

-- an id that no option has is another one
values_other : (n : Row) (rows : List Row) (values : Values) → ((o : Taker) → bytes_eq n.id (name_of o) ≡ false) → ((o : Taker) → HasFirst (name_of o) rows (value_of o values))
    → (o : Taker) → HasFirst (name_of o) (rows ++ n ∷ []) (value_of o values)
values_other n rows values other at o = HasFirst-other _ n rows _ (other o) (at o)

pub program_used : (query : Option Text) (values : Values) (rows : List Row) (v : Text) → Holds None query values rows → Holds (Some v) query values (used program_built (v ∷ []) rows)
program_used query values rows v h =
    let e = used_is (codes "PROGRAM") _ _ (v ∷ []) rows h.at_program.has in
    let more : List Row → Type 0 = Holds (Some v) query values in
    subst more (sym e) (record {
      at_program = HasFirst-same _ _ rows v refl h.at_program.has refl refl;
      at_query = HasFirst-other _ _ rows query refl h.at_query;
      at_value = values_other _ rows values other h.at_value;
      at_totals = HasFirst-other _ _ rows _ refl h.at_totals;
      ordered = λ bad. absurd (true≢false (ap is_some bad));
      fit = h.fit;
    })
  where
    other : (o : Taker) → bytes_eq (codes "PROGRAM") (name_of o) ≡ false
    other budget = refl
    other workers = refl
    other recorded = refl
    other replay = refl

pub query_used : (p : Text) (values : Values) (rows : List Row) (v : Text) → Holds (Some p) None values rows → Holds (Some p) (Some v) values (used query_built (v ∷ []) rows)
query_used p values rows v h =
    let e = used_is (codes "QUERY") _ _ (v ∷ []) rows h.at_query.has in
    let more : List Row → Type 0 = Holds (Some p) (Some v) values in
    subst more (sym e) (record {
      at_program = HasFirst-other _ _ rows (Some p) refl h.at_program;
      at_query = HasFirst-same _ _ rows v refl h.at_query.has refl refl;
      at_value = values_other _ rows values other h.at_value;
      at_totals = HasFirst-other _ _ rows _ refl h.at_totals;
      ordered = λ bad. absurd (true≢false (ap is_some bad));
      fit = h.fit;
    })
  where
    other : (o : Taker) → bytes_eq (codes "QUERY") (name_of o) ≡ false
    other budget = refl
    other workers = refl
    other recorded = refl
    other replay = refl

-- ---- one value more

abbrev taken_rows : Taker → Text → List Row → List Row
taken_rows o v rows = used (built_of o) (v ∷ []) rows

abbrev taken_row : Taker → Text → Row
taken_row o v = new_row (name_of o) (how_of o) line (v ∷ [])

-- p is another option, and keeps its value
abbrev IsOther : Taker → Taker → Text → Values → Type 0
IsOther o p v values = (bytes_eq (name_of o) (name_of p) ≡ false) × (value_of p (with_value o v values) ≡ value_of p values)

-- p is the option, and has the value
abbrev IsSame : Taker → Taker → Text → Values → Type 0
IsSame o p v values = (o ≡ p) × (value_of p (with_value o v values) ≡ Some v)

other_or_same : (o p : Taker) (v : Text) (values : Values) → IsOther o p v values ⊎ IsSame o p v values
other_or_same budget budget v values = inr (refl, refl)
other_or_same budget workers v values = inl (refl, refl)
other_or_same budget recorded v values = inl (refl, refl)
other_or_same budget replay v values = inl (refl, refl)
other_or_same workers budget v values = inl (refl, refl)
other_or_same workers workers v values = inr (refl, refl)
other_or_same workers recorded v values = inl (refl, refl)
other_or_same workers replay v values = inl (refl, refl)
other_or_same recorded budget v values = inl (refl, refl)
other_or_same recorded workers v values = inl (refl, refl)
other_or_same recorded recorded v values = inr (refl, refl)
other_or_same recorded replay v values = inl (refl, refl)
other_or_same replay budget v values = inl (refl, refl)
other_or_same replay workers v values = inl (refl, refl)
other_or_same replay recorded v values = inl (refl, refl)
other_or_same replay replay v values = inr (refl, refl)

own_name : (o : Taker) → bytes_eq (name_of o) (name_of o) ≡ true
own_name budget = refl
own_name workers = refl
own_name recorded = refl
own_name replay = refl

own_text : (o : Taker) (v : Text) → row_text (taken_row o v) ≡ Some v
own_text budget v = refl
own_text workers v = refl
own_text recorded v = refl
own_text replay v = refl

-- the value is the one of its option, and each other option keeps its own
at_taken : (o : Taker) (values : Values) (rows : List Row) (v : Text) → value_of o values ≡ None → ((p : Taker) → HasFirst (name_of p) rows (value_of p values))
    → (p : Taker) → HasFirst (name_of p) (rows ++ taken_row o v ∷ []) (value_of p (with_value o v values))
at_taken o values rows v none at p = go (other_or_same o p v values)
  where
    more : List Row
    more = rows ++ taken_row o v ∷ []

    own : HasFirst (name_of o) more (Some v)
    own = HasFirst-same _ _ rows v (own_name o) ((at o).has ∙ ap is_some none) refl (own_text o v)

    go : IsOther o p v values ⊎ IsSame o p v values → HasFirst (name_of p) more (value_of p (with_value o v values))
    go (inl other) = subst (HasFirst (name_of p) more) (sym other.1) (HasFirst-other _ _ rows _ other.0 (at p))
    go (inr same) = subst (HasFirst (name_of p) more) (sym same.1) (subst (λ (q : Taker). HasFirst (name_of q) more (Some v)) same.0 own)

fit_taken : (o : Taker) (values : Values) (v : Text) → fits o v ≡ true → AreFit values → AreFit (with_value o v values)
fit_taken o values v is fit p text e = go (other_or_same o p v values)
  where
    go : IsOther o p v values ⊎ IsSame o p v values → fits p text ≡ true
    go (inl other) = fit p text (sym other.1 ∙ e)
    go (inr same) = ap₂ fits (sym same.0) (ap (λ x. unwrap_or x v) (sym e ∙ same.1)) ∙ is

totals_kept : (o : Taker) (v : Text) (values : Values) → values.totals ≡ (with_value o v values).totals
totals_kept budget v values = refl
totals_kept workers v values = refl
totals_kept recorded v values = refl
totals_kept replay v values = refl

taken_is : (o : Taker) (v : Text) (rows : List Row) → has_row (name_of o) rows ≡ false → taken_rows o v rows ≡ rows ++ taken_row o v ∷ []
taken_is budget v rows none = used_is (codes "budget") _ _ (v ∷ []) rows none
taken_is workers v rows none = used_is (codes "workers") _ _ (v ∷ []) rows none
taken_is recorded v rows none = used_is (codes "record") _ _ (v ∷ []) rows none
taken_is replay v rows none = used_is (codes "replay") _ _ (v ∷ []) rows none

pub value_used : (o : Taker) (program query : Option Text) (values : Values) (rows : List Row) (v : Text) → fits o v ≡ true → value_of o values ≡ None → Holds program query values rows
    → Holds program query (with_value o v values) (used (built_of o) (v ∷ []) rows)
value_used o program query values rows v is none h =
    let e = taken_is o v rows ((h.at_value o).has ∙ ap is_some none) in
    let more : List Row → Type 0 = Holds program query (with_value o v values) in
    subst more (sym e) (record {
      at_program = HasFirst-other _ _ rows program (other_program o) h.at_program;
      at_query = HasFirst-other _ _ rows query (other_query o) h.at_query;
      at_value = at_taken o values rows v none h.at_value;
      at_totals = HasFirst-other _ _ rows _ (other_totals o) (subst (λ b. HasFirst (codes "totals") rows (said_totals b)) (totals_kept o v values) h.at_totals);
      ordered = h.ordered;
      fit = fit_taken o values v is h.fit;
    })
  where
    other_program : (o : Taker) → bytes_eq (name_of o) (codes "PROGRAM") ≡ false
    other_program budget = refl
    other_program workers = refl
    other_program recorded = refl
    other_program replay = refl

    other_query : (o : Taker) → bytes_eq (name_of o) (codes "QUERY") ≡ false
    other_query budget = refl
    other_query workers = refl
    other_query recorded = refl
    other_query replay = refl

    other_totals : (o : Taker) → bytes_eq (name_of o) (codes "totals") ≡ false
    other_totals budget = refl
    other_totals workers = refl
    other_totals recorded = refl
    other_totals replay = refl

-- ---- the flag

pub no_option_is_totals : (o : Taker) → bytes_eq (codes "totals") (name_of o) ≡ false
no_option_is_totals budget = refl
no_option_is_totals workers = refl
no_option_is_totals recorded = refl
no_option_is_totals replay = refl

values_kept : (o : Taker) (values : Values) → value_of o values ≡ value_of o (with_totals values)
values_kept budget values = refl
values_kept workers values = refl
values_kept recorded values = refl
values_kept replay values = refl

pub totals_used : (program query : Option Text) (values : Values) (rows : List Row) → values.totals ≡ false → Holds program query values rows
    → Holds program query (with_totals values) (used totals_built [] rows)
totals_used program query values rows none h =
    let unused : has_row (codes "totals") rows ≡ false = h.at_totals.has ∙ ap (λ b. is_some (said_totals b)) none in
    let e = used_is (codes "totals") _ _ (bool_text true ∷ []) rows unused in
    let more : List Row → Type 0 = Holds program query (with_totals values) in
    subst more (sym e) (record {
      at_program = HasFirst-other _ _ rows program refl h.at_program;
      at_query = HasFirst-other _ _ rows query refl h.at_query;
      at_value = λ o. subst (HasFirst (name_of o) _) (values_kept o values) (HasFirst-other _ _ rows _ (no_option_is_totals o) (h.at_value o));
      at_totals = HasFirst-same _ _ rows (bool_text true) refl unused refl refl;
      ordered = h.ordered;
      fit = λ o text e. h.fit o text (values_kept o values ∙ e);
    })

-- what its default leaves
abbrev default_row : Row
default_row = new_row (codes "totals") (reading_by totals_built) DefaultValue (bool_text false ∷ [])

pub default_other : (id : Text) (rows : List Row) (value : Option Text) → bytes_eq (codes "totals") id ≡ false → HasFirst id rows value → HasFirst id (with_default rows totals_built) value
default_other id rows value other h = go (has_row (codes "totals") rows) refl
  where
    more : List Row → Type 0
    more rs = HasFirst id rs value

    go : (b : Bool) → has_row (codes "totals") rows ≡ b → more (cond (has_row (codes "totals") rows) rows (with_values (codes "totals") (reading_by totals_built) DefaultValue (bool_text false ∷ []) rows))
    go true e = rw e h
    go false e = rw e (subst more (sym (with_values-none (codes "totals") _ _ _ rows e)) (HasFirst-other id default_row rows value other h))

pub default_totals : (rows : List Row) (said : Bool) → HasFirst (codes "totals") rows (said_totals said) → one_of (codes "totals") (with_default rows totals_built) ≡ Some (bool_text said)
default_totals rows true h = rw h.has h.one
default_totals rows false h =
    rw h.has (ap (one_of (codes "totals")) (with_values-none (codes "totals") _ _ _ rows h.has)
    ∙ (HasFirst-same (codes "totals") default_row rows (bool_text false) refl h.has refl refl).one)
