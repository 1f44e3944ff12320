-- The answer is what the words ask for.
use Rattle.std.proofs.Common.{◌≡◌, ◌∙◌, ℕ, Bool, true, false, sym, ap, subst, List, [], ◌∷◌, Option, Some, None, codes, true≢false, inl, inr}
use Rattle.std.specs.Prelude.{◌^◌, ◌⊎◌, if◌then◌else◌, is_some, option_map}
use Rattle.clap.specs.Kinds.{IsAmong, Kinds}
use Rattle.clap.specs.Faults.{fault_of}
use Rattle.clap.specs.Matches.{first_value, one_text}
use Rattle.clap.specs.Simple.{matches_of}
use Rattle.clap.specs.Walk.{Text, first_of, one_of, rows_of}
use Rattle.clap.proofs.WalkLemmas.{first_value-rows, one_text-rows}
use Rattle.clap.specs.declared.error.kind.ErrorKind.{ErrorKind}
use Rattle.clap.specs.declared.error.kind.ErrorKind.TheVariants as kind
use Rattle.clap.specs.declared.parser.matches.Found.{Found}
use Rattle.chr_words.specs.declared.words.Request.{Request}
use Rattle.chr_words.specs.declared.words.Request.TheVariants.{Run, Help, Version, Refused}
use Rattle.chr_words.specs.App.{chr_app}
use Rattle.chr_words.specs.Answer.{IsAnswer, IsRead, IsRefusal, ReadsBelow}
use Rattle.chr_words.specs.Words.{Asks, RunWords, asks_of, asks_read, budget, help, is_below, is_version, number_of, refused, run, version, workers}
use Rattle.chr_words.proofs.Turns.{Shows, are_wrong, is_wrong}
use Rattle.chr_words.proofs.Walked.{IsParsedAs, all_parsed}

-- a number is the value of its option
number_of_is : (bound : ℕ) (found said : Option Text) (n : Option ℕ) → found ≡ said → ((text : Text) → said ≡ Some text → is_below bound text ≡ true) → ReadsBelow bound found n
    → n ≡ option_map number_of said
number_of_is bound None None n e fit read = read
number_of_is bound None (Some text) n e fit read = absurd (true≢false (ap is_some (sym e)))
number_of_is bound (Some x) None n e fit read = absurd (true≢false (ap is_some e))
number_of_is bound (Some x) (Some text) n e fit read = read (fit x (sym e)) ∙ ap (option_map number_of) e

shown : (words : List Text) (f : Found) (run_words : RunWords) (r : Request) → asks_of words ≡ run run_words → rows_of f ≡ matches_of chr_app words → Shows run_words (matches_of chr_app words)
    → IsRead f r → IsAnswer words r
shown words f run_words (Run program query b w c p t) asks rows shows read = (
  run_words,
  asks,
  read.0 ∙ first (codes "PROGRAM") ∙ shows.program,
  read.1 ∙ first (codes "QUERY") ∙ shows.query,
  number_of_is (2 ^ 64) _ run_words.values.budget b (one (codes "budget") ∙ shows.budget) (shows.fit budget) read.2,
  number_of_is (2 ^ 32) _ run_words.values.workers w (one (codes "workers") ∙ shows.workers) (shows.fit workers) read.3,
  read.4 ∙ first (codes "record") ∙ shows.recorded,
  read.5 ∙ first (codes "replay") ∙ shows.replay,
  read.6 run_words.values.totals (one (codes "totals") ∙ shows.totals),
)
  where
    first : (id : Text) → first_value f id ≡ first_of id (matches_of chr_app words)
    first id = first_value-rows f id ∙ ap (first_of id) rows

    one : (id : Text) → one_text f id ≡ one_of id (matches_of chr_app words)
    one id = one_text-rows f id ∙ ap (one_of id) rows
shown words f run_words (Help text) asks rows shows read = absurd read
shown words f run_words Version asks rows shows read = absurd read
shown words f run_words (Refused text) asks rows shows read = absurd read

abbrev some_kind : Kinds → Bool
some_kind [] = false
some_kind (k ∷ ks) = true

-- where `--version` does not stand alone, all words are read
all_read : (words : List Text) → is_version words ≡ false → asks_of words ≡ asks_read words
all_read words other = ap (λ is. if is then version else asks_read words) other

-- words that clap takes
pub answered_run : (words : List Text) (f : Found) (r : Request) → is_version words ≡ false → fault_of chr_app words ≡ [] → rows_of f ≡ matches_of chr_app words → IsRead f r
    → IsAnswer words r
answered_run words f r other fine rows read = go (asks_read words) (all_read words other) (all_parsed words)
  where
    go : (a : Asks) → asks_of words ≡ a → IsParsedAs a words → IsAnswer words r
    go (run run_words) asks parsed = shown words f run_words r asks rows parsed.1 read
    go help asks parsed = absurd (true≢false (ap some_kind (sym parsed ∙ fine)))
    go version asks parsed = absurd parsed
    go refused asks parsed = absurd (true≢false (sym parsed ∙ ap are_wrong fine))

abbrev is_memory : ErrorKind → Bool
is_memory kind.OutOfMemory = true
is_memory _ = false

abbrev is_help : ErrorKind → Bool
is_help kind.DisplayHelp = true
is_help _ = false

-- an error that is not `Memory` has the kind of the fault
kind_among : (kinds : Kinds) (k : ErrorKind) → (k ≡ kind.OutOfMemory) ⊎ IsAmong k kinds → is_memory k ≡ false → IsAmong k kinds
kind_among kinds k (inl e) not_memory = absurd (true≢false (sym (ap is_memory e) ∙ not_memory))
kind_among kinds k (inr among) not_memory = among

-- where the kind is that of a refusal, no one asked for help
not_wrong : (kinds : Kinds) (k : ErrorKind) → IsAmong k kinds → are_wrong kinds ≡ true → is_wrong k ≡ true
not_wrong [] k among wrong = absurd among
not_wrong (x ∷ []) k (inl e) wrong = ap is_wrong e ∙ wrong
not_wrong (x ∷ []) k (inr among) wrong = absurd among
not_wrong (x ∷ y ∷ more) k among wrong = absurd (true≢false (sym wrong))

among_at : (k : ErrorKind) (a b : Kinds) → a ≡ b → IsAmong k a → IsAmong k b
among_at k a b e among = subst (λ (kinds : Kinds). IsAmong k kinds) e among

-- words at which clap gives an error
pub answered_refusal : (words : List Text) (k : ErrorKind) (r : Request) → is_version words ≡ false → (k ≡ kind.OutOfMemory) ⊎ IsAmong k (fault_of chr_app words) → IsRefusal k r
    → IsAnswer words r
answered_refusal words k (Run program query b w c p t) other has says = absurd says
answered_refusal words k Version other has says = absurd says
answered_refusal words k (Help text) other has says = go (asks_read words) (all_read words other) (all_parsed words)
  where
    among : IsAmong k (fault_of chr_app words)
    among = kind_among (fault_of chr_app words) k has (ap is_memory says)

    go : (a : Asks) → asks_of words ≡ a → IsParsedAs a words → asks_of words ≡ help
    go (run run_words) asks parsed = absurd (among_at k _ [] parsed.0 among)
    go help asks parsed = asks
    go version asks parsed = absurd parsed
    go refused asks parsed = absurd (true≢false (sym (not_wrong (fault_of chr_app words) k among parsed) ∙ ap is_wrong says))
answered_refusal words k (Refused text) other has says = go (asks_read words) (all_read words other) (all_parsed words) has
  where
    only_help : IsAmong k (kind.DisplayHelp ∷ []) → ⊥
    only_help (inl e) = says.0 e
    only_help (inr e) = e

    go : (a : Asks) → asks_of words ≡ a → IsParsedAs a words → (k ≡ kind.OutOfMemory) ⊎ IsAmong k (fault_of chr_app words) → asks_of words ≡ refused
    go a asks parsed (inl e) = absurd (says.1 e)
    go (run run_words) asks parsed (inr among) = absurd (among_at k _ [] parsed.0 among)
    go help asks parsed (inr among) = absurd (only_help (among_at k _ (kind.DisplayHelp ∷ []) parsed among))
    go version asks parsed (inr among) = absurd parsed
    go refused asks parsed (inr among) = asks
