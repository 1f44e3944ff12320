-- What is answered to words.
use Rattle.std.specs.Prelude.{◌^◌, ◌≡◌, ◌≢◌, ℕ, Bool, true, false, List, Option, Some, None, codes, option_map}
use Rattle.clap.specs.Matches.{first_value, one_text}
use Rattle.clap.specs.Values.{bool_text}
use Rattle.clap.specs.declared.error.kind.ErrorKind.{ErrorKind}
use Rattle.clap.specs.declared.error.kind.ErrorKind.TheVariants as kind
use Rattle.clap.specs.declared.parser.matches.Found.{Found}
use Rattle.chr_words.specs.Words.{RunWords, asks_of, help, is_below, number_of, refused, run, version}
use Rattle.chr_words.specs.declared.words.Request.{Request}
use Rattle.chr_words.specs.declared.words.Request.TheVariants.{Run, Help, Version, Refused}

-- the answer is what the words ask for
abbrev pub IsAnswer : List (List ℕ) → Request → Type 0
IsAnswer words (Run program query budget workers recorded replay totals) = (run_words : RunWords) × (asks_of words ≡ run run_words)
    × (option_map (λ t. t.now) program ≡ run_words.program) × (option_map (λ t. t.now) query ≡ run_words.query)
    × (budget ≡ option_map number_of run_words.values.budget) × (workers ≡ option_map number_of run_words.values.workers)
    × (option_map (λ t. t.now) recorded ≡ run_words.values.recorded) × (option_map (λ t. t.now) replay ≡ run_words.values.replay) × (totals ≡ run_words.values.totals)
IsAnswer words (Help text) = asks_of words ≡ help
IsAnswer words Version = asks_of words ≡ version
IsAnswer words (Refused text) = asks_of words ≡ refused

-- the number of an option, read from its text where that is a number below this bound
abbrev pub ReadsBelow : ℕ → Option (List ℕ) → Option ℕ → Type 0
ReadsBelow bound None number = number ≡ None
ReadsBelow bound (Some text) number = is_below bound text ≡ true → number ≡ Some (number_of text)

-- the flag, read from its text
abbrev pub ReadsFlag : Option (List ℕ) → Bool → Type 0
ReadsFlag text flag = (said : Bool) → text ≡ Some (bool_text said) → flag ≡ said

-- the answer is a run, of what was found
abbrev pub IsRead : Found → Request → Type 0
IsRead found (Run program query budget workers recorded replay totals) = (option_map (λ t. t.now) program ≡ first_value found (codes "PROGRAM"))
    × (option_map (λ t. t.now) query ≡ first_value found (codes "QUERY")) × ReadsBelow (2 ^ 64) (one_text found (codes "budget")) budget
    × ReadsBelow (2 ^ 32) (one_text found (codes "workers")) workers × (option_map (λ t. t.now) recorded ≡ first_value found (codes "record"))
    × (option_map (λ t. t.now) replay ≡ first_value found (codes "replay")) × ReadsFlag (one_text found (codes "totals")) totals
IsRead found _ = ⊥

-- the answer is what is said of an error of this kind
abbrev pub IsRefusal : ErrorKind → Request → Type 0
IsRefusal k (Run program query budget workers recorded replay totals) = ⊥
IsRefusal k (Help text) = k ≡ kind.DisplayHelp
IsRefusal k Version = ⊥
IsRefusal k (Refused text) = (k ≢ kind.DisplayHelp) × (k ≢ kind.OutOfMemory)

-- the answer is the run of this program and this query, and no option is said
abbrev pub IsRun : Option (List ℕ) → Option (List ℕ) → Request → Type 0
IsRun wanted asked (Run program query budget workers recorded replay totals) =
    (option_map (λ t. t.now) program ≡ wanted) × (option_map (λ t. t.now) query ≡ asked) × (budget ≡ None) × (workers ≡ None)
    × (option_map (λ t. t.now) recorded ≡ None) × (option_map (λ t. t.now) replay ≡ None) × (totals ≡ false)
IsRun wanted asked _ = ⊥
