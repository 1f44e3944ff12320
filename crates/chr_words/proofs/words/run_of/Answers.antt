-- A number is read where clap took it.
use Rattle.std.proofs.Common.{◌≡◌, ◌^◌, ℕ, List, Option, Some, None, Result, Bool, true, false, codes, refl}
use Rattle.std.specs.Str.Parse.{ParsesUnsigned, ExplainsUnsignedError, HasUnsignedDigitsIfOk}
use Rattle.clap.specs.Matches.{ReadsOne}
use Rattle.chr_words.specs.Answer.{ReadsBelow, ReadsFlag}
use Rattle.chr_words.proofs.Numbers.{number_read}
use Rattle.chr_words.proofs.words.run_of.Goals as goal

module _ {E : Type 0} (bits : ℕ) (gives : List ℕ → Result ℕ E → Type 0) (only : (text : List ℕ) (x : Result ℕ E) → gives text x → ParsesUnsigned bits 10 text x) where
  reads_below : (found : Option (List ℕ)) (n : Option ℕ) → (found ≡ None → n ≡ None) → ((text : List ℕ) → found ≡ Some text → ReadsOne gives text n) → ReadsBelow (2 ^ bits) found n
  reads_below None n none value = none refl
  reads_below (Some text) n none value = number_read bits gives text n (only text) (value text refl)

reads_flag : (found : Option (List ℕ)) (flag : Bool) → (found ≡ Some (codes "true") → flag ≡ true) → (found ≡ Some (codes "false") → flag ≡ false) → ReadsFlag found flag
reads_flag found flag set unset true e = set e
reads_flag found flag set unset false e = unset e

pub returns : goal.returns
returns c = (
  c.get_str.ensures,
  c.get_str-2.ensures,
  reads_below 64 (λ bs r. ParsesUnsigned 64 10 bs r × ExplainsUnsignedError 10 bs r × HasUnsignedDigitsIfOk bs r) (λ text x g. g.0) _ c.get_one.result c.get_one.ensures.none c.get_one.ensures.value,
  reads_below 32 (λ bs r. ParsesUnsigned 32 10 bs r × ExplainsUnsignedError 10 bs r × HasUnsignedDigitsIfOk bs r) (λ text x g. g.0) _ c.get_one-2.result c.get_one-2.ensures.none c.get_one-2.ensures.value,
  c.get_str-3.ensures,
  c.get_str-4.ensures,
  reads_flag _ c.get_flag.result c.get_flag.ensures.value c.get_flag.ensures.other,
)
