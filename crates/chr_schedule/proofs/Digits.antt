-- The values of digits.
use Rattle.std.proofs.Common.{◌≡◌, ℕ, suc, ◌+◌, ◌-◌, ◌*◌, ◌<◌, ◌≤◌, Bool, false, ◌==◌, List, [], ◌∷◌, length, drop, get_or, Some, None, arith, ap, refl, ◌∙◌}
use Rattle.std.proofs.Math.ListN.{drop_of_length-le}
use Rattle.std.specs.List.{list_all}
use Rattle.std.specs.Char.{is_ascii_digit}
use Rattle.std.proofs.lemmas.Bool.{le-leb, lt-leb, lt-ltb}
use Rattle.std.proofs.lemmas.List.{drop_more}
use Rattle.chr_semantics.specs.Tokens.{digits_value}
use Rattle.chr_semantics.specs.ScheduleText.{are_digits}
use Rattle.chr_semantics.specs.declared.limits.TheConstants.{MAX_SCHEDULE_NUMBER}
use Rattle.chr_schedule.specs.Numbers.{value_of}

-- digits of a word that is not empty
pub some_digits : (w : List ℕ) (all : Bool) → (length w == 0) ≡ false → all ≡ list_all is_ascii_digit w → all ≡ are_digits w
some_digits [] all some is = cc
some_digits (b ∷ bs) all some is = rw (lt-ltb 0 (suc (length bs)) (omega arith)) is

-- further digits make no value less
digits_value-grows : (v : ℕ) (ds : List ℕ) → v ≤ digits_value v ds
digits_value-grows v [] = omega arith
digits_value-grows v (d ∷ ds) = omega (arith, digits_value-grows (v * 10 + (d - 48)) ds)

-- the value of all digits
pub value_read : (ds : List ℕ) (i v : ℕ) → length ds ≤ i → digits_value 0 ds ≡ digits_value v (drop i ds) → v ≤ MAX_SCHEDULE_NUMBER → Some v ≡ value_of ds
value_read ds i v h e small =
    let is : digits_value 0 ds ≡ v = e ∙ ap (digits_value v) (drop_of_length-le ds h) in
    rw (is, le-leb v MAX_SCHEDULE_NUMBER small) refl

-- with the next digit the value is too large already
pub value_too_large : (ds : List ℕ) (i v : ℕ) → i < length ds → digits_value 0 ds ≡ digits_value v (drop i ds) → (v * 10 + (get_or ds i 0 - 48) ≤ MAX_SCHEDULE_NUMBER → ⊥) → None ≡ value_of ds
value_too_large ds i v h e large =
    let next : ℕ = v * 10 + (get_or ds i 0 - 48) in
    let is : digits_value 0 ds ≡ digits_value next (drop (i + 1) ds) = e ∙ ap (digits_value v) (drop_more ds i 0 h) in
    let over : MAX_SCHEDULE_NUMBER < digits_value 0 ds = omega (arith, digits_value-grows next (drop (i + 1) ds), is, large) in
    rw (lt-leb (digits_value 0 ds) MAX_SCHEDULE_NUMBER over) refl
