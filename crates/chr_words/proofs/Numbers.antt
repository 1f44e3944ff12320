-- What a number is to clap and to std.
use Rattle.std.proofs.Common.{◌≡◌, ◌∙◌, ◌<◌, ◌≤◌, ◌^◌, ◌&&◌, ℕ, Bool, suc, true, false, refl, sym, ap, arith, List, [], ◌∷◌, Option, Some, None, Result, Ok, Err, nat_lt, true≢false, ltb-true, ltb-false}
use Rattle.std.specs.Prelude.{nat_le}
use Rattle.std.specs.List.{list_all}
use Rattle.std.specs.Char.{digit_value}
use Rattle.std.specs.Str.Parse.{AllDigits, IsNumeral, ParsesUnsigned, digits_value, without_leading_plus}
use Rattle.clap.specs.Matches.{ReadsOne}
use Rattle.clap.specs.ValueTests.{accepts, is_numeral}
use Rattle.clap.specs.declared.builder.value_parser.ValueParser.TheVariants as vp
use Rattle.std.proofs.lemmas.Bool.{le-leb, leb-true, lt-ltb}
use Rattle.chr_words.specs.Words.{is_below, number_of}

pub both : (a b : Bool) → (a && b) ≡ true → (a ≡ true) × (b ≡ true)
both true b e = (refl, e)
both false b e = absurd (true≢false (sym e))

digits_from : (ds : List ℕ) → list_all (λ d. nat_lt (digit_value d) 10) ds ≡ true → AllDigits 10 ds
digits_from [] e = tt
digits_from (d ∷ ds) e =
    let parts = both _ _ e in
    (ltb-true _ _ parts.0, digits_from ds parts.1)

pub number_is : (bound : ℕ) (text : List ℕ) → is_below bound text ≡ true → IsNumeral 10 (without_leading_plus text) × (digits_value 10 (without_leading_plus text) < bound)
number_is bound text e =
    let outer = both _ _ e in
    let inner = both _ _ outer.0 in
    ((ltb-true _ _ inner.0, digits_from _ inner.1), ltb-true _ _ outer.1)

-- a number of at most 64 bits, or 32, is read
pub number_read : {E : Type 0} (bits : ℕ) (gives : List ℕ → Result ℕ E → Type 0) (text : List ℕ) (r : Option ℕ)
    → ((x : Result ℕ E) → gives text x → ParsesUnsigned bits 10 text x) → ReadsOne gives text r → is_below (2 ^ bits) text ≡ true → r ≡ Some (number_of text)
number_read bits gives text (Some v) only h n = ap Some (only (Ok v) h).1
number_read bits gives text None only h n = absurd (only (Err h.0) h.1 (number_is (2 ^ bits) text n))

-- clap takes the same numbers, up to the greatest
pub accepts_is : (most : ℕ) → most < 2 ^ 64 → (text : List ℕ) → accepts false (vp.Unsigned 0 most) text ≡ is_below (suc most) text
accepts_is most small text = ap (λ b. is_numeral (without_leading_plus text) && b) (go (nat_lt n (suc most)) refl)
  where
    n : ℕ
    n = digits_value 10 (without_leading_plus text)

    go : (b : Bool) → nat_lt n (suc most) ≡ b → (nat_lt n (2 ^ 64) && (nat_le 0 n && nat_le n most)) ≡ b
    go true e =
        let below : n < suc most = ltb-true _ _ e in
        rw (lt-ltb n (2 ^ 64) (omega (arith, below, small)), le-leb 0 n (omega arith), le-leb n most (omega (arith, below))) refl
    go false e =
        let above : suc most ≤ n = ltb-false _ _ e in
        ap (λ b. nat_lt n (2 ^ 64) && (nat_le 0 n && b)) (none_above (nat_le n most) refl above) ∙ and_none (nat_lt n (2 ^ 64)) (nat_le 0 n)
      where
        none_above : (b : Bool) → nat_le n most ≡ b → suc most ≤ n → b ≡ false
        none_above true e above = absurd (omega (arith, leb-true _ _ e, above))
        none_above false e above = refl

        and_none : (a b : Bool) → (a && (b && false)) ≡ false
        and_none true true = refl
        and_none true false = refl
        and_none false b = refl
