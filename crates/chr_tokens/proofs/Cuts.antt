-- The steps of the tokens of a text: past what is no part of a token, past a token, and the two ends.
use Rattle.std.proofs.Common.{◌≡◌, ℕ, zero, suc, ◌+◌, ◌<◌, Bool, false, List, [], ◌∷◌, ◌++◌, length, take, drop, arith, append_assoc, length-drop, sym, refl}
use Rattle.chr_semantics.specs.Tokens.{Place, Placed, at, Token, over, fault, Fault, ended, blank, token, broken, advance, first_place, is_minus, piece, tokens, tokens_within}
use Rattle.chr_tokens.specs.Pieces.{IsLen}

-- The tokens of a text are those that are found and those of the rest, which some number of pieces is enough for.
abbrev pub Reading : List Placed → List Placed → Bool → Place → List ℕ → Type 0
Reading whole found signed p rest = (k : ℕ) × (length rest < k) × (whole ≡ found ++ tokens_within k signed p rest)

-- What is left after n characters, and its place.
pub record Cut (rest : List ℕ) (p : Place) (n : ℕ) (left : List ℕ) (q : Place) : Type 0 where
  pub len : IsLen rest n
  pub rest_is : left ≡ drop n rest
  pub place_is : q ≡ advance p (take n rest)

pub start : (text : List ℕ) → Reading (tokens text) [] false first_place text
start text = (length text + 1, omega arith, refl)

pub skip : (whole found : List Placed) (signed : Bool) (p q : Place) (rest left : List ℕ) (n : ℕ) → Reading whole found signed p rest → piece signed rest ≡ blank n → Cut rest p n left q → Reading whole found false q left
skip whole found signed p q rest left n (zero, h, e) s c = absurd (omega arith)
skip whole found signed p q rest left n (suc k, h, e) s c = rw (c.rest_is, c.place_is) (k, omega (arith, length-drop n rest, c.len.0, c.len.1), rw s at e)

pub take_one : (whole found : List Placed) (signed : Bool) (p q : Place) (rest left : List ℕ) (t : Token) (n : ℕ) → Reading whole found signed p rest → piece signed rest ≡ token t n → Cut rest p n left q → Reading whole (found ++ at p t ∷ []) (is_minus t) q left
take_one whole found signed p q rest left t n (zero, h, e) s c = absurd (omega arith)
take_one whole found signed p q rest left t n (suc k, h, e) s c = rw (c.rest_is, c.place_is) (k, omega (arith, length-drop n rest, c.len.0, c.len.1), rw append_assoc (rw s at e))

pub done : (whole found : List Placed) (signed : Bool) (p : Place) (rest : List ℕ) → Reading whole found signed p rest → piece signed rest ≡ ended → found ++ at p over ∷ [] ≡ whole
done whole found signed p rest (zero, h, e) s = absurd (omega arith)
done whole found signed p rest (suc k, h, e) s = sym (rw s at e)

pub stop : (whole found : List Placed) (signed : Bool) (p : Place) (rest : List ℕ) (f : Fault) → Reading whole found signed p rest → piece signed rest ≡ broken f → found ++ at p (fault f) ∷ [] ≡ whole
stop whole found signed p rest f (zero, h, e) s = absurd (omega arith)
stop whole found signed p rest f (suc k, h, e) s = sym (rw s at e)
