-- What stands first in a text, by its first character and what it is.
use Rattle.std.proofs.Common.{◌≡◌, ℕ, ◌+◌, ◌-◌, ◌∙◌, ap, ◌≢◌, ◌≤◌, Bool, true, false, List, [], ◌∷◌, codes, drop, get_or, length, take, arith, refl}
use Rattle.std.proofs.lemmas.Bool.{ne_eqb}
use Rattle.std.proofs.lemmas.List.{take_all}
use Rattle.std.specs.Char.{is_ascii_digit, is_whitespace}
use Rattle.unicode_ident.specs.Ident.{is_xid_continue}
use Rattle.chr_semantics.specs.Tokens.{begins, blank, is_in_line, number_piece, piece, run_len, starts_word, token, word_token}

-- the character comes first in the text, and the others after it
pub record Begins (text : List ℕ) (c : ℕ) (others : List ℕ) : Type 0 where
  pub some : 1 ≤ length text
  pub is : c ≡ get_or text 0 c
  pub others_are : others ≡ take (length text - 1) (drop 1 text)

-- the others are what stands after the first character, and a number of them and the first one are within the text
others_of : (d : ℕ) (cs others : List ℕ) → others ≡ take (length (d ∷ cs) - 1) cs → others ≡ cs
others_of d cs others e = e ∙ take_all (length (d ∷ cs) - 1) cs (omega arith)

pub within : (text : List ℕ) (c : ℕ) (others : List ℕ) (n : ℕ) → Begins text c others → n ≤ length others → n + 1 ≤ length text
within [] c others n first h = absurd (omega (arith, first.some))
within (d ∷ cs) c others n first h = let o = ap length (others_of d cs others first.others_are) in omega (arith, o, h)

-- a comment up to the end of its line, a word, and a number
pub line_first : (signed : Bool) (text : List ℕ) (c : ℕ) (others : List ℕ) → Begins text c others → is_whitespace c ≡ false → c ≡ 37 → piece signed text ≡ blank (run_len is_in_line others + 1)
unfolding piece
line_first signed [] c others first w is = absurd (omega (arith, first.some))
line_first signed (d ∷ cs) c others first w is = let e : d ≡ 37 = omega (arith, first.is, is) in let v = rw first.is at w in let o = others_of d cs others first.others_are in rw (v, e, o) (refl {a = blank (run_len is_in_line cs + 1)})

pub word_first : (signed : Bool) (text : List ℕ) (c : ℕ) (others : List ℕ) → Begins text c others → is_whitespace c ≡ false → c ≢ 37 → begins (codes "/*") text ≡ false → starts_word c ≡ true → piece signed text ≡ token (word_token (take (run_len is_xid_continue others + 1) text)) (run_len is_xid_continue others + 1)
unfolding piece
word_first signed [] c others first w p b is = absurd (omega (arith, first.some))
word_first signed (d ∷ cs) c others first w p b is = let v = rw first.is at w in let q = rw first.is at (ne_eqb c 37 p) in let s = rw first.is at is in let o = others_of d cs others first.others_are in rw (v, q, b, s, o) refl

pub number_first : (signed : Bool) (text : List ℕ) (c : ℕ) (others : List ℕ) → Begins text c others → is_whitespace c ≡ false → c ≢ 37 → begins (codes "/*") text ≡ false → starts_word c ≡ false → is_ascii_digit c ≡ true → piece signed text ≡ number_piece signed (take (run_len is_ascii_digit others + 1) text)
unfolding piece
number_first signed [] c others first w p b s is = absurd (omega (arith, first.some))
number_first signed (d ∷ cs) c others first w p b s is = let v = rw first.is at w in let q = rw first.is at (ne_eqb c 37 p) in let t = rw first.is at s in let n = rw first.is at is in let o = others_of d cs others first.others_are in rw (v, q, b, t, n, o) refl
