-- Tokens stand one behind the other, so that a place tells which token it is.
use Rattle.std.proofs.Common.{◌≡◌, ◌∙◌, ◌⊎◌, ℕ, zero, suc, ◌+◌, ◌<◌, ◌==◌, Bool, true, false, List, [], ◌∷◌, ◌++◌, length, take, drop, arith, sym, refl, ap, subst, if◌then◌else◌, inl, inr, Option, Some, None, codes, nat_le, nat_lt, ◌&&◌, true≢false}
use Rattle.std.specs.Str.{byte}
use Rattle.std.specs.Char.{is_whitespace, is_ascii_digit}
use Rattle.std.specs.List.{list_all}
use Rattle.chr_semantics.specs.Value.{max_magnitude}
use Rattle.unicode_ident.specs.Ident.{is_xid_continue}
use Rattle.chr_semantics.specs.Tokens.{Place, Placed, at, Token, Piece, ended, blank, token, broken, too_large, after, advance, begins, comment, comment_len, digits_value, ends, first_place, is_in_line, is_minus, number_piece, numeral, onward, piece, run_len, sign, sign_among, sign_piece, signs, starts_word, stop, tokens, tokens_within, word_token}

-- a place stands before another, or is not behind it
abbrev pub Before : Place → Place → Type 0
Before p q = (p.line < q.line) ⊎ ((p.line ≡ q.line) × (p.column < q.column))

abbrev pub NotBehind : Place → Place → Type 0
NotBehind p q = (p ≡ q) ⊎ Before p q

before_before : (p q r : Place) → Before p q → Before q r → Before p r
before_before p q r (inl h) (inl k) = inl (omega (arith, h, k))
before_before p q r (inl h) (inr k) = inl (omega (arith, h, k.0))
before_before p q r (inr h) (inl k) = inl (omega (arith, h.0, k))
before_before p q r (inr h) (inr k) = inr (h.0 ∙ k.0, omega (arith, h.1, k.1))

not_before_itself : (p : Place) → Before p p → ⊥
not_before_itself p (inl h) = absurd (omega (arith, h))
not_before_itself p (inr h) = absurd (omega (arith, h.1))

-- characters move a place on
before_step : (p : Place) (b : Bool) → Before p (if b then record { line = p.line + 1; column = 1 } else record { line = p.line; column = p.column + 1 })
before_step p true = inl (omega arith)
before_step p false = inr (refl, omega arith)

before_advance : (p : Place) (c : ℕ) (cs : List ℕ) → Before p (advance p (c ∷ cs))
before_advance p c [] = before_step p (c == byte "\n")
before_advance p c (d ∷ cs) = before_before p (after p c) (advance (after p c) (d ∷ cs)) (before_step p (c == byte "\n")) (before_advance (after p c) d cs)

before_taken : (p : Place) (n : ℕ) (c : ℕ) (cs : List ℕ) → 0 < n → Before p (advance p (take n (c ∷ cs)))
before_taken p zero c cs h = absurd (omega (arith, h))
before_taken p (suc n) c cs h = before_advance p c (take n cs)

-- what stands first in a text that is not at its end has a character at least
abbrev Moves : Piece → Type 0
Moves ended = Unit {0}
Moves (blank n) = 0 < n
Moves (token t n) = 0 < n
Moves (broken f) = Unit {0}

moves_if : (b : Bool) (x y : Piece) → Moves x → Moves y → Moves (if b then x else y)
moves_if true x y h k = h
moves_if false x y h k = k

moves_comment : (n : Option ℕ) → Moves (comment n)
moves_comment None = tt
moves_comment (Some n) = omega arith

both : (a b : Bool) → (a && b) ≡ true → (a ≡ true) × (b ≡ true)
both true b h = (refl, h)
both false b h = absurd (true≢false (sym h))

positive : (n : ℕ) → nat_lt 0 n ≡ true → 0 < n
positive zero h = absurd (true≢false (sym h))
positive (suc n) h = omega arith

moves_among : (ss : List (List ℕ × Token)) (cs : List ℕ) → list_all (λ (s : List ℕ × Token). nat_lt 0 (length s.0)) ss ≡ true → Moves (sign_among ss cs)
moves_among [] cs h = tt
moves_among (s ∷ ss) cs h =
    let both_are = both (nat_lt 0 (length s.0)) (list_all (λ (s : List ℕ × Token). nat_lt 0 (length s.0)) ss) h in
    moves_if (begins s.0 cs) (token s.1 (length s.0)) (sign_among ss cs) (positive (length s.0) both_are.0) (moves_among ss cs both_are.1)

moves_number : (signed : Bool) (c : ℕ) (cs : List ℕ) → Moves (number_piece signed (c ∷ cs))
moves_number signed c cs = moves_if (nat_le (digits_value 0 (c ∷ cs)) max_magnitude) (token (numeral signed (digits_value 0 (c ∷ cs))) (length (c ∷ cs))) (broken too_large) (omega arith) tt

moves_sign : (cs : List ℕ) → Moves (sign_piece cs)
moves_sign cs = moves_if (begins (codes ".") cs && ends (drop 1 cs)) (token (sign stop) 1) (sign_among signs cs) (omega arith) (moves_among signs cs refl)

moves : (signed : Bool) (c : ℕ) (cs : List ℕ) → Moves (piece signed (c ∷ cs))
unfolding piece
moves signed c cs =
    let number = moves_if (is_ascii_digit c) (number_piece signed (take (run_len is_ascii_digit cs + 1) (c ∷ cs))) (sign_piece (c ∷ cs)) (moves_digits (run_len is_ascii_digit cs)) (moves_sign (c ∷ cs)) in
    let word = moves_if (starts_word c) (token (word_token (take (run_len is_xid_continue cs + 1) (c ∷ cs))) (run_len is_xid_continue cs + 1)) (if is_ascii_digit c then number_piece signed (take (run_len is_ascii_digit cs + 1) (c ∷ cs)) else sign_piece (c ∷ cs)) (omega arith) number in
    let inside = moves_if (begins (codes "/*") (c ∷ cs)) (comment (comment_len (drop 2 (c ∷ cs)))) _ (moves_comment (comment_len (drop 2 (c ∷ cs)))) word in
    moves_if (is_whitespace c) (blank 1) _ (omega arith) (moves_if (c == byte "%") (blank (run_len is_in_line cs + 1)) _ (omega arith) inside)
  where
    moves_digits : (n : ℕ) → Moves (number_piece signed (take (n + 1) (c ∷ cs)))
    moves_digits n = let one_more : suc n ≡ n + 1 = omega arith in subst (λ (k : ℕ). Moves (number_piece signed (take k (c ∷ cs)))) one_more (moves_number signed c (take n cs))

ended_at_end : (signed : Bool) → piece signed [] ≡ ended
unfolding piece
ended_at_end signed = refl

-- each token stands behind the one before
abbrev pub Ascend : Place → List Placed → Type 0
Ascend p [] = Unit {0}
Ascend p (at q t ∷ ts) = Before p q × Ascend q ts

abbrev pub AscendFrom : Place → List Placed → Type 0
AscendFrom p [] = Unit {0}
AscendFrom p (at q t ∷ ts) = NotBehind p q × Ascend q ts

ascend_behind : (p q : Place) (ts : List Placed) → Before p q → AscendFrom q ts → Ascend p ts
ascend_behind p q [] h k = tt
ascend_behind p q (at r t ∷ ts) h k = (behind k.0, k.1)
  where
    behind : NotBehind q r → Before p r
    behind (inl e) = subst (Before p) e h
    behind (inr b) = before_before p q r h b

ascend_from : (p q : Place) (ts : List Placed) → Before p q → AscendFrom q ts → AscendFrom p ts
ascend_from p q [] h k = tt
ascend_from p q (at r t ∷ ts) h k = let a = ascend_behind p q (at r t ∷ ts) h k in (inr a.0, a.1)

ascend_onward : (p : Place) (c : ℕ) (cs : List ℕ) (x : Piece) (behind : Bool → ℕ → List Placed) → Moves x
    → ((signed : Bool) (n : ℕ) → AscendFrom (advance p (take n (c ∷ cs))) (behind signed n)) → AscendFrom p (onward p x behind)
ascend_onward p c cs ended behind m h = (inl refl, tt)
ascend_onward p c cs (blank n) behind m h = ascend_from p (advance p (take n (c ∷ cs))) (behind false n) (before_taken p n c cs m) (h false n)
ascend_onward p c cs (token t n) behind m h = (inl refl, ascend_behind p (advance p (take n (c ∷ cs))) (behind (is_minus t) n) (before_taken p n c cs m) (h (is_minus t) n))
ascend_onward p c cs (broken f) behind m h = (inl refl, tt)

ascend_within : (k : ℕ) (signed : Bool) (p : Place) (cs : List ℕ) → AscendFrom p (tokens_within k signed p cs)
ascend_within zero signed p cs = tt
ascend_within (suc k) signed p [] = rw (ended_at_end signed) (inl refl, tt)
ascend_within (suc k) signed p (c ∷ cs) =
    ascend_onward p c cs (piece signed (c ∷ cs)) (λ signed' n. tokens_within k signed' (advance p (take n (c ∷ cs))) (drop n (c ∷ cs))) (moves signed c cs)
    (λ signed' n. ascend_within k signed' (advance p (take n (c ∷ cs))) (drop n (c ∷ cs)))

-- the place of the last token
abbrev last_place : Place → List Placed → Place
last_place p [] = p
last_place p (at q t ∷ ts) = last_place q ts

before_last : (p q : Place) (t : Token) (ts : List Placed) → Ascend p (at q t ∷ ts) → Before p (last_place q ts)
before_last p q t [] h = h.0
before_last p q t (at r u ∷ ts) h = before_before p q (last_place r ts) h.0 (before_last q r u ts h.1)

last_of : (p q : Place) (t : Token) (us : List Placed) → last_place p (us ++ at q t ∷ []) ≡ q
last_of p q t [] = refl
last_of p q t (at r u ∷ us) = last_of r q t us

last_behind : (p q : Place) (t : Token) (ts rest : List Placed) → last_place p (ts ++ at q t ∷ rest) ≡ last_place q rest
last_behind p q t [] rest = refl
last_behind p q t (at r u ∷ ts) rest = last_behind r q t ts rest

ascend_rest : (p q : Place) (t : Token) (ts rest : List Placed) → Ascend p (ts ++ at q t ∷ rest) → Ascend q rest
ascend_rest p q t [] rest h = h.1
ascend_rest p q t (at r u ∷ ts) rest h = ascend_rest r q t ts rest h.1

ascend_rest_from : (p q : Place) (t : Token) (ts rest : List Placed) → AscendFrom p (ts ++ at q t ∷ rest) → Ascend q rest
ascend_rest_from p q t [] rest h = h.1
ascend_rest_from p q t (at r u ∷ ts) rest h = ascend_rest r q t ts rest h.1

none_behind : (p : Place) (rest : List Placed) → Ascend p rest → last_place p rest ≡ p → rest ≡ []
none_behind p [] h e = refl
none_behind p (at q t ∷ rest) h e = absurd (not_before_itself p (subst (Before p) e (before_last p q t rest h)))

-- a token of a text at the place of the last one is that one
pub at_the_end : (cs : List ℕ) (ts us rest : List Placed) (p q : Place) (t u : Token) → tokens cs ≡ ts ++ at p t ∷ rest → tokens cs ≡ us ++ at q u ∷ [] → p ≡ q → rest ≡ []
at_the_end cs ts us rest p q t u front whole same =
    let ascend = ascend_rest_from first_place p t ts rest (subst (AscendFrom first_place) front (ascend_within (length cs + 1) false first_place cs)) in
    let last = sym (last_behind first_place p t ts rest) ∙ ap (last_place first_place) (sym front ∙ whole) ∙ last_of first_place q u us ∙ sym same in
    none_behind p rest ascend last
