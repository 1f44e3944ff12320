-- Texts that are cut at the first separator.
use Rattle.std.proofs.Common.{◌≡◌, ℕ, ◌+◌, ◌-◌, ◌≤◌, Bool, true, false, cond, ◌==◌, nat_lt, List, [], ◌∷◌, length, take, drop, Some, None, position, arith, ap, sym, refl, ◌∙◌, length-drop}
use Rattle.std.proofs.Math.Seq.{take-length}
use Rattle.std.specs.List.{position_or_len, onto_first}
use Rattle.std.proofs.lemmas.Bool.{ltb-false, ltb-true}
use Rattle.std.proofs.lemmas.Option.{cond_some}
use Rattle.std.proofs.lemmas.List.Splits.{slice_split_first, slice_split_none}
use Rattle.std.proofs.lemmas.List.Sums.{fails_before_first}
use Rattle.std.specs.Prelude.{Err}
use Rattle.std.specs.Str.{byte}
use Rattle.chr_semantics.specs.ScheduleText.{bad_line, line_of}
use Rattle.chr_schedule.specs.Parts.{parts}

-- nothing comes only of a test that fails
cond_none : {A : Type 0} (b : Bool) (x : A) → cond b (Some x) None ≡ None → b ≡ false
cond_none true x h = cc
cond_none false x h = refl

-- where there is no separator, the text is the one part
pub one_part : (separator : ℕ) (text : List ℕ) → position (λ b. b == separator) text ≡ None → parts separator text ≡ text ∷ []
one_part separator text h =
    let p : ℕ → Bool = λ b. b == separator in
    let long : length text ≤ position_or_len p text = ltb-false _ _ (cond_none _ _ h) in
    slice_split_none p text (λ k d l. fails_before_first p text k d (omega (arith, l, long)))

-- at the place of the first separator the first part ends, and the others follow
pub first_part : (separator : ℕ) (text : List ℕ) (i : ℕ) → position (λ b. b == separator) text ≡ Some i → parts separator text ≡ take i text ∷ parts separator (drop (i + 1) text)
first_part separator text i h =
    let p : ℕ → Bool = λ b. b == separator in
    let at = cond_some (nat_lt (position_or_len p text) (length text)) (position_or_len p text) i h in
    slice_split_first p text 0 (ltb-true _ _ at.0) ∙ ap (λ n. take n text ∷ parts separator (drop (n + 1) text)) at.1

-- a text from a place on
pub rest_from : (n : ℕ) (text : List ℕ) → take (length text - n) (drop n text) ≡ drop n text
rest_from n text = ap (λ m. take m (drop n text)) (sym (length-drop n text)) ∙ take-length (drop n text)

-- a text has a part at least
pub some_parts : (separator : ℕ) (text : List ℕ) → (first : List ℕ) × (others : List (List ℕ)) × (parts separator text ≡ first ∷ others)
some_parts separator [] = ([], [], refl)
some_parts separator (b ∷ bs) = onto (b == separator) b (parts separator bs)
  where
    onto : (test : Bool) (b : ℕ) (ps : List (List ℕ)) → (first : List ℕ) × (others : List (List ℕ)) × (cond test ([] ∷ ps) (onto_first b ps) ≡ first ∷ others)
    onto true b ps = ([], ps, refl)
    onto false b [] = (b ∷ [], [], refl)
    onto false b (p ∷ ps) = (b ∷ p, ps, refl)

-- no line has four words
pub four_words : (line word others first more second rest : List ℕ) → parts (byte " ") line ≡ word ∷ parts (byte " ") others → parts (byte " ") others ≡ first ∷ parts (byte " ") more → parts (byte " ") more ≡ second ∷ parts (byte " ") rest → line_of (parts (byte " ") line) ≡ Err bad_line
four_words line word others first more second rest a b c = let some = some_parts (byte " ") rest in rw (a, b, c, some.2) refl
