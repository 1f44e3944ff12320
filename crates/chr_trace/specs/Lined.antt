-- Lines that stand one behind the other in one text.
use Rattle.std.specs.Prelude.{◌≡◌, ℕ, ◌+◌, ◌-◌, Bool, true, false, List, [], ◌∷◌, ◌++◌, drop, length, take, Option, Some, None, refl}
use Rattle.std.specs.Coded.{Coded, code_by, coded×, coded_ℕ, coded_list, coded_option}
use Rattle.chr_semantics.specs.Text.{lines_text}

-- what contracts see: the lines, and the one that is drafted behind them
pub record LinesValue : Type 0 where
  pub made : List (List ℕ)
  pub draft : Option (List ℕ)

abbrev pub lines_code : Coded LinesValue
lines_code = code_by (List (List ℕ) × Option (List ℕ)) (coded× (coded_list (coded_list coded_ℕ)) (coded_option (coded_list coded_ℕ))) (λ v. (v.made, v.draft)) (λ p. record { made = p.0; draft = p.1 }) (λ _. refl)

-- where each line ends, behind its line feed, if the first begins at k
abbrev pub ends_of : ℕ → List (List ℕ) → List ℕ
ends_of k [] = []
ends_of k (l ∷ ls) = (k + (length l + 1)) ∷ ends_of (k + (length l + 1)) ls

-- where the last one ends
abbrev pub end_from : ℕ → List ℕ → ℕ
end_from k [] = k
end_from k (e ∷ es) = end_from e es

-- the lines of a text that end there, of which the first begins at k
abbrev pub cut_at : List ℕ → ℕ → List ℕ → List (List ℕ)
cut_at text k [] = []
cut_at text k (e ∷ es) = take (e - (k + 1)) (drop k text) ∷ cut_at text e es

-- what stands behind the lines is a draft, with its line feed, or not
abbrev pub drafted : Bool → List ℕ → Option (List ℕ)
drafted true rest = Some (take (length rest - 1) rest)
drafted false rest = None

-- the text is that of lines, and a rest
pub record IsLined (text ends : List ℕ) : Type 0 where
  pub made : List (List ℕ)
  pub rest : List ℕ
  pub text_is : text ≡ lines_text made ++ rest
  pub ends_are : ends ≡ ends_of 0 made

-- bytes that are a line with its line feed
pub record IsWhole (rest : List ℕ) : Type 0 where
  pub line : List ℕ
  pub is : rest ≡ lines_text (line ∷ [])
