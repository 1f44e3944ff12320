-- How often words were met, as far as it counts: not at all, once, or more often.
use Rattle.std.specs.Prelude.{◌≡◌, ◌==◌, ◌&&◌, ℕ, Bool, List, [], ◌∷◌, bytes_eq, cond, filter, length, min, not}
use Rattle.chr_semantics.specs.Suspicion.{is_anonymous}
use Rattle.chr_suspicions.specs.declared.variables.Met.{Met}

-- 0, 1, or 2 for more
abbrev pub times : List Met → List ℕ → ℕ
times [] w = 0
times (m ∷ ms) w = cond (bytes_eq w m.word.now) (cond m.again 2 1) (times ms w)

-- one time more
abbrev pub one_more : Bool → ℕ → ℕ
one_more b n = cond b (cond (n == 0) 1 2) n

-- the word is known as met once more
abbrev pub IsAgain : List ℕ → List Met → List Met → Type 0
IsAgain word old new = (w : List ℕ) → times new w ≡ one_more (bytes_eq w word) (times old w)

-- each word is known as often met as it stands among these, up to twice
abbrev pub AreCounted : List Met → List (List ℕ) → Type 0
AreCounted met words = (w : List ℕ) → times met w ≡ min (length (filter (bytes_eq w) words)) 2

-- the word does not begin with `_` and was met once
abbrev pub is_lone : List Met → List ℕ → Bool
is_lone met w = not (is_anonymous w) && times met w == 1
