-- The table of a rule's variables.
use Rattle.std.specs.Prelude.{◌≡◌, ℕ, List, map, bytes_eq}
use Rattle.std.specs.Borrow.{Bor}
use Rattle.std.specs.Map.{lookup}
use Rattle.chr_semantics.specs.Meaning.{variable_of}
use Rattle.indexmap.specs.IndexMap.{IndexMap}

abbrev pub words_of : List (Bor (List ℕ)) → List (List ℕ)
words_of ws = map (λ w. w.now) ws

-- each word has its number, as far as words have one
abbrev pub AreNumbered : {S : Type 0} → List (List ℕ) → IndexMap (Bor (List ℕ)) ℕ S → Type 0
AreNumbered words numbers = (w : List ℕ) → lookup (λ k. bytes_eq w k.now) numbers.entries ≡ variable_of words w
