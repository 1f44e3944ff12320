-- Lines as bytes.
use Rattle.std.specs.Prelude.{ℕ, List, map, Vec}
use Rattle.chr_semantics.specs.Text.{lines_text}

abbrev pub texts : {A : Type 0} → List (Vec ℕ A) → List (List ℕ)
texts {A} ls = map (λ (l : Vec ℕ A). l.items) ls

-- lines with their line feeds, kept closed so that the parts of a text can be put together without looking into them
unfoldable pub body : List (List ℕ) → List ℕ
body ls = lines_text ls
