-- The words of a rule's variables.
use Rattle.std.specs.Prelude.{ℕ, List, flat_map, map}
use Rattle.std.specs.Borrow.{Bor}
use Rattle.chr_semantics.specs.Syntax as syntax
use Rattle.chr_semantics.specs.Suspicion.{names_in_item}

abbrev pub words_of : List (Bor (List ℕ)) → List (List ℕ)
words_of ws = map (λ w. w.now) ws

-- the words of the variables of heads, each as often as it stands there
abbrev pub names_in_heads : List syntax.Head → List (List ℕ)
names_in_heads hs = flat_map (λ (h : syntax.Head). names_in_item h.item) hs
