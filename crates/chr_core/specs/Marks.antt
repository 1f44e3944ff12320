-- The stamps of marks.
use Rattle.std.specs.Prelude.{ℕ, List, ◌∷◌, map}
use Rattle.chr_semantics.specs.Changes.{Entries, Store}
use Rattle.chr_semantics.specs.Program.{Head, Rule}
use Rattle.chr_semantics.specs.Touch.{Mark, rule, symbol}

-- as a store and a history keep them
abbrev pub mark_stamp : Store → Entries → Mark → ℕ
mark_stamp m h (symbol f) = m.stamps f
mark_stamp m h (rule r) = h.stamps r

-- a rule and the symbols of its heads
abbrev pub marks_of : ℕ → Rule → List Mark
marks_of number r = rule number ∷ map (λ (h : Head). symbol h.atom.sym) r.heads
