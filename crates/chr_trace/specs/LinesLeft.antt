-- What is left of a walk over lines.
use Rattle.std.specs.Prelude.{ℕ, List, drop}
use Rattle.std.specs.Borrow.{Bor}
use Rattle.chr_trace.specs.declared.line_iter.LineIter.{LineIter}

abbrev pub lines_left : {A : Type 0} → LineIter A → List (List ℕ)
lines_left w = drop w.next w.lines.now.made

-- an item, as its bytes
abbrev pub shown_line : Bor (List ℕ) → List ℕ
shown_line line = line.now
