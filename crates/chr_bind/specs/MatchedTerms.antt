-- The terms of a match, and which of them count.
use Rattle.std.specs.Int.{bit_at}
use Rattle.std.specs.Int.Bits.{bit_or}
use Rattle.std.specs.Prelude.{◌≡◌, ◌==◌, ◌*◌, ◌%◌, ◌^◌, ℕ, Bool, true, List, Option, Some, None, is_some, slice_get}
use Rattle.std.specs.Borrow.{Bor}
use Rattle.chr_semantics.specs.Tree.{Tree}
use Rattle.chr_term.specs.TermView.{view}
use Rattle.chr_term.specs.declared.term.Term.{Term}

abbrev pub term_tree : {A : Type 0} → Option (Option (Bor (Term A))) → Option Tree
term_tree None = None
term_tree (Some None) = None
term_tree (Some (Some t)) = Some (view t.now)

-- the tree that stands for a variable, if there is one
abbrev pub tree_at : {A : Type 0} → List (Option (Bor (Term A))) → ℕ → Option Tree
tree_at matched x = term_tree (slice_get matched x)

-- the variable is marked: its bit is set
abbrev pub is_marked : ℕ → ℕ → Bool
is_marked marks x = bit_at marks x == 1

-- with the variable marked
abbrev pub with_mark : ℕ → ℕ → ℕ
with_mark marks x = bit_or marks (1 * 2 ^ x % 2 ^ 64)

-- each variable that is marked has a tree
abbrev pub AreFilled : {A : Type 0} → ℕ → List (Option (Bor (Term A))) → Type 0
AreFilled marks matched = (x : ℕ) → is_marked marks x ≡ true → is_some (tree_at matched x) ≡ true
