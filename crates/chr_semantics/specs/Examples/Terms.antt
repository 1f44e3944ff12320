-- Short ways to write the terms, goals and rules of the examples.
use Rattle.std.specs.Prelude.{ℕ, pos, negsuc, ◌-◌, List, [], ◌∷◌, ◌++◌, true, false}
use Rattle.chr_semantics.specs.Tree.{Tree, int, node, trees_of}
use Rattle.chr_semantics.specs.Program.{Atom, Goal, constraint, Head}
use Rattle.chr_semantics.specs.Names.{Names, first_names}

abbrev pub number : ℕ → Tree
number n = int (pos n)

-- a number below zero: -n, for n above 0
abbrev pub negative : ℕ → Tree
negative n = int (negsuc (n - 1))

-- a symbol over arguments, as a term, a constraint, a head, a passive head and a goal
abbrev pub term : ℕ → List Tree → Tree
term f ts = node f (trees_of ts)

abbrev pub atom : ℕ → List Tree → Atom
atom f ts = record { sym = f; args = trees_of ts }

abbrev pub head : ℕ → List Tree → Head
head f ts = record { atom = atom f ts; passive = false }

abbrev pub passive_head : ℕ → List Tree → Head
passive_head f ts = record { atom = atom f ts; passive = true }

abbrev pub chr : ℕ → List Tree → Goal
chr f ts = constraint (atom f ts)

abbrev pub plus : Tree → Tree → Tree
plus a b = term 2 (a ∷ b ∷ [])

abbrev pub minus : Tree → Tree → Tree
minus a b = term 3 (a ∷ b ∷ [])

-- the names of a program: the seven that are always there, and its own, which begin at 7
abbrev pub names : Names → Names
names own = first_names ++ own

abbrev pub times : Tree → Tree → Tree
times a b = term 4 (a ∷ b ∷ [])

abbrev pub divided : Tree → Tree → Tree
divided a b = term 5 (a ∷ b ∷ [])

abbrev pub remainder : Tree → Tree → Tree
remainder a b = term 6 (a ∷ b ∷ [])

-- the empty list, and a list by its first element and the rest
abbrev pub nil : Tree
nil = term 0 []

abbrev pub pair : Tree → Tree → Tree
pair a b = term 1 (a ∷ b ∷ [])
