-- The tree that a term stands for, and the atom of a symbol over terms.
use Rattle.std.specs.Prelude.{List, map}
use Rattle.chr_semantics.specs.Tree.{Tree, var, int, node, Trees, trees_of}
use Rattle.chr_semantics.specs.Program.{Atom}
use Rattle.chr_term.specs.declared.term.Sym.{Sym}
use Rattle.chr_term.specs.declared.term.Term.{Term}
use Rattle.chr_term.specs.declared.term.Term.TheVariants.{Var, Int, Node}

abbrev pub view : {A : Type 0} → Term A → Tree
view (Var x) = var x
view (Int z) = int z
view (Node f ts) = node f.0 ts

abbrev pub trees_view : {A : Type 0} → List (Term A) → Trees
trees_view ts = trees_of (map view ts)

-- the atom of a symbol over arguments, and over a list of terms
abbrev pub atom_over : Sym → Trees → Atom
atom_over f ts = record { sym = f.0; args = ts }

abbrev pub atom_view : {A : Type 0} → Sym → List (Term A) → Atom
atom_view f ts = atom_over f (trees_view ts)
