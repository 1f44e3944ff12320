-- A constraint as a tree that gives it back, so that a table can keep what it says of constraints.
use Rattle.std.specs.Prelude.{refl}
use Rattle.std.specs.Coded.{Coded, code_by, codes}
use Rattle.std.proofs.Props.{props}
use Rattle.chr_term.specs.Code.{tree_code}
use Rattle.chr_semantics.specs.Program.{Atom}
use Rattle.chr_semantics.specs.Tree.{Tree, node, none}

abbrev pub tree_of : Atom → Tree
tree_of a = node a.sym a.args

abbrev pub atom_from : Tree → Atom
atom_from (node f ts) = record { sym = f; args = ts }
atom_from _ = record { sym = 0; args = none }

abbrev pub atom_code : Coded Atom
atom_code = code_by Tree tree_code tree_of atom_from (λ _. refl)

-- the set for `by { Prim.hlevel atoms }` after a ghost field that says what constraints are
pub ruleset atoms = (atom_code, codes, props)
