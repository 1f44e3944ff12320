-- What is asked of terms.
use Rattle.chr_semantics.specs.Tree.{Tree, var, int, node}

-- the term is no variable
abbrev pub IsNoVar : Tree → Type 0
IsNoVar (var x) = ⊥
IsNoVar (int z) = Unit {0}
IsNoVar (node f ts) = Unit {0}
