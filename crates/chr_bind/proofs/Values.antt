-- A symbol over other than two arguments has no value.
use Rattle.std.proofs.Common.{◌≡◌, ◌≢◌, ℕ, Err, List, [], ◌∷◌, length, refl}
use Rattle.chr_semantics.specs.Subst.{instances}
use Rattle.chr_semantics.specs.Tree.{Tree}
use Rattle.chr_semantics.specs.Value.{not_number, node_value, values}
use Rattle.chr_term.specs.TermView.{trees_view}
use Rattle.chr_term.specs.declared.term.Term.{Term}

pub node_value-other : {A : Type 0} (f : ℕ) (ts : List (Term A)) → length ts ≢ 2 → node_value f (values (trees_view ts)) ≡ Err not_number
node_value-other f [] h = refl
node_value-other f (t ∷ []) h = refl
node_value-other f (t ∷ u ∷ []) h = absurd (h refl)
node_value-other f (t ∷ u ∷ v ∷ ts) h = refl

-- so it is with their variables replaced
pub instances_value-other : {A : Type 0} (h : ℕ → Tree) (f : ℕ) (ts : List (Term A)) → length ts ≢ 2 → node_value f (values (instances h (trees_view ts))) ≡ Err not_number
instances_value-other h f [] e = refl
instances_value-other h f (t ∷ []) e = refl
instances_value-other h f (t ∷ u ∷ []) e = absurd (e refl)
instances_value-other h f (t ∷ u ∷ v ∷ ts) e = refl
