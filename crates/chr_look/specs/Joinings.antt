-- What comes of making terms equal.
use Rattle.std.specs.Prelude.{◌≡◌, ℕ, List, [], ◌∷◌, ◌++◌, Option, Some, None}
use Rattle.chr_semantics.specs.Tree.{Tree}
use Rattle.chr_semantics.specs.Subst.{Subst, apply}
use Rattle.chr_semantics.specs.Mgu.{mgu}
use Rattle.chr_semantics.specs.Verdict.{Joining, joined, parted}
use Rattle.chr_term.specs.TermView.{view}
use Rattle.chr_look.specs.declared.joining.Parting.{Parting}

-- the terms are equal by their unifier, or there is none, and the terms as they stand are the answer
abbrev pub Unifies : {A : Type 0} → Tree → Tree → Subst → Subst → Option (Parting A) → Type 0
Unifies t v u new None = mgu u t v ≡ Some new
Unifies t v u new (Some p) = (mgu u t v ≡ None) × (new ≡ u) × (view p.left ≡ apply u t) × (view p.right ≡ apply u v)

-- all was made equal, and the way is as before; or it was not, and the way goes on to where the terms part
abbrev pub Joins : {A : Type 0} → Joining → Subst → List ℕ → List ℕ → Option (Parting A) → Type 0
Joins j new old way None = (j ≡ joined new) × (way ≡ old)
Joins j new old way (Some p) = (on : List ℕ) × (j ≡ parted on (view p.left) (view p.right)) × (way ≡ old ++ on)

-- they part at the k-th argument, where one term stands for both
abbrev pub PartsAlone : {A : Type 0} → ℕ → Tree → List ℕ → List ℕ → Option (Parting A) → Type 0
PartsAlone k t old way None = ⊥
PartsAlone k t old way (Some p) = (view p.left ≡ t) × (view p.right ≡ t) × (way ≡ old ++ k ∷ [])
