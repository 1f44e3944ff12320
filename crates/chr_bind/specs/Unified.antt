-- What a unification comes to.
use Rattle.std.specs.Prelude.{◌≡◌, ◌<◌, ℕ, List, ◌++◌, Option, Some, None, length}
use Rattle.chr_semantics.specs.Tree.{Tree}
use Rattle.chr_semantics.specs.Subst.{Subst, apply}
use Rattle.chr_semantics.specs.Mgu.{mgu}
use Rattle.chr_semantics.specs.Bounds.{IsBelow}
use Rattle.chr_bind.specs.Chains.{IsSound, Pairs, owned_pairs, solution, links_before}
use Rattle.chr_bind.specs.declared.bindings.Unified.{Unified}
use Rattle.chr_bind.specs.declared.bindings.Unified.TheVariants.{Same, Bound, Clash}
use Rattle.chr_bind.specs.declared.chains.Link.{Link}
use Rattle.chr_bind.specs.declared.unification.Additions.{Additions}

-- the links are those of the bindings, and the variables of both terms have links
pub record AreLinked (links : List Link) (pairs : Pairs) (t u : Tree) : Type 0 where
  pub sound : IsSound links pairs
  pub left : IsBelow (length links) t
  pub right : IsBelow (length links) u

-- both terms stood for one term already, or they do now by the most general unifier, which is longer, or there is none
abbrev pub IsUnified : Tree → Tree → Subst → Subst → Unified → Type 0
IsUnified t u s r Same = (apply s t ≡ apply s u) × (r ≡ s) × (mgu s t u ≡ Some s)
IsUnified t u s r Bound = (mgu s t u ≡ Some r) × (apply s t ≡ apply s u → ⊥) × (length s < length r)
IsUnified t u s r Clash = (mgu s t u ≡ None) × (r ≡ s)

-- the links with what was added are right and can be undone, or there is no unifier and they are as they were
abbrev pub IsUnification : {A : Type 0} → List Link → List Link → Pairs → Tree → Tree → Option (Additions A) → Type 0
IsUnification links new pairs t u None = (mgu (solution pairs) t u ≡ None) × (new ≡ links)
IsUnification links new pairs t u (Some added) =
    IsSound new (pairs ++ owned_pairs added.pairs.items) × (mgu (solution pairs) t u ≡ Some (solution (pairs ++ owned_pairs added.pairs.items))) × (links_before added.before.items new ≡ links)

-- the answer where n bindings were added
abbrev pub IsAnswer : ℕ → Unified → Type 0
IsAnswer n Same = n ≡ 0
IsAnswer n Bound = 0 < n
IsAnswer n Clash = ⊥
