-- What the root of a term is under the bindings.
use Rattle.std.specs.Prelude.{◌≡◌, Some, length, slice_get}
use Rattle.chr_semantics.specs.Tree.{Tree, var, int, node}
use Rattle.chr_semantics.specs.Subst.{value_at, apply, instances}
use Rattle.chr_semantics.specs.Bounds.{AreBelow, IsBelow}
use Rattle.chr_bind.specs.Chains.{name_of, subst_of}
use Rattle.chr_bind.specs.declared.chains.Chains.{Chains}
use Rattle.chr_bind.specs.declared.chains.ResolvedRoot.{ResolvedRoot}
use Rattle.chr_bind.specs.declared.chains.ResolvedRoot.TheVariants.{Free, Int, Node}

-- a free variable with the link of its class, a number, or a symbol over arguments that may have bound variables
abbrev pub IsRoot : {A : Type 0} → Chains A → Tree → ResolvedRoot A → Type 0
IsRoot c t (Free r n) = (apply (subst_of c) t ≡ var n) × (IsBelow (length c.links.now) t → name_of (slice_get c.links.now r) ≡ Some n)
IsRoot c t (Int z) = apply (subst_of c) t ≡ int z
IsRoot c t (Node f args) = (apply (subst_of c) t ≡ node f.0 (instances (value_at (subst_of c)) args.now)) × (IsBelow (length c.links.now) t → AreBelow (length c.links.now) args.now)

-- the root of a term as it is written, which is no variable
abbrev pub IsWrittenRoot : {A : Type 0} → Tree → ResolvedRoot A → Type 0
IsWrittenRoot t (Free r n) = ⊥
IsWrittenRoot t (Int z) = t ≡ int z
IsWrittenRoot t (Node f args) = t ≡ node f.0 args.now
