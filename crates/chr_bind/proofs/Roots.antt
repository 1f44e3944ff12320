-- What a variable stands for shows its root.
use Rattle.std.proofs.Common.{◌≡◌, ◌∙◌, ap, subst, length}
use Rattle.chr_semantics.specs.Tree.{Tree}
use Rattle.chr_semantics.specs.Subst.{apply}
use Rattle.chr_bind.specs.Chains.{subst_of}
use Rattle.chr_bind.specs.ResolvedRoot.{IsRoot, IsWrittenRoot}
use Rattle.chr_semantics.specs.Bounds.{IsBelow}
use Rattle.chr_bind.specs.declared.chains.Chains.{Chains}
use Rattle.chr_bind.specs.declared.chains.ResolvedRoot.{ResolvedRoot}
use Rattle.chr_bind.specs.declared.chains.ResolvedRoot.TheVariants.{Free, Int, Node}

-- the root of the term that t stands for is that of t
pub root_of_written : {A : Type 0} (c : Chains A) (t u : Tree) (r : ResolvedRoot A) → apply (subst_of c) t ≡ apply (subst_of c) u → IsBelow (length c.links.now) u → IsWrittenRoot u r → IsRoot c t r
root_of_written c t u (Free e n) h b k = absurd k
root_of_written c t u (Int z) h b k = h ∙ ap (apply (subst_of c)) k
root_of_written c t u (Node f args) h b k = (h ∙ ap (apply (subst_of c)) k, (λ _. subst (IsBelow _) k b))
