-- What solves s and makes the equations equal solves the unifier too.
use Rattle.std.proofs.Common.{Bool, None, Option, Some, [], false, refl, subst, suc, sym, true, zero, ℕ, ◌∙◌, ◌∷◌, ◌≡◌}
use Rattle.chr_semantics.specs.Mgu.{elimination, Equations, apart, apart_under, mgu, elimination_from}
use Rattle.chr_semantics.specs.Subst.{Solves, Subst, apply, with_binding, occurs, instance}
use Rattle.chr_semantics.specs.Tree.{Tree}
use Rattle.chr_semantics.proofs.Apart.{Holds, HoldsIn, apart_holds, apart_under_holds}
use Rattle.chr_semantics.proofs.Instances.{Solves-bound, Solves-one, instance-solves}

-- the step of `solved` that gives a result
pub gives_step : (n : ℕ) (s : Subst) (e : ℕ × Tree) (r : Subst) (b : Bool) (o : Option Equations)
    → (let w : Option Subst = elim b [ true ↦ None | false ↦ elim o [ None ↦ None | Some fs ↦ elimination n (with_binding e.0 e.1 s) fs ] ] in w ≡ Some r)
    → (b ≡ false) × ((fs : Equations) × (o ≡ Some fs) × (elimination n (with_binding e.0 e.1 s) fs ≡ Some r))
gives_step n s e r true o h = cc
gives_step n s e r false None h = cc
gives_step n s e r false (Some fs) h = (refl, (fs, refl, h))

-- the eliminations keep what solves the equations
pub Solves-solved : (f : ℕ → Tree) (n : ℕ) (s : Subst) (es : Equations) (r : Subst) → elimination n s es ≡ Some r → Solves f s → Holds f es → Solves f r
Solves-solved f n s [] r is k h = let same : s ≡ r = cc in subst (λ w. Solves f w) same k
Solves-solved f zero s (e ∷ es) r is k h = cc
Solves-solved f (suc n) s (e ∷ es) r is k h =
    let w = gives_step n s e r (occurs e.0 e.1) (apart_under ((e.0, e.1) ∷ []) es) is in
    let fs = w.1.0 in
    let holds = subst (HoldsIn f) w.1.1 (apart_under_holds f ((e.0, e.1) ∷ []) es (Solves-one f e.0 e.1 h.0) h.1) in
    Solves-solved f n (with_binding e.0 e.1 s) fs r w.1.2 (Solves-bound f e.0 e.1 s k h.0) holds

from_apart : (f : ℕ → Tree) (n : ℕ) (s : Subst) (o : Option Equations) (r : Subst) → elimination_from n s o ≡ Some r → Solves f s → HoldsIn f o → Solves f r
from_apart f n s None r is k h = cc
from_apart f n s (Some es) r is k h = Solves-solved f n s es r is k h

-- what solves s and makes both terms equal solves the unifier
pub mgu_is_general : (s : Subst) (a b : Tree) (f : ℕ → Tree) → Solves f s → instance f a ≡ instance f b → (r : Subst) → mgu s a b ≡ Some r → Solves f r
unfolding mgu
mgu_is_general s a b f k e r is =
    from_apart f _ s (apart (apply s a) (apply s b)) r is k (apart_holds f (apply s a) (apply s b) (instance-solves f s k a ∙ e ∙ sym (instance-solves f s k b)))
