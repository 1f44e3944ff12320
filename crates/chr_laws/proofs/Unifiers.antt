-- The variables of most general unifiers.
use Rattle.std.proofs.Common.{◌<◌, ◌==◌, ℕ, zero, suc, Bool, true, false, cond, nat_lt, [], ◌∷◌, Option, Some, None, length, ◌++◌}
use Rattle.std.specs.Ordering.{int_eq}
use Rattle.std.specs.Prelude.{All}
use Rattle.std.proofs.lemmas.List.Elements.{All-append, All-cons, All-head, All-map, All-nil, All-tail, All-weaker}
use Rattle.chr_semantics.specs.Bounds.{AreBelow, IsBelow, IsSubstBelow}
use Rattle.chr_semantics.specs.Mgu.{Equations, apart, apart_all, apart_under, both, elimination, elimination_from, mgu, of_var, vars}
use Rattle.chr_semantics.specs.Subst.{Subst, apply, occurs, value_at, with_binding}
use Rattle.chr_semantics.specs.Tree.{Tree, var, int, node, Trees, none, more}
use Rattle.chr_laws.proofs.Terms.{apply_within, value_within}

-- every variable of the equation is below n
abbrev IsEquationBelow : ℕ → ℕ × Tree → Type 0
IsEquationBelow n e = (e.0 < n) × IsBelow n e.1

abbrev AreEquationsBelow : ℕ → Equations → Type 0
AreEquationsBelow n es = All (IsEquationBelow n) es

-- of the equations, if there are some
abbrev IfEquations : ℕ → Option Equations → Type 0
IfEquations n None = Unit {0}
IfEquations n (Some es) = AreEquationsBelow n es

-- of the substitution, if there is one
abbrev pub IfSubst : ℕ → Option Subst → Type 0
IfSubst n None = Unit {0}
IfSubst n (Some s) = IsSubstBelow n s

both_within : (n : ℕ) (a b : Option Equations) → IfEquations n a → IfEquations n b → IfEquations n (both a b)
both_within n None b h k = tt
both_within n (Some es) None h k = tt
both_within n (Some es) (Some fs) h k = All-append (IsEquationBelow n) es fs h k

one_within : (n x : ℕ) (t : Tree) → x < n → IsBelow n t → AreEquationsBelow n ((x, t) ∷ [])
one_within n x t lt b = All-cons (IsEquationBelow n) (x, t) [] (lt, b) (All-nil (IsEquationBelow n))

either_within : (n : ℕ) (b : Bool) (es fs : Equations) → AreEquationsBelow n es → AreEquationsBelow n fs → AreEquationsBelow n (cond b es fs)
either_within n true es fs h k = h
either_within n false es fs h k = k

of_var_within : (n x : ℕ) (t : Tree) → x < n → IsBelow n t → AreEquationsBelow n (of_var x t)
of_var_within n x (var y) lt b =
    either_within n (x == y) [] _ (All-nil (IsEquationBelow n)) (either_within n (nat_lt x y) ((y, var x) ∷ []) ((x, var y) ∷ []) (one_within n y (var x) b lt) (one_within n x (var y) lt b))
of_var_within n x (int z) lt b = one_within n x (int z) lt b
of_var_within n x (node g ts) lt b = one_within n x (node g ts) lt b

tested_within : (n : ℕ) (b : Bool) (o : Option Equations) → IfEquations n o → IfEquations n (cond b o None)
tested_within n true o h = h
tested_within n false o h = tt

mutual
  apart_within : (n : ℕ) (a b : Tree) → IsBelow n a → IsBelow n b → IfEquations n (apart a b)
  apart_within n (var x) b h k = of_var_within n x b h k
  apart_within n (int z) (var y) h k = one_within n y (int z) k h
  apart_within n (int z) (int w) h k = tested_within n (int_eq z w) (Some []) (All-nil (IsEquationBelow n))
  apart_within n (int z) (node g us) h k = tt
  apart_within n (node g ts) (var y) h k = one_within n y (node g ts) k h
  apart_within n (node g ts) (int w) h k = tt
  apart_within n (node g ts) (node i us) h k = tested_within n (g == i) (apart_all ts us) (apart_all_within n ts us h k)

  apart_all_within : (n : ℕ) (ts us : Trees) → AreBelow n ts → AreBelow n us → IfEquations n (apart_all ts us)
  apart_all_within n none none h k = All-nil (IsEquationBelow n)
  apart_all_within n none (more u us) h k = tt
  apart_all_within n (more t ts) none h k = tt
  apart_all_within n (more t ts) (more u us) h k = both_within n (apart t u) (apart_all ts us) (apart_within n t u h.0 k.0) (apart_all_within n ts us h.1 k.1)

apart_under_within : (n : ℕ) (s : Subst) (es : Equations) → IsSubstBelow n s → AreEquationsBelow n es → IfEquations n (apart_under s es)
apart_under_within n s [] h k = All-nil (IsEquationBelow n)
apart_under_within n s (e ∷ es) h k =
    let first : IsEquationBelow n e = All-head (IsEquationBelow n) e es k in
    both_within n (apart (value_at s e.0) (apply s e.1)) (apart_under s es) (apart_within n (value_at s e.0) (apply s e.1) (value_within n s e.0 h first.0) (apply_within n s e.1 h first.1))
    (apart_under_within n s es h (All-tail (IsEquationBelow n) e es k))

pair_within : (n x : ℕ) (u : Tree) → IsBelow n u → IsSubstBelow n ((x, u) ∷ [])
pair_within n x u b = All-cons (λ (p : ℕ × Tree). IsBelow n p.1) (x, u) [] b (All-nil (λ (p : ℕ × Tree). IsBelow n p.1))

binding_within : (n x : ℕ) (u : Tree) (s : Subst) → IsBelow n u → IsSubstBelow n s → IsSubstBelow n (with_binding x u s)
binding_within n x u s b h =
    let replaced : ℕ × Tree → ℕ × Tree = λ p. (p.0, apply ((x, u) ∷ []) p.1) in
    All-cons (λ (p : ℕ × Tree). IsBelow n p.1) (x, u) _ b
    (All-map (λ (p : ℕ × Tree). IsBelow n p.1) replaced s
    (All-weaker (λ (p : ℕ × Tree). IsBelow n p.1) (λ (p : ℕ × Tree). IsBelow n (replaced p).1) (λ p k. apply_within n ((x, u) ∷ []) p.1 (pair_within n x u b) k) s h))

one_eliminated : (n k : ℕ) (s : Subst) (e : ℕ × Tree) (b : Bool) (o : Option Equations) → ((r : Subst) (es : Equations) → IsSubstBelow n r → AreEquationsBelow n es → IfSubst n (elimination k r es)) → IsSubstBelow n s → IsEquationBelow n e → IfEquations n o
    → (let w : Option Subst = elim b [ true ↦ None | false ↦ elim o [ None ↦ None | Some fs ↦ elimination k (with_binding e.0 e.1 s) fs ] ] in IfSubst n w)
one_eliminated n k s e true o go h q r = tt
one_eliminated n k s e false None go h q r = tt
one_eliminated n k s e false (Some fs) go h q r = go (with_binding e.0 e.1 s) fs (binding_within n e.0 e.1 s q.1 h) r

eliminated_within : (n k : ℕ) (s : Subst) (es : Equations) → IsSubstBelow n s → AreEquationsBelow n es → IfSubst n (elimination k s es)
eliminated_within n zero s [] h q = h
eliminated_within n (suc k) s [] h q = h
eliminated_within n zero s (e ∷ es) h q = tt
eliminated_within n (suc k) s (e ∷ es) h q =
    let first : IsEquationBelow n e = All-head (IsEquationBelow n) e es q in
    one_eliminated n k s e (occurs e.0 e.1) (apart_under ((e.0, e.1) ∷ []) es) (eliminated_within n k) h first
    (apart_under_within n ((e.0, e.1) ∷ []) es (pair_within n e.0 e.1 first.1) (All-tail (IsEquationBelow n) e es q))

from_within : (n k : ℕ) (s : Subst) (o : Option Equations) → IsSubstBelow n s → IfEquations n o → IfSubst n (elimination_from k s o)
from_within n k s None h q = tt
from_within n k s (Some es) h q = eliminated_within n k s es h q

-- the unifier's are those of the substitution and the terms
pub mgu_within : (n : ℕ) (s : Subst) (a b : Tree) → IsSubstBelow n s → IsBelow n a → IsBelow n b → IfSubst n (mgu s a b)
unfolding mgu
mgu_within n s a b h k q =
    from_within n (length (vars (apply s a) ++ vars (apply s b))) s (apart (apply s a) (apply s b)) h (apart_within n (apply s a) (apply s b) (apply_within n s a h k) (apply_within n s b h q))
