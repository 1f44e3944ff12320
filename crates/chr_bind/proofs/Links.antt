-- What sound links say of the variable at each.
use Rattle.std.proofs.Common.{◌≡◌, ℕ, zero, suc, ◌-◌, ◌<◌, Option, Some, None, List, [], ◌∷◌, length, option_map, slice_get, slice_index_or, subst, refl, ap, arith, ◌∙◌}
use Rattle.std.proofs.lemmas.Option.{slice_get-get_or, slice_get_within}
use Rattle.chr_semantics.specs.Tree.{Tree, var}
use Rattle.chr_semantics.specs.Subst.{Subst, value_at, apply}
use Rattle.chr_semantics.specs.Bounds.{IsBelow}
use Rattle.chr_bind.specs.Terms.{IsNoVar}
use Rattle.chr_bind.specs.Chains.{Pairs, ArePairsBelow, IsLast, IsLater, IsLinked, IsSound, StandsFor, solution}
use Rattle.chr_bind.specs.declared.chains.Link.{Link}
use Rattle.chr_bind.specs.declared.chains.Link.TheVariants.{Free, Follows, Bound}

pub linked_at : (links : List Link) (pairs : Pairs) (x : ℕ) (l : Link) → IsSound links pairs → slice_get links x ≡ Some l → IsLinked links pairs (solution pairs) x (Some l)
linked_at links pairs x l h e = subst (λ o. IsLinked links pairs (solution pairs) x o) e (h.linked x)

pub free_beyond : (links : List Link) (pairs : Pairs) (x : ℕ) → IsSound links pairs → slice_get links x ≡ None → value_at (solution pairs) x ≡ var x
free_beyond links pairs x h e = subst (λ o. IsLinked links pairs (solution pairs) x o) e (h.linked x)

-- how many of n bindings come after the one that a link goes on by
abbrev pub left_after : ℕ → Option Link → ℕ
left_after n None = 0
left_after n (Some (Free m z)) = 0
left_after n (Some (Follows p i)) = n - i
left_after n (Some (Bound i)) = 0

pub less_after : (n i : ℕ) (o : Option Link) → i < n → IsLater i o → left_after n o < n - i
less_after n i None h k = omega arith
less_after n i (Some (Free m z)) h k = omega arith
less_after n i (Some (Follows p j)) h k = omega (arith, k)
less_after n i (Some (Bound j)) h k = omega arith

pub read_link : (links : List Link) (x : ℕ) (d l : Link) → x < length links → slice_index_or links x d ≡ l → slice_get links x ≡ Some l
read_link links x d l h e = slice_get-get_or links x d h ∙ ap Some e

-- a class ends at no link that goes on
pub goes_on_nowhere : (o : Option Link) (p i : ℕ) → o ≡ Some (Follows p i) → IsLast o → ⊥
goes_on_nowhere o p i e h = subst IsLast e h

stands_at : (s : Subst) (x : ℕ) (o : Option (ℕ × Tree)) (t : Tree) → option_map (λ (e : ℕ × Tree). e.1) o ≡ Some t → StandsFor s x o → (value_at s x ≡ apply s t) × IsNoVar t
stands_at s x None t e h = cc
stands_at s x (Some p) t e h = let is : p.1 ≡ t = cc in subst (λ w. (value_at s x ≡ apply s w) × IsNoVar w) is h

-- a bound variable stands for the term of its pair
pub stands : (links : List Link) (pairs : Pairs) (x i : ℕ) (t : Tree) → IsSound links pairs → slice_get links x ≡ Some (Bound i) → option_map (λ (e : ℕ × Tree). e.1) (slice_get pairs i) ≡ Some t
    → (value_at (solution pairs) x ≡ apply (solution pairs) t) × IsNoVar t
stands links pairs x i t h e k = stands_at (solution pairs) x (slice_get pairs i) t k (linked_at links pairs x (Bound i) h e)

pub has_pair : (s : Subst) (x : ℕ) (o : Option (ℕ × Tree)) → StandsFor s x o → (e : ℕ × Tree) × (o ≡ Some e)
has_pair s x None h = absurd h
has_pair s x (Some e) h = (e, refl)

pub bound_within : (links : List Link) (pairs : Pairs) (x i : ℕ) → IsSound links pairs → slice_get links x ≡ Some (Bound i) → i < length pairs
bound_within links pairs x i h e =
    let p = has_pair (solution pairs) x (slice_get pairs i) (linked_at links pairs x (Bound i) h e) in
    slice_get_within pairs i p.0 p.1

-- the terms of the pairs have no variable from n on
pub pair_below : (n i : ℕ) (pairs : Pairs) (t : Tree) → ArePairsBelow n pairs → option_map (λ (e : ℕ × Tree). e.1) (slice_get pairs i) ≡ Some t → IsBelow n t
pair_below n i [] t h e = cc
pair_below n zero (p ∷ ps) t h e = let is : p.1 ≡ t = cc in subst (IsBelow n) is h.1
pair_below n (suc i) (p ∷ ps) t h e = pair_below n i ps t h.2 e
