-- Bindings in the order in which they were added, and the links of the variables, which lead to what each stands for.
use Rattle.std.specs.Prelude.{◌≡◌, ℕ, ◌+◌, ◌<◌, List, [], ◌∷◌, ◌++◌, map, length, Option, Some, None, slice_get, set, ◌⊎◌}
use Rattle.std.specs.Borrow.{Bor}
use Rattle.chr_semantics.specs.Tree.{Tree, var}
use Rattle.chr_semantics.specs.Subst.{Subst, value_at, apply, with_binding, IsSolved}
use Rattle.chr_term.specs.TermView.{view}
use Rattle.chr_term.specs.declared.term.Term.{Term}
use Rattle.chr_semantics.specs.Bounds.{IsBelow}
use Rattle.chr_bind.specs.Terms.{IsNoVar}
use Rattle.chr_bind.specs.declared.chains.Link.{Link}
use Rattle.chr_bind.specs.declared.unification.Changed.{Changed}
use Rattle.chr_bind.specs.declared.unification.Changed.TheVariants.{One, Two}
use Rattle.chr_bind.specs.declared.chains.Link.TheVariants.{Free, Follows, Bound}
use Rattle.chr_bind.specs.declared.chains.Chains.{Chains}

-- A pair is a variable and the term that it was bound to, which may have bound variables; the first added pair stands first.
abbrev pub Pairs : Type 0
Pairs = List (ℕ × Tree)

abbrev pub owned_pair : {A : Type 0} → ℕ × Term A → ℕ × Tree
owned_pair e = (e.0, view e.1)

abbrev pub owned_pairs : {A : Type 0} → List (ℕ × Term A) → Pairs
owned_pairs es = map owned_pair es

abbrev pub lent_pair : {A : Type 0} → ℕ × Bor (Term A) → ℕ × Tree
lent_pair e = (e.0, view e.1.now)

abbrev pub lent_pairs : {A : Type 0} → List (ℕ × Bor (Term A)) → Pairs
lent_pairs es = map lent_pair es

abbrev pub pairs_in : {A : Type 0} → List (ℕ × Term A) → List (ℕ × Bor (Term A)) → Pairs
pairs_in made added = owned_pairs made ++ lent_pairs added

-- the bindings that stand, and after them those that were added since
abbrev pub pairs_of : {A : Type 0} → Chains A → Pairs
pairs_of c = pairs_in c.made.now c.added.now

-- each pair binds its variable to its term under the bindings before it
abbrev pub extension_by : Subst → Pairs → Subst
extension_by s [] = s
extension_by s (e ∷ es) = extension_by (with_binding e.0 (apply s e.1) s) es

-- the substitution that the pairs stand for
abbrev pub solution : Pairs → Subst
solution = extension_by []

abbrev pub ArePairsBelow : ℕ → Pairs → Type 0
ArePairsBelow n [] = Unit {0}
ArePairsBelow n (e ∷ es) = (e.0 < n) × IsBelow n e.1 × ArePairsBelow n es

-- the least variable of a free class, at the link that has it
abbrev pub name_of : Option Link → Option ℕ
name_of None = None
name_of (Some (Free n z)) = Some n
name_of (Some (Follows p i)) = None
name_of (Some (Bound i)) = None

-- a link that goes on does so by a later binding
abbrev pub IsLater : ℕ → Option Link → Type 0
IsLater i None = Unit {0}
IsLater i (Some (Free n z)) = Unit {0}
IsLater i (Some (Follows p j)) = i < j
IsLater i (Some (Bound j)) = Unit {0}

-- the variable x stands for the term of the pair, which is no variable
abbrev pub StandsFor : Subst → ℕ → Option (ℕ × Tree) → Type 0
StandsFor s x None = ⊥
StandsFor s x (Some e) = (value_at s x ≡ apply s e.1) × IsNoVar e.1

-- the link of x leads to what x stands for under s
abbrev pub IsLinked : List Link → Pairs → Subst → ℕ → Option Link → Type 0
IsLinked links pairs s x None = value_at s x ≡ var x
IsLinked links pairs s x (Some (Free n z)) = (value_at s x ≡ var n) × (n < length links)
IsLinked links pairs s x (Some (Follows p i)) = (value_at s x ≡ value_at s p) × (p < length links) × (i < length pairs) × IsLater i (slice_get links p)
IsLinked links pairs s x (Some (Bound i)) = StandsFor s x (slice_get pairs i)

abbrev pub free_one : Link → ℕ
free_one (Free n z) = 1
free_one (Follows p i) = 0
free_one (Bound i) = 0

abbrev pub free_count : List Link → ℕ
free_count [] = 0
free_count (l ∷ ls) = free_one l + free_count ls

-- the links are those of the pairs: one class for each variable that is not bound, and every class is free or bound
pub record IsSound (links : List Link) (pairs : Pairs) : Type 0 where
  pub solved : IsSolved (solution pairs)
  pub below : ArePairsBelow (length links) pairs
  pub linked : (x : ℕ) → IsLinked links pairs (solution pairs) x (slice_get links x)
  pub once : (x y n : ℕ) → name_of (slice_get links x) ≡ Some n → name_of (slice_get links y) ≡ Some n → x ≡ y
  pub counted : free_count links + length pairs ≡ length links

abbrev pub AreSound : {A : Type 0} → Chains A → Type 0
AreSound c = IsSound c.links.now (pairs_of c)

abbrev pub subst_of : {A : Type 0} → Chains A → Subst
subst_of c = solution (pairs_of c)

-- The class that ends at x is joined with that which ends at y, by the binding i. Where y is free, either goes on at the other, and the
-- least variable of y stays.
abbrev pub IsJoinedAt : List Link → List Link → ℕ → ℕ → ℕ → Option Link → Type 0
IsJoinedAt links new x y i None = ⊥
IsJoinedAt links new x y i (Some (Free n z)) = (w : ℕ) × ((new ≡ set (set links x (Follows y i)) y (Free n w)) ⊎ (new ≡ set (set links y (Follows x i)) x (Free n w)))
IsJoinedAt links new x y i (Some (Follows p j)) = new ≡ set links x (Follows y i)
IsJoinedAt links new x y i (Some (Bound j)) = new ≡ set links x (Follows y i)

abbrev pub IsJoined : List Link → List Link → ℕ → ℕ → ℕ → Type 0
IsJoined links new x y i = IsJoinedAt links new x y i (slice_get links y)

-- the links as they were, from what they were at each place when it was changed, the last change last
abbrev pub links_before : List (ℕ × Link) → List Link → List Link
links_before [] links = links
links_before (e ∷ es) links = set (links_before es links) e.0 e.1

-- what was changed, the last change last
abbrev pub changed_links : Changed → List (ℕ × Link)
changed_links (One e) = e ∷ []
changed_links (Two e f) = e ∷ f ∷ []

-- the class of x ends at y: both stand for the same, and y goes on nowhere
abbrev pub IsLast : Option Link → Type 0
IsLast None = ⊥
IsLast (Some (Free n z)) = Unit {0}
IsLast (Some (Follows p i)) = ⊥
IsLast (Some (Bound i)) = Unit {0}

pub record IsEnd {A : Type 0} (c : Chains A) (x : ℕ) (y : ℕ) : Type 0 where
  pub known : y < length c.links.now
  pub same : value_at (subst_of c) x ≡ value_at (subst_of c) y
  pub last : IsLast (slice_get c.links.now y)

-- the new links have one more pair, and one free class less
pub record IsAttached (links new : List Link) (pairs : Pairs) (e : ℕ × Tree) : Type 0 where
  pub sound : IsSound new (pairs ++ e ∷ [])
  pub fewer : free_count new + 1 ≡ free_count links
  pub len : length new ≡ length links
