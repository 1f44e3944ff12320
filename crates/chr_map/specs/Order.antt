-- Entries in the order of their keys, one more of them, one less, one changed, and the one at a key.
use Rattle.std.specs.Prelude.{◌≡◌, Bool, not, List, [], ◌∷◌, Option, Some, None, filter}
use Rattle.std.specs.declared.cmp.Ordering.{Ordering}
use Rattle.std.specs.declared.cmp.Ordering.TheVariants.{Less, Equal, Greater}
use Rattle.std.specs.Ordering.{is_eq, match_ordering}

module _ {K V : Type 0} (cmp : K → K → Ordering) where
  -- all keys are greater than k
  abbrev pub AllAbove : K → List (K × V) → Type 0
  AllAbove k [] = Unit {0}
  AllAbove k (e ∷ es) = (cmp k e.0 ≡ Less) × AllAbove k es

  -- each key is less than all after it
  abbrev pub Ascends : List (K × V) → Type 0
  Ascends [] = Unit {0}
  Ascends (e ∷ es) = AllAbove e.0 es × Ascends es

  -- with the value v at the key k
  abbrev pub entry_put : List (K × V) → K → V → List (K × V)
  entry_put [] k v = (k, v) ∷ []
  entry_put (e ∷ es) k v = match_ordering (cmp k e.0) ((k, v) ∷ e ∷ es) ((e.0, v) ∷ es) (e ∷ entry_put es k v)

  -- with f applied to the value at the key k
  abbrev pub entry_edited : (V → V) → List (K × V) → K → List (K × V)
  entry_edited f [] k = []
  entry_edited f (e ∷ es) k = match_ordering (cmp k e.0) (e ∷ es) ((e.0, f e.1) ∷ es) (e ∷ entry_edited f es k)

  abbrev pub is_at : K → K × V → Bool
  is_at k e = is_eq (cmp k e.0)

  -- without the key k
  abbrev pub entry_removed : List (K × V) → K → List (K × V)
  entry_removed es k = filter (λ e. not (is_at k e)) es

  -- the value at the key k
  abbrev pub value_of : List (K × V) → K → Option V
  value_of [] k = None
  value_of (e ∷ es) k = match_ordering (cmp k e.0) None (Some e.1) (value_of es k)

  -- the key k is less than the first key, is it, or is greater than the last
  abbrev pub IsBelow : K → List (K × V) → Type 0
  IsBelow k [] = Unit {0}
  IsBelow k (e ∷ es) = cmp k e.0 ≡ Less

  abbrev pub IsAtFirst : K → List (K × V) → Type 0
  IsAtFirst k [] = ⊥
  IsAtFirst k (e ∷ es) = cmp k e.0 ≡ Equal

  abbrev pub IsAbove : K → List (K × V) → Type 0
  IsAbove k [] = Unit {0}
  IsAbove k (e ∷ []) = cmp k e.0 ≡ Greater
  IsAbove k (e ∷ f ∷ es) = IsAbove k (f ∷ es)

-- the first of these changed
abbrev pub on_first : {X : Type 0} → (X → X) → List X → List X
on_first f [] = []
on_first f (x ∷ xs) = f x ∷ xs
