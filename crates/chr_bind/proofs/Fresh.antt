-- A new variable is free.
use Rattle.std.proofs.Common.{◌≡◌, ℕ, ◌+◌, ◌<◌, ◌≤◌, Option, Some, None, List, [], ◌∷◌, ◌++◌, length, ap, refl, ◌∙◌, sym, subst, slice_get, ◌⊎◌, inl, inr, arith}
use Rattle.std.proofs.lemmas.Bool.Decides.{eqb_tells}
use Rattle.std.proofs.lemmas.Option.{slice_get_cases, slice_get_past}
use Rattle.chr_semantics.specs.Tree.{var}
use Rattle.chr_bind.specs.Chains.{ArePairsBelow, IsLater, IsLinked, IsSound, Pairs, free_count, name_of, solution}
use Rattle.chr_bind.specs.declared.chains.Link.{Link}
use Rattle.chr_bind.specs.declared.chains.Link.TheVariants.{Free, Follows, Bound}
use Rattle.chr_semantics.proofs.Below.{below_more}
use Rattle.chr_bind.proofs.Binds.{free_link, length-last}
use Rattle.chr_bind.proofs.Changed.{slice_get-before, slice_get-last}
use Rattle.chr_bind.proofs.Links.{free_beyond, linked_at}

pairs_below_more : (n m : ℕ) (es : Pairs) → n ≤ m → ArePairsBelow n es → ArePairsBelow m es
pairs_below_more n m [] h b = tt
pairs_below_more n m (e ∷ es) h b = (omega (arith, h, b.0), below_more n m e.1 h b.1, pairs_below_more n m es h b.2)

-- a place of a longer list: it was there, or it is the new one, or there is none
pushed : {A : Type 0} (xs : List A) (a : A) (y : ℕ) → ((y < length xs) × (slice_get (xs ++ a ∷ []) y ≡ slice_get xs y)) ⊎ (((y ≡ length xs) × (slice_get (xs ++ a ∷ []) y ≡ Some a)) ⊎ ((length xs < y) × (slice_get xs y ≡ None) × (slice_get (xs ++ a ∷ []) y ≡ None)))
pushed xs a y = elim (slice_get_cases xs y).1 [
  | inl p ↦ inl (p.1, slice_get-before xs y a p.0 p.2 ∙ sym p.2)
  | inr p ↦ elim (eqb_tells y (length xs)) [
    | inl e ↦ inr (inl (e.1, ap (slice_get (xs ++ a ∷ [])) e.1 ∙ slice_get-last xs a))
    | inr e ↦ let after : length xs < y = omega (arith, e.1, p.0) in inr (inr (after, p.1, slice_get_past (xs ++ a ∷ []) y (omega (arith, after, length-last xs a))))
  ]
]

free_count-last : (ls : List Link) (n z : ℕ) → free_count (ls ++ Free n z ∷ []) ≡ free_count ls + 1
free_count-last [] n z = refl
free_count-last (l ∷ ls) n z = let r = free_count-last ls n z in omega (arith, r)

module _ (links : List Link) (pairs : Pairs) (z : ℕ) (h : IsSound links pairs) where
  fresh_links : List Link
  fresh_links = links ++ Free (length links) z ∷ []

  length-fresh : length fresh_links ≡ length links + 1
  unfolding fresh_links
  length-fresh = length-last links (Free (length links) z)

  later_same : (i p : ℕ) → p < length links → IsLater i (slice_get links p) → IsLater i (slice_get fresh_links p)
  unfolding fresh_links
  later_same i p k l = elim (pushed links (Free (length links) z) p) [
    | inl q ↦ subst (IsLater i) (sym q.1) l
    | inr (inl q) ↦ absurd (omega (arith, k, q.0))
    | inr (inr q) ↦ absurd (omega (arith, k, q.0))
  ]

  linked_more : (x : ℕ) (o : Option Link) → IsLinked links pairs (solution pairs) x o → IsLinked fresh_links pairs (solution pairs) x o
  linked_more x None l = l
  linked_more x (Some (Free n y)) l = (l.0, omega (arith, l.1, length-fresh))
  linked_more x (Some (Follows p i)) l = (l.0, omega (arith, l.1, length-fresh), l.2, later_same i p l.1 l.3)
  linked_more x (Some (Bound i)) l = l

  linked_fresh : (x : ℕ) → IsLinked fresh_links pairs (solution pairs) x (slice_get fresh_links x)
  unfolding fresh_links
  linked_fresh x = elim (pushed links (Free (length links) z) x) [
    | inl q ↦ subst (IsLinked fresh_links pairs (solution pairs) x) (sym q.1) (linked_more x (slice_get links x) (h.linked x))
    | inr (inl q) ↦
        let free = free_beyond links pairs x h (slice_get_past links x (omega (arith, q.0))) in
        subst (IsLinked fresh_links pairs (solution pairs) x) (sym q.1) (free ∙ ap var q.0, omega (arith, length-last links (Free (length links) z)))
    | inr (inr q) ↦ subst (IsLinked fresh_links pairs (solution pairs) x) (sym q.2) (free_beyond links pairs x h q.1)
  ]

  -- a name is that of an old link, or the new variable's own
  name_fresh : (x n : ℕ) → name_of (slice_get fresh_links x) ≡ Some n → ((x ≡ length links) × (n ≡ length links)) ⊎ ((n < length links) × (name_of (slice_get links x) ≡ Some n))
  unfolding fresh_links
  name_fresh x n e = elim (pushed links (Free (length links) z) x) [
    | inl q ↦
        let old : name_of (slice_get links x) ≡ Some n = ap name_of (sym q.1) ∙ e in
        let f = free_link (slice_get links x) n old in
        inr ((linked_at links pairs x (Free n f.0) h f.1).1, old)
    | inr (inl q) ↦ let is : Some (length links) ≡ Some n = sym (ap name_of q.1) ∙ e in inl (q.0, cc)
    | inr (inr q) ↦ let none : None ≡ Some n = sym (ap name_of q.2) ∙ e in cc
  ]

  pub fresh_free : IsSound (links ++ Free (length links) z ∷ []) pairs
  unfolding fresh_links
  fresh_free =
      record {
        solved = h.solved;
        below = pairs_below_more (length links) (length fresh_links) pairs (omega (arith, length-fresh)) h.below;
        linked = linked_fresh;
        once = λ x y n ex ey. elim (name_fresh x n ex) [
          | inl p ↦ elim (name_fresh y n ey) [ inl q ↦ p.0 ∙ sym q.0 | inr q ↦ absurd (omega (arith, p.1, q.0)) ]
          | inr p ↦ elim (name_fresh y n ey) [ inl q ↦ absurd (omega (arith, q.1, p.0)) | inr q ↦ h.once x y n p.1 q.1 ]
        ];
        counted = omega (arith, h.counted, free_count-last links (length links) z, length-fresh);
      }
