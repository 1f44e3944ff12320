-- Entries in order: what a span before or after a key has to do with it.
use Rattle.std.proofs.Common.{◌≡◌, ◌∙◌, Bool, true, false, not, cond, List, [], ◌∷◌, ◌++◌, ap, refl, sym}
use Rattle.std.specs.Prelude.{Some, None}
use Rattle.std.specs.Cmp.{IsTotalOrder}
use Rattle.std.specs.declared.cmp.Ordering.{Ordering}
use Rattle.std.specs.declared.cmp.Ordering.TheVariants.{Less, Equal, Greater}
use Rattle.std.specs.Ordering.{is_eq, match_ordering, ordering_reverse}
use Rattle.std.proofs.lemmas.List.Elements.{filter-append}
use Rattle.chr_map.specs.Order.{AllAbove, Ascends, entry_edited, entry_put, entry_removed, is_at, value_of}

module _ {K : Type 0} (cmp : K → K → Ordering) (total : IsTotalOrder cmp) where
  pub turned : (j k : K) → cmp j k ≡ Less → cmp k j ≡ Greater
  turned j k e = total.antisymm k j ∙ ap ordering_reverse e

  pub back : (j k : K) → cmp j k ≡ Greater → cmp k j ≡ Less
  back j k e = total.antisymm k j ∙ ap ordering_reverse e

  -- keys that are equal compare alike to others
  pub alike : (j k m : K) → cmp k m ≡ Equal → cmp j k ≡ cmp j m
  alike j k m e = total.antisymm j k ∙ (ap ordering_reverse (total.congr k m j e) ∙ sym (total.antisymm j m))

module _ {K V : Type 0} (cmp : K → K → Ordering) where
  -- all keys compare to k so
  abbrev pub AllCompare : Ordering → K → List (K × V) → Type 0
  AllCompare o k [] = Unit {0}
  AllCompare o k (e ∷ es) = (cmp k e.0 ≡ o) × AllCompare o k es

  above_parts : (k : K) (xs : List (K × V)) (m : K × V) (ys : List (K × V)) → AllAbove cmp k (xs ++ m ∷ ys) → cmp k m.0 ≡ Less
  above_parts k [] m ys h = h.0
  above_parts k (x ∷ xs) m ys h = above_parts k xs m ys h.1

  above_first : (k : K) (xs zs : List (K × V)) → AllAbove cmp k (xs ++ zs) → AllAbove cmp k xs
  above_first k [] zs h = tt
  above_first k (x ∷ xs) zs h = (h.0, above_first k xs zs h.1)

  -- the spans of entries that ascend
  pub ascends_before : (xs : List (K × V)) (m : K × V) (ys : List (K × V)) → Ascends cmp (xs ++ m ∷ ys) → Ascends cmp xs
  ascends_before [] m ys h = tt
  ascends_before (x ∷ xs) m ys h = (above_first x.0 xs (m ∷ ys) h.0, ascends_before xs m ys h.1)

  pub ascends_from : (xs : List (K × V)) (m : K × V) (ys : List (K × V)) → Ascends cmp (xs ++ m ∷ ys) → Ascends cmp (m ∷ ys)
  ascends_from [] m ys h = h
  ascends_from (x ∷ xs) m ys h = ascends_from xs m ys h.1

  module _ (total : IsTotalOrder cmp) where
    -- a key that is not less than the entry m is greater than all before it
    all_greater : (k : K) (xs : List (K × V)) (m : K × V) (ys : List (K × V)) → Ascends cmp (xs ++ m ∷ ys) → cmp k m.0 ≡ Greater → AllCompare Greater k xs
    all_greater k [] m ys h e = tt
    all_greater k (x ∷ xs) m ys h e = (turned cmp total x.0 k (total.trans x.0 m.0 k (above_parts x.0 xs m ys h.0) (back cmp total k m.0 e)), all_greater k xs m ys h.1 e)

    all_greater_at : (k : K) (xs : List (K × V)) (m : K × V) (ys : List (K × V)) → Ascends cmp (xs ++ m ∷ ys) → cmp k m.0 ≡ Equal → AllCompare Greater k xs
    all_greater_at k [] m ys h e = tt
    all_greater_at k (x ∷ xs) m ys h e = (total.congr k m.0 x.0 e ∙ turned cmp total x.0 m.0 (above_parts x.0 xs m ys h.0), all_greater_at k xs m ys h.1 e)

    -- and one that is not greater is less than all after it
    pub all_less : (k m : K) (ys : List (K × V)) → AllAbove cmp m ys → cmp k m ≡ Less → AllCompare Less k ys
    all_less k m [] h e = tt
    all_less k m (y ∷ ys) h e = (total.trans k m y.0 e h.0, all_less k m ys h.1 e)

    all_less_at : (k m : K) (ys : List (K × V)) → AllAbove cmp m ys → cmp k m ≡ Equal → AllCompare Less k ys
    all_less_at k m [] h e = tt
    all_less_at k m (y ∷ ys) h e = (total.congr k m y.0 e ∙ h.0, all_less_at k m ys h.1 e)

  -- putting
  put_at : (o : Ordering) (k : K) (v : V) (x : K × V) (xs zs : List (K × V)) → entry_put cmp (xs ++ zs) k v ≡ entry_put cmp xs k v ++ zs
      → match_ordering o ((k, v) ∷ x ∷ (xs ++ zs)) ((x.0, v) ∷ (xs ++ zs)) (x ∷ entry_put cmp (xs ++ zs) k v) ≡ match_ordering o ((k, v) ∷ x ∷ xs) ((x.0, v) ∷ xs) (x ∷ entry_put cmp xs k v) ++ zs
  put_at Less k v x xs zs go = refl
  put_at Equal k v x xs zs go = refl
  put_at Greater k v x xs zs go = ap (λ (l : List (K × V)). x ∷ l) go

  pub put_before : (k : K) (v : V) (xs : List (K × V)) (m : K × V) (ys : List (K × V)) → cmp k m.0 ≡ Less → entry_put cmp (xs ++ m ∷ ys) k v ≡ entry_put cmp xs k v ++ m ∷ ys
  put_before k v [] m ys e = rw e refl
  put_before k v (x ∷ xs) m ys e = put_at (cmp k x.0) k v x xs (m ∷ ys) (put_before k v xs m ys e)

  pub put_past : (k : K) (v : V) (xs zs : List (K × V)) → AllCompare Greater k xs → entry_put cmp (xs ++ zs) k v ≡ xs ++ entry_put cmp zs k v
  put_past k v [] zs h = refl
  put_past k v (x ∷ xs) zs h = rw h.0 (ap (λ (l : List (K × V)). x ∷ l) (put_past k v xs zs h.1))

  pub put_here : IsTotalOrder cmp → (k : K) (v : V) (xs : List (K × V)) (m : K × V) (ys : List (K × V)) → Ascends cmp (xs ++ m ∷ ys) → cmp k m.0 ≡ Equal → entry_put cmp (xs ++ m ∷ ys) k v ≡ xs ++ (m.0, v) ∷ ys
  put_here total k v xs m ys up e = put_past k v xs (m ∷ ys) (all_greater_at total k xs m ys up e) ∙ rw e refl

  pub put_after : IsTotalOrder cmp → (k : K) (v : V) (xs : List (K × V)) (m : K × V) (ys : List (K × V)) → Ascends cmp (xs ++ m ∷ ys) → cmp k m.0 ≡ Greater → entry_put cmp (xs ++ m ∷ ys) k v ≡ xs ++ m ∷ entry_put cmp ys k v
  put_after total k v xs m ys up e = put_past k v xs (m ∷ ys) (all_greater total k xs m ys up e) ∙ rw e refl

  -- changing
  module _ (f : V → V) where
    edited_at : (o : Ordering) (k : K) (x : K × V) (xs zs : List (K × V)) → entry_edited cmp f (xs ++ zs) k ≡ entry_edited cmp f xs k ++ zs
        → match_ordering o (x ∷ (xs ++ zs)) ((x.0, f x.1) ∷ (xs ++ zs)) (x ∷ entry_edited cmp f (xs ++ zs) k) ≡ match_ordering o (x ∷ xs) ((x.0, f x.1) ∷ xs) (x ∷ entry_edited cmp f xs k) ++ zs
    edited_at Less k x xs zs go = refl
    edited_at Equal k x xs zs go = refl
    edited_at Greater k x xs zs go = ap (λ (l : List (K × V)). x ∷ l) go

    pub edited_before : (k : K) (xs : List (K × V)) (m : K × V) (ys : List (K × V)) → cmp k m.0 ≡ Less → entry_edited cmp f (xs ++ m ∷ ys) k ≡ entry_edited cmp f xs k ++ m ∷ ys
    edited_before k [] m ys e = rw e refl
    edited_before k (x ∷ xs) m ys e = edited_at (cmp k x.0) k x xs (m ∷ ys) (edited_before k xs m ys e)

    pub edited_past : (k : K) (xs zs : List (K × V)) → AllCompare Greater k xs → entry_edited cmp f (xs ++ zs) k ≡ xs ++ entry_edited cmp f zs k
    edited_past k [] zs h = refl
    edited_past k (x ∷ xs) zs h = rw h.0 (ap (λ (l : List (K × V)). x ∷ l) (edited_past k xs zs h.1))

    pub edited_here : IsTotalOrder cmp → (k : K) (xs : List (K × V)) (m : K × V) (ys : List (K × V)) → Ascends cmp (xs ++ m ∷ ys) → cmp k m.0 ≡ Equal → entry_edited cmp f (xs ++ m ∷ ys) k ≡ xs ++ (m.0, f m.1) ∷ ys
    edited_here total k xs m ys up e = edited_past k xs (m ∷ ys) (all_greater_at total k xs m ys up e) ∙ rw e refl

    pub edited_after : IsTotalOrder cmp → (k : K) (xs : List (K × V)) (m : K × V) (ys : List (K × V)) → Ascends cmp (xs ++ m ∷ ys) → cmp k m.0 ≡ Greater → entry_edited cmp f (xs ++ m ∷ ys) k ≡ xs ++ m ∷ entry_edited cmp f ys k
    edited_after total k xs m ys up e = edited_past k xs (m ∷ ys) (all_greater total k xs m ys up e) ∙ rw e refl

  -- looking up
  value_at_test : (o : Ordering) (k : K) (x : K × V) (xs zs : List (K × V)) → value_of cmp (xs ++ zs) k ≡ value_of cmp xs k → match_ordering o None (Some x.1) (value_of cmp (xs ++ zs) k) ≡ match_ordering o None (Some x.1) (value_of cmp xs k)
  value_at_test Less k x xs zs go = refl
  value_at_test Equal k x xs zs go = refl
  value_at_test Greater k x xs zs go = go

  pub value_before : (k : K) (xs : List (K × V)) (m : K × V) (ys : List (K × V)) → cmp k m.0 ≡ Less → value_of cmp (xs ++ m ∷ ys) k ≡ value_of cmp xs k
  value_before k [] m ys e = rw e refl
  value_before k (x ∷ xs) m ys e = value_at_test (cmp k x.0) k x xs (m ∷ ys) (value_before k xs m ys e)

  pub value_past : (k : K) (xs zs : List (K × V)) → AllCompare Greater k xs → value_of cmp (xs ++ zs) k ≡ value_of cmp zs k
  value_past k [] zs h = refl
  value_past k (x ∷ xs) zs h = rw h.0 (value_past k xs zs h.1)

  pub value_here : IsTotalOrder cmp → (k : K) (xs : List (K × V)) (m : K × V) (ys : List (K × V)) → Ascends cmp (xs ++ m ∷ ys) → cmp k m.0 ≡ Equal → value_of cmp (xs ++ m ∷ ys) k ≡ Some m.1
  value_here total k xs m ys up e = value_past k xs (m ∷ ys) (all_greater_at total k xs m ys up e) ∙ rw e refl

  pub value_after : IsTotalOrder cmp → (k : K) (xs : List (K × V)) (m : K × V) (ys : List (K × V)) → Ascends cmp (xs ++ m ∷ ys) → cmp k m.0 ≡ Greater → value_of cmp (xs ++ m ∷ ys) k ≡ value_of cmp ys k
  value_after total k xs m ys up e = value_past k xs (m ∷ ys) (all_greater total k xs m ys up e) ∙ rw e refl

  -- taking out
  pub kept_apart : (o : Ordering) → is_eq o ≡ false → (k : K) (xs : List (K × V)) → AllCompare o k xs → entry_removed cmp xs k ≡ xs
  kept_apart o not_eq k [] h = refl
  kept_apart o not_eq k (x ∷ xs) h = rw (h.0, not_eq) (ap (λ (l : List (K × V)). x ∷ l) (kept_apart o not_eq k xs h.1))

  pub parted : (k : K) (xs zs : List (K × V)) → entry_removed cmp (xs ++ zs) k ≡ entry_removed cmp xs k ++ entry_removed cmp zs k
  parted k xs zs = filter-append (λ e. not (is_at cmp k e)) xs zs

  pub removed_before : IsTotalOrder cmp → (k : K) (xs : List (K × V)) (m : K × V) (ys : List (K × V)) → Ascends cmp (xs ++ m ∷ ys) → cmp k m.0 ≡ Less → entry_removed cmp (xs ++ m ∷ ys) k ≡ entry_removed cmp xs k ++ m ∷ ys
  removed_before total k xs m ys up e =
      parted k xs (m ∷ ys) ∙ ap (λ (l : List (K × V)). entry_removed cmp xs k ++ l) (rw e (ap (λ (l : List (K × V)). m ∷ l) (kept_apart Less refl k ys (all_less total k m.0 ys (ascends_from xs m ys up).0 e))))

  pub removed_here : IsTotalOrder cmp → (k : K) (xs : List (K × V)) (m : K × V) (ys : List (K × V)) → Ascends cmp (xs ++ m ∷ ys) → cmp k m.0 ≡ Equal → entry_removed cmp (xs ++ m ∷ ys) k ≡ xs ++ ys
  removed_here total k xs m ys up e =
      parted k xs (m ∷ ys)
      ∙ (ap (λ (l : List (K × V)). l ++ entry_removed cmp (m ∷ ys) k) (kept_apart Greater refl k xs (all_greater_at total k xs m ys up e))
      ∙ ap (λ (l : List (K × V)). xs ++ l) (rw e (kept_apart Less refl k ys (all_less_at total k m.0 ys (ascends_from xs m ys up).0 e))))

  pub removed_after : IsTotalOrder cmp → (k : K) (xs : List (K × V)) (m : K × V) (ys : List (K × V)) → Ascends cmp (xs ++ m ∷ ys) → cmp k m.0 ≡ Greater → entry_removed cmp (xs ++ m ∷ ys) k ≡ xs ++ m ∷ entry_removed cmp ys k
  removed_after total k xs m ys up e =
      parted k xs (m ∷ ys) ∙ (ap (λ (l : List (K × V)). l ++ entry_removed cmp (m ∷ ys) k) (kept_apart Greater refl k xs (all_greater total k xs m ys up e)) ∙ ap (λ (l : List (K × V)). xs ++ l) (rw e refl))

  -- entries go on to ascend
  above_put_at : (j k : K) (v : V) (e : K × V) (es : List (K × V)) (o : Ordering) → cmp j k ≡ Less → AllAbove cmp j (e ∷ es) → AllAbove cmp j (entry_put cmp es k v) → AllAbove cmp j (match_ordering o ((k, v) ∷ e ∷ es) ((e.0, v) ∷ es) (e ∷ entry_put cmp es k v))
  above_put_at j k v e es Less less h go = (less, h)
  above_put_at j k v e es Equal less h go = h
  above_put_at j k v e es Greater less h go = (h.0, go)

  above_put : (j k : K) (v : V) (es : List (K × V)) → cmp j k ≡ Less → AllAbove cmp j es → AllAbove cmp j (entry_put cmp es k v)
  above_put j k v [] less h = (less, tt)
  above_put j k v (e ∷ es) less h = above_put_at j k v e es (cmp k e.0) less h (above_put j k v es less h.1)

  above_more : IsTotalOrder cmp → (j k : K) (es : List (K × V)) → cmp j k ≡ Less → AllAbove cmp k es → AllAbove cmp j es
  above_more total j k [] less h = tt
  above_more total j k (e ∷ es) less h = (total.trans j k e.0 less h.0, above_more total j k es less h.1)

  ascends_put_at : IsTotalOrder cmp → (k : K) (v : V) (e : K × V) (es : List (K × V)) (o : Ordering) → cmp k e.0 ≡ o → Ascends cmp (e ∷ es) → Ascends cmp (entry_put cmp es k v) → Ascends cmp (match_ordering o ((k, v) ∷ e ∷ es) ((e.0, v) ∷ es) (e ∷ entry_put cmp es k v))
  ascends_put_at total k v e es Less is h go = ((is, above_more total k e.0 es is h.0), h)
  ascends_put_at total k v e es Equal is h go = h
  ascends_put_at total k v e es Greater is h go = (above_put e.0 k v es (back cmp total k e.0 is) h.0, go)

  pub ascends_put : IsTotalOrder cmp → (k : K) (v : V) (es : List (K × V)) → Ascends cmp es → Ascends cmp (entry_put cmp es k v)
  ascends_put total k v [] h = (tt, tt)
  ascends_put total k v (e ∷ es) h = ascends_put_at total k v e es (cmp k e.0) refl h (ascends_put total k v es h.1)

  above_removed_at : (j : K) (e : K × V) (es : List (K × V)) (b : Bool) → cmp j e.0 ≡ Less → AllAbove cmp j es → AllAbove cmp j (cond b (e ∷ es) es)
  above_removed_at j e es true less h = (less, h)
  above_removed_at j e es false less h = h

  above_removed : (j k : K) (es : List (K × V)) → AllAbove cmp j es → AllAbove cmp j (entry_removed cmp es k)
  above_removed j k [] h = tt
  above_removed j k (e ∷ es) h = above_removed_at j e (entry_removed cmp es k) (not (is_at cmp k e)) h.0 (above_removed j k es h.1)

  ascends_removed_at : (e : K × V) (es : List (K × V)) (b : Bool) → AllAbove cmp e.0 es → Ascends cmp es → Ascends cmp (cond b (e ∷ es) es)
  ascends_removed_at e es true above h = (above, h)
  ascends_removed_at e es false above h = h

  pub ascends_removed : (k : K) (es : List (K × V)) → Ascends cmp es → Ascends cmp (entry_removed cmp es k)
  ascends_removed k [] h = tt
  ascends_removed k (e ∷ es) h = ascends_removed_at e (entry_removed cmp es k) (not (is_at cmp k e)) (above_removed e.0 k es h.0) (ascends_removed k es h.1)

  above_edited_at : (f : V → V) (j : K) (e : K × V) (es new : List (K × V)) (o : Ordering) → AllAbove cmp j (e ∷ es) → AllAbove cmp j new → AllAbove cmp j (match_ordering o (e ∷ es) ((e.0, f e.1) ∷ es) (e ∷ new))
  above_edited_at f j e es new Less h go = h
  above_edited_at f j e es new Equal h go = h
  above_edited_at f j e es new Greater h go = (h.0, go)

  above_edited : (f : V → V) (j k : K) (es : List (K × V)) → AllAbove cmp j es → AllAbove cmp j (entry_edited cmp f es k)
  above_edited f j k [] h = tt
  above_edited f j k (e ∷ es) h = above_edited_at f j e es (entry_edited cmp f es k) (cmp k e.0) h (above_edited f j k es h.1)

  ascends_edited_at : (f : V → V) (e : K × V) (es new : List (K × V)) (o : Ordering) → Ascends cmp (e ∷ es) → AllAbove cmp e.0 new → Ascends cmp new → Ascends cmp (match_ordering o (e ∷ es) ((e.0, f e.1) ∷ es) (e ∷ new))
  ascends_edited_at f e es new Less h above go = h
  ascends_edited_at f e es new Equal h above go = h
  ascends_edited_at f e es new Greater h above go = (above, go)

  pub ascends_edited : (f : V → V) (k : K) (es : List (K × V)) → Ascends cmp es → Ascends cmp (entry_edited cmp f es k)
  ascends_edited f k [] h = tt
  ascends_edited f k (e ∷ es) h = ascends_edited_at f e es (entry_edited cmp f es k) (cmp k e.0) h (above_edited f e.0 k es h.0) (ascends_edited f k es h.1)
