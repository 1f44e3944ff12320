-- Entries between lesser and greater ones.
use Rattle.std.proofs.Common.{◌≡◌, ◌∙◌, List, [], ◌∷◌, ◌++◌, ap, drop, refl, sym}
use Rattle.std.proofs.lemmas.List.{append-nil}
use Rattle.std.specs.Prelude.{Some}
use Rattle.std.specs.Cmp.{IsTotalOrder}
use Rattle.std.specs.declared.cmp.Ordering.{Ordering}
use Rattle.std.specs.declared.cmp.Ordering.TheVariants.{Less, Equal, Greater}
use Rattle.chr_map.specs.Order.{AllAbove, Ascends, IsAbove, IsAtFirst, IsBelow, entry_edited, entry_put, entry_removed, on_first, value_of}
use Rattle.chr_map.proofs.Ordered.{AllCompare, all_less, back, edited_before, edited_here, edited_past, kept_apart, parted, put_before, put_here, put_past, removed_here, turned, value_before, value_here, value_past}

module _ {K V : Type 0} (cmp : K → K → Ordering) where
  -- the spans of entries that ascend
  ascends_back : (xs ys : List (K × V)) → Ascends cmp (xs ++ ys) → Ascends cmp ys
  ascends_back [] ys h = h
  ascends_back (x ∷ xs) ys h = ascends_back xs ys h.1

  above_front : (k : K) (xs ys : List (K × V)) → AllAbove cmp k (xs ++ ys) → AllAbove cmp k xs
  above_front k [] ys h = tt
  above_front k (x ∷ xs) ys h = (h.0, above_front k xs ys h.1)

  ascends_front : (xs ys : List (K × V)) → Ascends cmp (xs ++ ys) → Ascends cmp xs
  ascends_front [] ys h = tt
  ascends_front (x ∷ xs) ys h = (above_front x.0 xs ys h.0, ascends_front xs ys h.1)

  pub ascends_between : (xs ys zs : List (K × V)) → Ascends cmp (xs ++ (ys ++ zs)) → Ascends cmp ys
  ascends_between xs ys zs h = ascends_front ys zs (ascends_back xs (ys ++ zs) h)

  module _ (total : IsTotalOrder cmp) (k : K) where
    -- a key above the last is above all, and one below the first is below all
    all_before : (xs zs : List (K × V)) → Ascends cmp (xs ++ zs) → IsAbove cmp k xs → AllCompare cmp Greater k xs
    all_before [] zs up h = tt
    all_before (x ∷ []) zs up h = (h, tt)
    all_before (x ∷ y ∷ xs) zs up h =
        let r = all_before (y ∷ xs) zs up.1 h in
        (turned cmp total x.0 k (total.trans x.0 y.0 k up.0.0 (back cmp total k y.0 r.0)), r)

    all_behind : (zs : List (K × V)) → Ascends cmp zs → IsBelow cmp k zs → AllCompare cmp Less k zs
    all_behind [] up h = tt
    all_behind (z ∷ zs) up h = (h, all_less cmp total k z.0 zs up.0 h)

    -- putting
    put_front : (v : V) (ys zs : List (K × V)) → IsBelow cmp k zs → entry_put cmp (ys ++ zs) k v ≡ entry_put cmp ys k v ++ zs
    put_front v ys [] h = ap (λ (es : List (K × V)). entry_put cmp es k v) (append-nil ys) ∙ sym (append-nil (entry_put cmp ys k v))
    put_front v ys (z ∷ zs) h = put_before cmp k v ys z zs h

    pub put_between : (v : V) (xs ys zs : List (K × V)) → Ascends cmp (xs ++ (ys ++ zs)) → IsAbove cmp k xs → IsBelow cmp k zs → entry_put cmp (xs ++ (ys ++ zs)) k v ≡ xs ++ (entry_put cmp ys k v ++ zs)
    put_between v xs ys zs up a b = put_past cmp k v xs (ys ++ zs) (all_before xs (ys ++ zs) up a) ∙ ap (λ (es : List (K × V)). xs ++ es) (put_front v ys zs b)

    pub put_first : (v : V) (xs zs : List (K × V)) → Ascends cmp (xs ++ zs) → IsAtFirst cmp k zs → entry_put cmp (xs ++ zs) k v ≡ xs ++ on_first (λ (e : K × V). (e.0, v)) zs
    put_first v xs [] up h = absurd h
    put_first v xs (z ∷ zs) up h = put_here cmp total k v xs z zs up h

    -- changing
    edited_front : (f : V → V) (ys zs : List (K × V)) → IsBelow cmp k zs → entry_edited cmp f (ys ++ zs) k ≡ entry_edited cmp f ys k ++ zs
    edited_front f ys [] h = ap (λ (es : List (K × V)). entry_edited cmp f es k) (append-nil ys) ∙ sym (append-nil (entry_edited cmp f ys k))
    edited_front f ys (z ∷ zs) h = edited_before cmp f k ys z zs h

    pub edited_between : (f : V → V) (xs ys zs : List (K × V)) → Ascends cmp (xs ++ (ys ++ zs)) → IsAbove cmp k xs → IsBelow cmp k zs → entry_edited cmp f (xs ++ (ys ++ zs)) k ≡ xs ++ (entry_edited cmp f ys k ++ zs)
    edited_between f xs ys zs up a b = edited_past cmp f k xs (ys ++ zs) (all_before xs (ys ++ zs) up a) ∙ ap (λ (es : List (K × V)). xs ++ es) (edited_front f ys zs b)

    pub edited_first : (f : V → V) (xs zs : List (K × V)) → Ascends cmp (xs ++ zs) → IsAtFirst cmp k zs → entry_edited cmp f (xs ++ zs) k ≡ xs ++ on_first (λ (e : K × V). (e.0, f e.1)) zs
    edited_first f xs [] up h = absurd h
    edited_first f xs (z ∷ zs) up h = edited_here cmp f total k xs z zs up h

    -- looking up
    value_front : (ys zs : List (K × V)) → IsBelow cmp k zs → value_of cmp (ys ++ zs) k ≡ value_of cmp ys k
    value_front ys [] h = ap (λ (es : List (K × V)). value_of cmp es k) (append-nil ys)
    value_front ys (z ∷ zs) h = value_before cmp k ys z zs h

    pub value_between : (xs ys zs : List (K × V)) → Ascends cmp (xs ++ (ys ++ zs)) → IsAbove cmp k xs → IsBelow cmp k zs → value_of cmp (xs ++ (ys ++ zs)) k ≡ value_of cmp ys k
    value_between xs ys zs up a b = value_past cmp k xs (ys ++ zs) (all_before xs (ys ++ zs) up a) ∙ value_front ys zs b

    pub value_first : (xs : List (K × V)) (z : K × V) (zs : List (K × V)) → Ascends cmp (xs ++ z ∷ zs) → cmp k z.0 ≡ Equal → value_of cmp (xs ++ z ∷ zs) k ≡ Some z.1
    value_first xs z zs up h = value_here cmp total k xs z zs up h

    -- taking out
    pub removed_between : (xs ys zs : List (K × V)) → Ascends cmp (xs ++ (ys ++ zs)) → IsAbove cmp k xs → IsBelow cmp k zs → entry_removed cmp (xs ++ (ys ++ zs)) k ≡ xs ++ (entry_removed cmp ys k ++ zs)
    removed_between xs ys zs up a b =
        parted cmp k xs (ys ++ zs)
        ∙ (ap (λ (es : List (K × V)). es ++ entry_removed cmp (ys ++ zs) k) (kept_apart cmp Greater refl k xs (all_before xs (ys ++ zs) up a))
        ∙ ap (λ (es : List (K × V)). xs ++ es) (parted cmp k ys zs ∙ ap (λ (es : List (K × V)). entry_removed cmp ys k ++ es) (kept_apart cmp Less refl k zs (all_behind zs (ascends_back ys zs (ascends_back xs (ys ++ zs) up)) b))))

    pub removed_first : (xs zs : List (K × V)) → Ascends cmp (xs ++ zs) → IsAtFirst cmp k zs → entry_removed cmp (xs ++ zs) k ≡ xs ++ drop 1 zs
    removed_first xs [] up h = absurd h
    removed_first xs (z ∷ zs) up h = removed_here cmp total k xs z zs up h
