-- What is at a key after a change.
use Rattle.std.proofs.Common.{◌≡◌, ◌∙◌, Bool, true, false, not, cond, List, [], ◌∷◌, ap, refl, sym}
use Rattle.std.specs.Prelude.{Option, Some, None}
use Rattle.std.specs.Cmp.{IsTotalOrder}
use Rattle.std.specs.Option.{option_map}
use Rattle.std.specs.declared.cmp.Ordering.{Ordering}
use Rattle.std.specs.declared.cmp.Ordering.TheVariants.{Less, Equal, Greater}
use Rattle.std.specs.Ordering.{is_eq, match_ordering, ordering_reverse}
use Rattle.chr_map.specs.Order.{AllAbove, Ascends, entry_edited, entry_put, entry_removed, value_of}
use Rattle.chr_map.proofs.Ordered.{alike, back}

module _ {K V : Type 0} (cmp : K → K → Ordering) (total : IsTotalOrder cmp) where
  -- less than a key that all others are above
  none_below : (j k : K) (es : List (K × V)) → cmp j k ≡ Less → AllAbove cmp k es → value_of cmp es j ≡ None
  none_below j k [] less above = refl
  none_below j k (e ∷ es) less above = rw (total.trans j k e.0 less above.0) refl

  put_in_none : (o : Ordering) (v : V) → match_ordering o None (Some v) None ≡ cond (is_eq o) (Some v) None
  put_in_none Less v = refl
  put_in_none Equal v = refl
  put_in_none Greater v = refl

  put_in_front : (j k : K) (v : V) (e : K × V) (es : List (K × V)) (o : Ordering) → cmp k e.0 ≡ Less → cmp j k ≡ o
      → match_ordering o None (Some v) (value_of cmp (e ∷ es) j) ≡ cond (is_eq o) (Some v) (value_of cmp (e ∷ es) j)
  put_in_front j k v e es Less less at = rw (total.trans j k e.0 at less) refl
  put_in_front j k v e es Equal less at = refl
  put_in_front j k v e es Greater less at = refl

  put_on : (v : V) (x : V) (o : Ordering) (rest : Option V) → match_ordering o None (Some v) rest ≡ cond (is_eq o) (Some v) (match_ordering o None (Some x) rest)
  put_on v x Less rest = refl
  put_on v x Equal rest = refl
  put_on v x Greater rest = refl

  put_further : (j k : K) (v x : V) (m : K) (o : Ordering) (old new : Option V) → cmp k m ≡ Greater → cmp j m ≡ o → new ≡ cond (is_eq (cmp j k)) (Some v) old
      → match_ordering o None (Some x) new ≡ cond (is_eq (cmp j k)) (Some v) (match_ordering o None (Some x) old)
  put_further j k v x m Less old new greater at is = rw (total.trans j m k at (back cmp total k m greater)) refl
  put_further j k v x m Equal old new greater at is = rw (total.congr j m k at, back cmp total k m greater) refl
  put_further j k v x m Greater old new greater at is = is

  put_at : (j k : K) (v : V) (e : K × V) (es : List (K × V)) (o : Ordering) → cmp k e.0 ≡ o → value_of cmp (entry_put cmp es k v) j ≡ cond (is_eq (cmp j k)) (Some v) (value_of cmp es j)
      → value_of cmp (match_ordering o ((k, v) ∷ e ∷ es) ((e.0, v) ∷ es) (e ∷ entry_put cmp es k v)) j ≡ cond (is_eq (cmp j k)) (Some v) (value_of cmp (e ∷ es) j)
  put_at j k v e es Less at go = put_in_front j k v e es (cmp j k) at refl
  put_at j k v e es Equal at go = put_on v e.1 (cmp j e.0) (value_of cmp es j) ∙ ap (λ (o : Ordering). cond (is_eq o) (Some v) (value_of cmp (e ∷ es) j)) (sym (alike cmp total j k e.0 at))
  put_at j k v e es Greater at go = put_further j k v e.1 e.0 (cmp j e.0) (value_of cmp es j) (value_of cmp (entry_put cmp es k v) j) at refl go

  -- at a key where a value was put it stands, and elsewhere what stood there
  pub value_of-put : (es : List (K × V)) (k : K) (v : V) (j : K) → value_of cmp (entry_put cmp es k v) j ≡ cond (is_eq (cmp j k)) (Some v) (value_of cmp es j)
  value_of-put [] k v j = put_in_none (cmp j k) v
  value_of-put (e ∷ es) k v j = put_at j k v e es (cmp k e.0) refl (value_of-put es k v j)

  -- at keys that are equal stands the same
  pub same_value : (j k : K) (es : List (K × V)) → cmp j k ≡ Equal → value_of cmp es j ≡ value_of cmp es k
  same_value j k [] is = refl
  same_value j k (e ∷ es) is = rw (total.congr j k e.0 is, same_value j k es is) refl

  not_here : (o : Ordering) (v x : V) (rest : Option V) → is_eq o ≡ false → match_ordering o None (Some v) rest ≡ match_ordering o None (Some x) rest
  not_here Less v x rest e = refl
  not_here Equal v x rest e = cc
  not_here Greater v x rest e = refl

  module _ (f : V → V) (k : K) where
    edited_there_at : (e : K × V) (es : List (K × V)) (o : Ordering) → cmp k e.0 ≡ o → value_of cmp (entry_edited cmp f es k) k ≡ option_map f (value_of cmp es k)
        → value_of cmp (match_ordering o (e ∷ es) ((e.0, f e.1) ∷ es) (e ∷ entry_edited cmp f es k)) k ≡ option_map f (match_ordering o None (Some e.1) (value_of cmp es k))
    edited_there_at e es Less at go = rw at refl
    edited_there_at e es Equal at go = rw at refl
    edited_there_at e es Greater at go = rw at go

    edited_there : (es : List (K × V)) → value_of cmp (entry_edited cmp f es k) k ≡ option_map f (value_of cmp es k)
    edited_there [] = refl
    edited_there (e ∷ es) = edited_there_at e es (cmp k e.0) refl (edited_there es)

    edited_elsewhere_at : (j : K) (e : K × V) (es : List (K × V)) (o : Ordering) → cmp k e.0 ≡ o → is_eq (cmp j k) ≡ false → value_of cmp (entry_edited cmp f es k) j ≡ value_of cmp es j
        → value_of cmp (match_ordering o (e ∷ es) ((e.0, f e.1) ∷ es) (e ∷ entry_edited cmp f es k)) j ≡ value_of cmp (e ∷ es) j
    edited_elsewhere_at j e es Less at other go = refl
    edited_elsewhere_at j e es Equal at other go = not_here (cmp j e.0) (f e.1) e.1 (value_of cmp es j) (ap is_eq (sym (alike cmp total j k e.0 at)) ∙ other)
    edited_elsewhere_at j e es Greater at other go = ap (λ (rest : Option V). match_ordering (cmp j e.0) None (Some e.1) rest) go

    edited_elsewhere : (es : List (K × V)) (j : K) → is_eq (cmp j k) ≡ false → value_of cmp (entry_edited cmp f es k) j ≡ value_of cmp es j
    edited_elsewhere [] j other = refl
    edited_elsewhere (e ∷ es) j other = edited_elsewhere_at j e es (cmp k e.0) refl other (edited_elsewhere es j other)

    edited_by_order : (es : List (K × V)) (j : K) (o : Ordering) → cmp j k ≡ o → value_of cmp (entry_edited cmp f es k) j ≡ cond (is_eq o) (option_map f (value_of cmp es j)) (value_of cmp es j)
    edited_by_order es j Less is = edited_elsewhere es j (ap is_eq is)
    edited_by_order es j Equal is = same_value j k (entry_edited cmp f es k) is ∙ (edited_there es ∙ ap (option_map f) (sym (same_value j k es is)))
    edited_by_order es j Greater is = edited_elsewhere es j (ap is_eq is)

  -- at a key whose value was changed stands the new one, and elsewhere what stood there
  pub value_of-edited : (f : V → V) (es : List (K × V)) (k j : K) → value_of cmp (entry_edited cmp f es k) j ≡ cond (is_eq (cmp j k)) (option_map f (value_of cmp es j)) (value_of cmp es j)
  value_of-edited f es k j = edited_by_order f k es j (cmp j k) refl

  gone : (j k m : K) (x : V) (o : Ordering) (old : Option V) → cmp k m ≡ Equal → cmp j m ≡ o → (o ≡ Less → old ≡ None) → cond (is_eq (cmp j k)) None old ≡ cond (is_eq (cmp j k)) None (match_ordering o None (Some x) old)
  gone j k m x Less old at is none = rw (none refl) refl
  gone j k m x Equal old at is none = rw (alike cmp total j k m at, is) refl
  gone j k m x Greater old at is none = refl

  stays : (j k m : K) (x : V) (o : Ordering) (old new : Option V) → is_eq (cmp k m) ≡ false → cmp j m ≡ o → new ≡ cond (is_eq (cmp j k)) None old
      → match_ordering o None (Some x) new ≡ cond (is_eq (cmp j k)) None (match_ordering o None (Some x) old)
  stays j k m x Less old new other at is = none_either (is_eq (cmp j k))
    where
      none_either : (b : Bool) → ◌≡◌ {A = Option V} None (cond b None None)
      none_either true = refl
      none_either false = refl
  stays j k m x Equal old new other at is = rw (total.congr j m k at, total.antisymm m k) (by_order (cmp k m) other)
    where
      by_order : (o : Ordering) → is_eq o ≡ false → Some x ≡ cond (is_eq (ordering_reverse o)) None (Some x)
      by_order Less e = refl
      by_order Greater e = refl
      by_order Equal e = ap (λ (b : Bool). cond b None (Some x)) (sym e)
  stays j k m x Greater old new other at is = is

  removed_at : (j k : K) (e : K × V) (es : List (K × V)) (o : Ordering) → cmp k e.0 ≡ o → AllAbove cmp e.0 es → value_of cmp (entry_removed cmp es k) j ≡ cond (is_eq (cmp j k)) None (value_of cmp es j)
      → value_of cmp (cond (not (is_eq o)) (e ∷ entry_removed cmp es k) (entry_removed cmp es k)) j ≡ cond (is_eq (cmp j k)) None (value_of cmp (e ∷ es) j)
  removed_at j k e es Equal at above go = go ∙ gone j k e.0 e.1 (cmp j e.0) (value_of cmp es j) at refl (λ less. none_below j e.0 es less above)
  removed_at j k e es Less at above go = stays j k e.0 e.1 (cmp j e.0) (value_of cmp es j) (value_of cmp (entry_removed cmp es k) j) (ap is_eq at) refl go
  removed_at j k e es Greater at above go = stays j k e.0 e.1 (cmp j e.0) (value_of cmp es j) (value_of cmp (entry_removed cmp es k) j) (ap is_eq at) refl go

  -- nothing is at a key that was removed, and elsewhere what stood there
  pub value_of-removed : (es : List (K × V)) (k j : K) → Ascends cmp es → value_of cmp (entry_removed cmp es k) j ≡ cond (is_eq (cmp j k)) None (value_of cmp es j)
  value_of-removed [] k j up = none_either (is_eq (cmp j k))
    where
      none_either : (b : Bool) → ◌≡◌ {A = Option V} None (cond b None None)
      none_either true = refl
      none_either false = refl
  value_of-removed (e ∷ es) k j up = removed_at j k e es (cmp k e.0) refl up.0 (value_of-removed es k j up.1)

  -- the first value at a key that is equal
  abbrev pub value_at : List (K × V) → K → Option V
  value_at [] j = None
  value_at (e ∷ es) j = cond (is_eq (cmp j e.0)) (Some e.1) (value_at es j)

  no_value : (j k : K) (es : List (K × V)) → cmp j k ≡ Less → AllAbove cmp k es → value_at es j ≡ None
  no_value j k [] less above = refl
  no_value j k (e ∷ es) less above = rw (total.trans j k e.0 less above.0) (no_value j k es less above.1)

  by_order : (j : K) (e : K × V) (es : List (K × V)) (o : Ordering) → cmp j e.0 ≡ o → AllAbove cmp e.0 es → value_of cmp es j ≡ value_at es j → match_ordering o None (Some e.1) (value_of cmp es j) ≡ cond (is_eq o) (Some e.1) (value_at es j)
  by_order j e es Less is above go = sym (no_value j e.0 es is above)
  by_order j e es Equal is above go = refl
  by_order j e es Greater is above go = go

  -- where the entries ascend, the search for a key finds it
  pub value_of-ascending : (es : List (K × V)) (j : K) → Ascends cmp es → value_of cmp es j ≡ value_at es j
  value_of-ascending [] j up = refl
  value_of-ascending (e ∷ es) j up = by_order j e es (cmp j e.0) refl up.0 (value_of-ascending es j up.1)
