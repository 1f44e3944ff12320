-- What is at a place of an index after a change of a bucket.
use Rattle.std.proofs.Common.{◌≡◌, ◌∙◌, ◌==◌, ◌&&◌, ◌+◌, ◌≤◌, ℕ, suc, Bool, true, false, cond, List, [], ◌∷◌, ap, arith, length, refl, sym}
use Rattle.std.specs.Prelude.{Option, Some, None}
use Rattle.std.specs.Cmp.{Equal-is}
use Rattle.std.specs.Option.{option_map}
use Rattle.std.specs.Ordering.{is_eq, match_ordering}
use Rattle.std.specs.declared.cmp.Ordering.{Ordering}
use Rattle.std.specs.declared.cmp.Ordering.TheVariants.{Less, Equal, Greater}
use Rattle.chr_map.specs.Order.{Ascends, entry_edited, entry_put, entry_removed, value_of}
use Rattle.chr_map.proofs.Lookups.{same_value, value_of-edited, value_of-put, value_of-removed}
use Rattle.chr_store.specs.contracts.id.IdOrd.TheImpl.Laws.{matches_eq-law as id_matches-law, total-law as id_total-law}
use Rattle.chr_store.specs.declared.id.Id.{Id}
use Rattle.chr_store.specs.declared.row.Row.{Row}
use Rattle.chr_find.specs.ChangeView.{rows_changed}
use Rattle.chr_find.specs.IdRows.{IsOnly, id_cmp, id_rows}
use Rattle.chr_find.specs.IndexKeys.{IndexKey, bucket_cmp, held, is_all, listed, other_rows, row_if, same_bucket, same_index_key}
use Rattle.chr_find.specs.IndexSize.{total}
use Rattle.chr_find.specs.contracts.bucket.BucketOrd.TheImpl.Laws.{matches_eq-law, total-law}
use Rattle.chr_find.specs.declared.bucket.Bucket.{Bucket}
use Rattle.chr_find.specs.declared.bucket.Bucket.TheVariants.{All, Open, Symbol, At}
use Rattle.chr_find.specs.declared.index.Change.{Change}
use Rattle.chr_find.specs.declared.index.Index.{Index}

-- the bucket of all rows is another than each other one
same_all : (c : Bucket) → same_bucket c All ≡ is_all c
same_all All = refl
same_all Open = refl
same_all (Symbol f) = refl
same_all (At f p k) = refl

all_apart : (c b : Bucket) → is_all c ≡ true → is_all b ≡ false → same_bucket c b ≡ false
all_apart All All e f = f
all_apart All Open e f = refl
all_apart All (Symbol s) e f = refl
all_apart All (At s p k) e f = refl
all_apart Open b e f = cc
all_apart (Symbol s) b e f = cc
all_apart (At s p k) b e f = cc

pub other_bucket : (b : Bucket) → (b ≡ All → ⊥) → is_all b ≡ false
other_bucket All other = absurd (other refl)
other_bucket Open other = refl
other_bucket (Symbol s) other = refl
other_bucket (At s p k) other = refl

module _ {A : Type 0} where
  -- in the bucket of all rows
  pub all_set : (new old : Index A) (i : Id) (o : Option (Row A)) → new.buckets ≡ old.buckets → ((j : Id) → value_of id_cmp new.all j ≡ cond (is_eq (id_cmp j i)) o (value_of id_cmp old.all j))
      → (q : IndexKey) → held new q ≡ cond (same_index_key q (record { bucket = All; id = i })) o (held old q)
  all_set new old i o others all q = by_test (is_all q.bucket) refl
    where
      by_test : (b : Bool) → is_all q.bucket ≡ b → held new q ≡ cond (same_index_key q (record { bucket = All; id = i })) o (held old q)
      by_test true e =
          ap (λ (b : Bool). value_of id_cmp (cond b new.all (other_rows new q.bucket)) q.id) e
          ∙ (all q.id
          ∙ (ap (λ (b : Bool). cond b o (value_of id_cmp old.all q.id)) (sym (id_matches-law q.id i))
          ∙ sym (ap (λ (b : Bool). cond (b && (q.id.0 == i.0)) o (held old q)) (same_all q.bucket ∙ e)
          ∙ ap (λ (b : Bool). cond (q.id.0 == i.0) o (value_of id_cmp (cond b old.all (other_rows old q.bucket)) q.id)) e)))
      by_test false e =
          ap (λ (b : Bool). value_of id_cmp (cond b new.all (other_rows new q.bucket)) q.id) e
          ∙ (ap (λ (es : List (Bucket × List (Id × Row A))). value_of id_cmp (listed (value_of bucket_cmp es q.bucket)) q.id) others
          ∙ sym (ap (λ (b : Bool). cond (b && (q.id.0 == i.0)) o (held old q)) (same_all q.bucket ∙ e)
          ∙ ap (λ (b : Bool). value_of id_cmp (cond b old.all (other_rows old q.bucket)) q.id) e))

  -- in another bucket, by its rows after the change
  pub other_set : (new old : Index A) (b : Bucket) (i : Id) (o : Option (Row A)) (rows : List (Id × Row A)) → is_all b ≡ false → new.all ≡ old.all
      → ((c : Bucket) → other_rows new c ≡ cond (is_eq (bucket_cmp c b)) rows (other_rows old c))
      → ((j : Id) → value_of id_cmp rows j ≡ cond (is_eq (id_cmp j i)) o (value_of id_cmp (other_rows old b) j))
      → (q : IndexKey) → held new q ≡ cond (same_index_key q (record { bucket = b; id = i })) o (held old q)
  other_set new old b i o rows other all step here q = by_test (is_all q.bucket) refl
    where
      by_same : (t : Bool) → is_eq (bucket_cmp q.bucket b) ≡ t → value_of id_cmp (cond t rows (other_rows old q.bucket)) q.id ≡ cond (t && (q.id.0 == i.0)) o (value_of id_cmp (other_rows old q.bucket) q.id)
      by_same true e =
          here q.id
          ∙ (ap (λ (t : Bool). cond t o (value_of id_cmp (other_rows old b) q.id)) (sym (id_matches-law q.id i))
          ∙ ap (λ (v : Option (List (Id × Row A))). cond (q.id.0 == i.0) o (value_of id_cmp (listed v) q.id)) (sym (same_value bucket_cmp total-law q.bucket b old.buckets ((Equal-is (bucket_cmp q.bucket b)).0 e))))
      by_same false e = refl

      by_test : (t : Bool) → is_all q.bucket ≡ t → held new q ≡ cond (same_index_key q (record { bucket = b; id = i })) o (held old q)
      by_test true e =
          ap (λ (t : Bool). value_of id_cmp (cond t new.all (other_rows new q.bucket)) q.id) e
          ∙ (ap (λ (es : List (Id × Row A)). value_of id_cmp es q.id) all
          ∙ sym (ap (λ (t : Bool). cond (t && (q.id.0 == i.0)) o (held old q)) (all_apart q.bucket b e other)
          ∙ ap (λ (t : Bool). value_of id_cmp (cond t old.all (other_rows old q.bucket)) q.id) e))
      by_test false e =
          ap (λ (t : Bool). value_of id_cmp (cond t new.all (other_rows new q.bucket)) q.id) e
          ∙ (ap (λ (es : List (Id × Row A)). value_of id_cmp es q.id) (step q.bucket)
          ∙ (by_same (is_eq (bucket_cmp q.bucket b)) refl
          ∙ sym (ap (λ (t : Bool). cond (t && (q.id.0 == i.0)) o (held old q)) (matches_eq-law q.bucket b)
          ∙ ap (λ (t : Bool). cond (is_eq (bucket_cmp q.bucket b) && (q.id.0 == i.0)) o (value_of id_cmp (cond t old.all (other_rows old q.bucket)) q.id)) e)))

  -- a bucket is begun
  pub begun : (new old : Index A) (b : Bucket) (i : Id) (r : Row A) → is_all b ≡ false → new.all ≡ old.all → other_rows old b ≡ [] → new.buckets ≡ entry_put bucket_cmp old.buckets b ((i, r) ∷ [])
      → (q : IndexKey) → held new q ≡ cond (same_index_key q (record { bucket = b; id = i })) (Some r) (held old q)
  begun new old b i r other all none put =
      other_set new old b i (Some r) ((i, r) ∷ []) other all
      (λ c. ap (λ (es : List (Bucket × List (Id × Row A))). listed (value_of bucket_cmp es c)) put ∙ (ap listed (value_of-put bucket_cmp total-law old.buckets b ((i, r) ∷ []) c) ∙ by_test (is_eq (bucket_cmp c b)) (value_of bucket_cmp old.buckets c)))
      (λ j. first j (id_cmp j i) ∙ ap (λ (es : List (Id × Row A)). cond (is_eq (id_cmp j i)) (Some r) (value_of id_cmp es j)) (sym none))
    where
      by_test : (t : Bool) (v : Option (List (Id × Row A))) → listed (cond t (Some ((i, r) ∷ [])) v) ≡ cond t ((i, r) ∷ []) (listed v)
      by_test true v = refl
      by_test false v = refl

      first : (j : Id) (o : Ordering) → match_ordering o None (Some r) None ≡ cond (is_eq o) (Some r) None
      first j Less = refl
      first j Equal = refl
      first j Greater = refl

  -- nothing is taken out where nothing is
  pub none_out : (old : Index A) (b : Bucket) (i : Id) → is_all b ≡ false → other_rows old b ≡ [] → (q : IndexKey) → held old q ≡ cond (same_index_key q (record { bucket = b; id = i })) None (held old q)
  none_out old b i other none =
      other_set old old b i None (other_rows old b) other refl
      (λ c. by_test c (is_eq (bucket_cmp c b)) refl)
      (λ j. ap (λ (es : List (Id × Row A)). value_of id_cmp es j) none ∙ (nothing (is_eq (id_cmp j i)) ∙ ap (λ (es : List (Id × Row A)). cond (is_eq (id_cmp j i)) None (value_of id_cmp es j)) (sym none)))
    where
      by_test : (c : Bucket) (t : Bool) → is_eq (bucket_cmp c b) ≡ t → other_rows old c ≡ cond t (other_rows old b) (other_rows old c)
      by_test c true e = ap listed (same_value bucket_cmp total-law c b old.buckets ((Equal-is (bucket_cmp c b)).0 e))
      by_test c false e = refl

      nothing : (t : Bool) → ◌≡◌ {A = Option (Row A)} None (cond t None None)
      nothing true = refl
      nothing false = refl

  -- a bucket is changed
  pub within : (new old : Index A) (b : Bucket) (i : Id) (o : Option (Row A)) (rows : List (Id × Row A)) (f : List (Id × Row A) → List (Id × Row A)) → is_all b ≡ false → new.all ≡ old.all → Some rows ≡ value_of bucket_cmp old.buckets b
      → new.buckets ≡ entry_edited bucket_cmp f old.buckets b → ((j : Id) → value_of id_cmp (f rows) j ≡ cond (is_eq (id_cmp j i)) o (value_of id_cmp rows j))
      → (q : IndexKey) → held new q ≡ cond (same_index_key q (record { bucket = b; id = i })) o (held old q)
  within new old b i o rows f other all there edited changes =
      other_set new old b i o (f rows) other all
      (λ c. ap (λ (es : List (Bucket × List (Id × Row A))). listed (value_of bucket_cmp es c)) edited ∙ (ap listed (value_of-edited bucket_cmp total-law f old.buckets b c) ∙ by_test c (is_eq (bucket_cmp c b)) refl))
      (λ j. changes j ∙ ap (λ (v : Option (List (Id × Row A))). cond (is_eq (id_cmp j i)) o (value_of id_cmp (listed v) j)) there)
    where
      by_test : (c : Bucket) (t : Bool) → is_eq (bucket_cmp c b) ≡ t → listed (cond t (option_map f (value_of bucket_cmp old.buckets c)) (value_of bucket_cmp old.buckets c)) ≡ cond t (f rows) (other_rows old c)
      by_test c true e = ap (λ (v : Option (List (Id × Row A))). listed (option_map f v)) (same_value bucket_cmp total-law c b old.buckets ((Equal-is (bucket_cmp c b)).0 e) ∙ sym there)
      by_test c false e = refl

  -- a bucket whose only row leaves goes
  pub gone : (new old : Index A) (b : Bucket) (i : Id) (rows : List (Id × Row A)) → is_all b ≡ false → new.all ≡ old.all → Some rows ≡ value_of bucket_cmp old.buckets b → IsOnly i.0 rows → Ascends bucket_cmp old.buckets
      → new.buckets ≡ entry_removed bucket_cmp old.buckets b → (q : IndexKey) → held new q ≡ cond (same_index_key q (record { bucket = b; id = i })) None (held old q)
  gone new old b i rows other all there only up removed =
      other_set new old b i None [] other all
      (λ c. ap (λ (es : List (Bucket × List (Id × Row A))). listed (value_of bucket_cmp es c)) removed ∙ (ap listed (value_of-removed bucket_cmp total-law old.buckets b c up) ∙ by_test (is_eq (bucket_cmp c b)) (value_of bucket_cmp old.buckets c)))
      (λ j. alone j ∙ ap (λ (v : Option (List (Id × Row A))). cond (is_eq (id_cmp j i)) None (value_of id_cmp (listed v) j)) there)
    where
      by_test : (t : Bool) (v : Option (List (Id × Row A))) → listed (cond t None v) ≡ cond t [] (listed v)
      by_test true v = refl
      by_test false v = refl

      left : (o : Ordering) (r : Row A) → None ≡ cond (is_eq o) None (match_ordering o None (Some r) None)
      left Less r = refl
      left Equal r = refl
      left Greater r = refl

      alone : (j : Id) → None ≡ cond (is_eq (id_cmp j i)) None (value_of id_cmp rows j)
      alone j =
          left (id_cmp j i) only.0.1
          ∙ (ap (λ (k : ℕ). cond (is_eq (id_cmp j i)) None (match_ordering (id_cmp j (record { 0 = k })) None (Some only.0.1) None)) (sym only.2)
          ∙ ap (λ (es : List (Id × Row A)). cond (is_eq (id_cmp j i)) None (value_of id_cmp es j)) (sym only.1))

  -- where a row is put or taken out by a test
  pub by_test : (b there : Bool) (r : Row A) → there ≡ b → (new old : Index A) (p : IndexKey) → ((q : IndexKey) → held new q ≡ cond (same_index_key q p) (row_if b r) (held old q))
      → (q : IndexKey) → held new q ≡ cond (same_index_key q p) (row_if there r) (held old q)
  by_test b there r e new old p h q = h q ∙ ap (λ (t : Bool). cond (same_index_key q p) (row_if t r) (held old q)) (sym e)

  -- the rows of a bucket after a change of it
  pub rows_put : (rows : List (Id × Row A)) (i : Id) (r s : Row A) → s ≡ r → (j : Id) → value_of id_cmp (entry_put id_cmp rows i s) j ≡ cond (is_eq (id_cmp j i)) (Some r) (value_of id_cmp rows j)
  rows_put rows i r s e j = value_of-put id_cmp id_total-law rows i s j ∙ ap (λ (t : Row A). cond (is_eq (id_cmp j i)) (Some t) (value_of id_cmp rows j)) e

  pub rows_removed : (rows : List (Id × Row A)) (i : Id) → Ascends id_cmp rows → (j : Id) → value_of id_cmp (entry_removed id_cmp rows i) j ≡ cond (is_eq (id_cmp j i)) None (value_of id_cmp rows j)
  rows_removed rows i up j = value_of-removed id_cmp id_total-law rows i j up

  pub rows_step : (c : Change A) (rows : List (Id × Row A)) → Ascends id_cmp rows → (j : Id) → value_of id_cmp (rows_changed c rows) j ≡ cond (is_eq (id_cmp j c.id)) (row_if c.is_there c.row) (value_of id_cmp rows j)
  rows_step c rows up j = by_there c.is_there
    where
      by_there : (b : Bool) → value_of id_cmp (cond b (entry_put id_cmp rows c.id c.row) (entry_removed id_cmp rows c.id)) j ≡ cond (is_eq (id_cmp j c.id)) (row_if b c.row) (value_of id_cmp rows j)
      by_there true = rows_put rows c.id c.row c.row refl j
      by_there false = rows_removed rows c.id up j

  -- a bucket has no more rows than the index
  pub rows_length : (es : List (Id × Row A)) → length (id_rows es) ≡ length es
  rows_length [] = refl
  rows_length (e ∷ es) = ap suc (rows_length es)

  pub among : (es : List (Bucket × List (Id × Row A))) (b : Bucket) → length (listed (value_of bucket_cmp es b)) ≤ total es
  among [] b = omega arith
  among (e ∷ es) b = by_order (bucket_cmp b e.0) (among es b)
    where
      by_order : (o : Ordering) → length (listed (value_of bucket_cmp es b)) ≤ total es → length (listed (match_ordering o None (Some e.1) (value_of bucket_cmp es b))) ≤ length e.1 + total es
      by_order Less le = omega arith
      by_order Equal le = omega arith
      by_order Greater le = omega (arith, le)
