-- The spans of rows by their identities.
use Rattle.std.proofs.Common.{◌≡◌, ◌∙◌, ℕ, ◌<◌, List, [], ◌∷◌, ◌++◌, ap, arith, refl, subst, sym}
use Rattle.std.proofs.lemmas.List.{append_assoc}
use Rattle.std.specs.declared.cmp.Ordering.TheVariants.{Less}
use Rattle.chr_map.specs.Order.{AllAbove, Ascends}
use Rattle.chr_semantics.specs.Match as semantics
use Rattle.chr_store.specs.Rows.{row_atom}
use Rattle.chr_store.specs.declared.id.Id.{Id}
use Rattle.chr_store.specs.declared.row.Row.{Row}
use Rattle.chr_find.specs.IdRows.{id_cmp, id_rows}
use Rattle.chr_find.specs.Shown.{AllUnder}
use Rattle.chr_find.proofs.Walk.{lesser}

module _ {A : Type 0} where
  rows_append : (xs ys : List (Id × Row A)) → id_rows (xs ++ ys) ≡ id_rows xs ++ id_rows ys
  rows_append [] ys = refl
  rows_append (x ∷ xs) ys = ap (λ (rest : List semantics.Row). (x.0.0, row_atom x.1) ∷ rest) (rows_append xs ys)

  above_at : (i : Id) (xs : List (Id × Row A)) (m : Id × Row A) (ys : List (Id × Row A)) → AllAbove id_cmp i (xs ++ m ∷ ys) → id_cmp i m.0 ≡ Less
  above_at i [] m ys h = h.0
  above_at i (x ∷ xs) m ys h = above_at i xs m ys h.1

  -- all before the middle have lesser identities
  rows_under : (xs : List (Id × Row A)) (m : Id × Row A) (ys : List (Id × Row A)) (n : ℕ) → Ascends id_cmp (xs ++ m ∷ ys) → m.0.0 < n → AllUnder n (id_rows xs)
  rows_under [] m ys n up lt = tt
  rows_under (x ∷ xs) m ys n up lt = let less = lesser x.0 m.0 (above_at x.0 xs m ys up.0) in (omega (arith, less, lt), rows_under xs m ys n up.1 lt)

  -- the rows of a span: before the middle, there, and behind it
  pub span_parts : (span xs : List (Id × Row A)) (m : Id × Row A) (ys : List (Id × Row A)) → span ≡ xs ++ m ∷ ys → id_rows span ≡ id_rows xs ++ ((m.0.0, row_atom m.1) ∷ [] ++ id_rows ys)
  span_parts span xs m ys is = ap id_rows is ∙ rows_append xs (m ∷ ys)

  pub span_passed : (span xs : List (Id × Row A)) (m : Id × Row A) (ys : List (Id × Row A)) → span ≡ xs ++ m ∷ ys → id_rows span ≡ (id_rows xs ++ (m.0.0, row_atom m.1) ∷ []) ++ id_rows ys
  span_passed span xs m ys is = span_parts span xs m ys is ∙ sym (append_assoc (id_rows xs) ((m.0.0, row_atom m.1) ∷ []) (id_rows ys))

  pub span_under : (span xs : List (Id × Row A)) (m : Id × Row A) (ys : List (Id × Row A)) (n : ℕ) → span ≡ xs ++ m ∷ ys → Ascends id_cmp span → m.0.0 < n → AllUnder n (id_rows xs ++ (m.0.0, row_atom m.1) ∷ [])
  span_under span xs m ys n is up lt = one_more (id_rows xs) (rows_under xs m ys n (subst (Ascends id_cmp) is up) lt)
    where
      one_more : (rows : List semantics.Row) → AllUnder n rows → AllUnder n (rows ++ (m.0.0, row_atom m.1) ∷ [])
      one_more [] h = (lt, tt)
      one_more (c ∷ rows) h = (h.0, one_more rows h.1)
