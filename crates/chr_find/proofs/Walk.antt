-- The rows of a bucket, as the semantics have them.
use Rattle.std.proofs.Common.{◌≡◌, ◌∙◌, ℕ, ◌<◌, Bool, true, false, List, [], ◌∷◌, ap, cond, sym, refl}
use Rattle.std.specs.Prelude.{◌==◌, Option, Some, None, option_map}
use Rattle.std.proofs.lemmas.Cmp.{ranked}
use Rattle.std.specs.declared.cmp.Ordering.TheVariants.{Less}
use Rattle.std.specs.Ordering.{is_eq}
use Rattle.chr_map.specs.Order.{AllAbove, Ascends}
use Rattle.chr_map.proofs.Lookups.{value_at, value_of-ascending}
use Rattle.chr_semantics.proofs.Tests.{eqb_sym}
use Rattle.chr_semantics.specs.Match as semantics
use Rattle.chr_semantics.specs.Program.{Atom}
use Rattle.chr_semantics.specs.Search.{atom_of}
use Rattle.chr_store.specs.Rows.{row_atom}
use Rattle.chr_store.specs.contracts.id.IdOrd.TheImpl.Laws.{matches_eq-law, total-law}
use Rattle.chr_store.specs.declared.id.Id.{Id}
use Rattle.chr_store.specs.declared.row.Row.{Row}
use Rattle.chr_find.specs.IdRows.{id_cmp, id_rows}
use Rattle.chr_find.specs.IndexKeys.{in_bucket, held, rows_in}
use Rattle.chr_find.specs.Shown.{AllOver, Rises, Shows, atom_in, bucket_rows, walk}
use Rattle.chr_find.specs.declared.bucket.Bucket.{Bucket}
use Rattle.chr_find.specs.declared.index.Index.{Index}
use Rattle.chr_find.specs.declared.plan.Lookup.{Lookup}
use Rattle.chr_find.proofs.Lookups.{atom_if, filter_looked, rises_filter, same_rows}

-- what is less has the lesser number
pub lesser : (i j : Id) → id_cmp i j ≡ Less → i.0 < j.0
lesser i j less = ranked i.0 j.0 Less (sym less)

-- the tests for an identity, either way round
pub id_test : (i j : Id) → (j.0 == i.0) ≡ is_eq (id_cmp i j)
id_test i j = eqb_sym j.0 i.0 ∙ matches_eq-law i j

same_tests : (ps : ℕ → List Lookup) (l : Bucket) (i : ℕ) (o : Option Atom) → atom_in l ps o ≡ atom_if (λ (c : semantics.Row). in_bucket (ps c.1.sym) c.1 l) i o
same_tests ps l i None = refl
same_tests ps l i (Some a) = refl

module _ {A : Type 0} where
  over_rows : (i : Id) (es : List (Id × Row A)) → AllAbove id_cmp i es → AllOver i.0 (id_rows es)
  over_rows i [] above = tt
  over_rows i (e ∷ es) above = (lesser i e.0 above.0, over_rows i es above.1)

  pub rises_rows : (es : List (Id × Row A)) → Ascends id_cmp es → Rises (id_rows es)
  rises_rows [] up = tt
  rises_rows (e ∷ es) up = (over_rows e.0 es up.0, rises_rows es up.1)

  looked_at : (es : List (Id × Row A)) (i : Id) → atom_of (id_rows es) i.0 ≡ option_map row_atom (value_at id_cmp total-law es i)
  looked_at [] i = refl
  looked_at (e ∷ es) i = ap (λ (b : Bool). cond b (Some (row_atom e.1)) (atom_of (id_rows es) i.0)) (id_test i e.0) ∙ by_test (is_eq (id_cmp i e.0)) (looked_at es i)
    where
      by_test : (b : Bool) → atom_of (id_rows es) i.0 ≡ option_map row_atom (value_at id_cmp total-law es i)
          → cond b (Some (row_atom e.1)) (atom_of (id_rows es) i.0) ≡ option_map row_atom (cond b (Some e.1) (value_at id_cmp total-law es i))
      by_test true go = refl
      by_test false go = go

  pub walk_looked : (l : Bucket) (x : Index A) (i : ℕ) → Ascends id_cmp (rows_in x l) → atom_of (walk l x) i ≡ option_map row_atom (held x (record { bucket = l; id = record { 0 = i } }))
  walk_looked l x i up = looked_at (rows_in x l) (record { 0 = i }) ∙ ap (option_map row_atom) (sym (value_of-ascending id_cmp total-law (rows_in x l) (record { 0 = i }) up))

  pub rises_walk : (l : Bucket) (x : Index A) → Ascends id_cmp (rows_in x l) → Rises (walk l x)
  rises_walk l x up = rises_rows (rows_in x l) up

  -- the walk over a list gives the constraints that are in it
  pub walk_shown : (ps : ℕ → List Lookup) (l : Bucket) (x : Index A) (rows : List semantics.Row) → Ascends id_cmp (rows_in x l) → Rises rows → Shows ps (held x) (atom_of rows) → walk l x ≡ bucket_rows l ps rows
  walk_shown ps l x rows up rises shows =
      same_rows (walk l x) (bucket_rows l ps rows) (rises_walk l x up) (rises_filter _ rows rises)
      (λ i. walk_looked l x i up ∙ (shows (record { bucket = l; id = record { 0 = i } }) ∙ (same_tests ps l i (atom_of rows i) ∙ sym (filter_looked _ rows i rises))))
