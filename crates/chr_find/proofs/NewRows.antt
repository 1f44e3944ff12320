-- Where rows are new, and where none is.
use Rattle.std.proofs.Common.{◌≡◌, ◌∙◌, ℕ, zero, suc, ◌+◌, ◌-◌, ◌<◌, Bool, true, false, cond, ◌||◌, ◌==◌, List, [], ◌∷◌, ◌++◌, Some, drop, ap, refl, sym, subst, arith}
use mathlib.Core.Path.{fun_ext}
use Rattle.std.specs.Prelude.{◌&&◌, filter, slice_get}
use Rattle.std.proofs.lemmas.List.Folds.{list_any-append}
use Rattle.chr_map.specs.Order.{Ascends}
use Rattle.chr_semantics.proofs.Tests.{eqb_sym}
use Rattle.chr_semantics.specs.Cursor.{is_new}
use Rattle.chr_semantics.specs.Match as semantics
use Rattle.chr_semantics.specs.Program.{Head}
use Rattle.chr_store.specs.Rows.{row_atom}
use Rattle.chr_store.specs.declared.id.Id.{Id}
use Rattle.chr_store.specs.declared.row.Row.{Row}
use Rattle.chr_find.specs.Joins.{AreOld, IsQuiet, IsQuietAt, QuietFrom}
use Rattle.chr_find.specs.IdRows.{id_cmp, id_rows}
use Rattle.chr_find.specs.PlanView.{is_lookup}
use Rattle.chr_find.specs.Shown.{AllUnder, any_new, bucket_rows}
use Rattle.chr_find.specs.declared.bucket.Bucket.TheVariants.{Symbol}
use Rattle.chr_find.specs.declared.plan.Lookup.{Lookup}
use Rattle.chr_find.specs.declared.plan.Lookup.TheVariants.{Symbol as Alone}
use Rattle.chr_term.specs.declared.term.Sym.{Sym}
use Rattle.std.specs.List.{list_any}
use Rattle.std.proofs.lemmas.Bool.Decides.{Decides-eqb}
use Rattle.chr_find.proofs.Thresholds.{old_id}
use Rattle.chr_find.proofs.SearchParts.{drop_at}
use Rattle.chr_find.proofs.WalkSpans.{span_parts, span_passed, span_under}

none_new : (from : ℕ) (rows : List semantics.Row) → AllUnder from rows → any_new from rows ≡ false
none_new from [] under = refl
none_new from (c ∷ rows) under = let e : is_new from c.0 ≡ false = old_id from c.0 under.0 in rw (e, none_new from rows under.1) refl

or_true_at : (b c : Bool) → (b || (true || c)) ≡ true
or_true_at true c = refl
or_true_at false c = refl

module _ {A : Type 0} where
  -- the middle is new
  pub span_new : (span xs : List (Id × Row A)) (m : Id × Row A) (ys : List (Id × Row A)) (from : ℕ) → span ≡ xs ++ m ∷ ys → is_new from m.0.0 ≡ true → true ≡ any_new from (id_rows span)
  span_new span xs m ys from is new =
      sym (ap (any_new from) (span_parts span xs m ys is)
      ∙ (list_any-append (λ (c : semantics.Row). is_new from c.0) (id_rows xs) ((m.0.0, row_atom m.1) ∷ [] ++ id_rows ys)
      ∙ (ap (λ (b : Bool). any_new from (id_rows xs) || (b || any_new from (id_rows ys))) new ∙ or_true_at (any_new from (id_rows xs)) (any_new from (id_rows ys)))))

  -- it is not, and so are those before it
  pub span_old : (span xs : List (Id × Row A)) (m : Id × Row A) (ys : List (Id × Row A)) (from : ℕ) → span ≡ xs ++ m ∷ ys → Ascends id_cmp span → m.0.0 < from → any_new from (id_rows ys) ≡ any_new from (id_rows span)
  span_old span xs m ys from is up lt =
      sym (ap (any_new from) (span_passed span xs m ys is)
      ∙ (list_any-append (λ (c : semantics.Row). is_new from c.0) (id_rows xs ++ (m.0.0, row_atom m.1) ∷ []) (id_rows ys)
      ∙ ap (λ (b : Bool). b || any_new from (id_rows ys)) (none_new from (id_rows xs ++ (m.0.0, row_atom m.1) ∷ []) (span_under span xs m ys from is up lt))))

-- no row of the symbol is new
or_false : (b c : Bool) → (b || c) ≡ false → (b ≡ false) × (c ≡ false)
or_false true c e = absurd (let no : true ≡ false = e in cc)
or_false false c e = (refl, e)

pub old_rows : (from f : ℕ) (rows : List semantics.Row) → any_new from (filter (λ (c : semantics.Row). f == c.1.sym) rows) ≡ false → AreOld from f rows
old_rows from f [] e = tt
old_rows from f (c ∷ rows) e = by_test (f == c.1.sym) refl (old_rows from f rows) e
  where
    by_test : (b : Bool) → (f == c.1.sym) ≡ b → (any_new from (filter (λ (d : semantics.Row). f == d.1.sym) rows) ≡ false → AreOld from f rows)
        → any_new from (cond b (c ∷ filter (λ (d : semantics.Row). f == d.1.sym) rows) (filter (λ (d : semantics.Row). f == d.1.sym) rows)) ≡ false → AreOld from f (c ∷ rows)
    by_test true same rest old =
        let both : (is_new from c.0 ≡ false) × (any_new from (filter (λ (d : semantics.Row). f == d.1.sym) rows) ≡ false) = or_false (is_new from c.0) (any_new from (filter (λ (d : semantics.Row). f == d.1.sym) rows)) old in
        ((λ of_it. both.0), rest both.1)
    by_test false same rest old = ((λ of_it. absurd (let no : false ≡ true = sym same ∙ (eqb_sym f c.1.sym ∙ of_it) in cc)), rest old)

-- where the symbol has an index, the list by it has all its rows
planned_test : (ps : ℕ → List Lookup) (f n : ℕ) → list_any (is_lookup Alone) (ps f) ≡ true → (b : Bool) → (f == n) ≡ b → (b && list_any (is_lookup Alone) (ps n)) ≡ b
planned_test ps f n planned true same = ap (λ (k : ℕ). list_any (is_lookup Alone) (ps k)) (sym ((Decides-eqb f n).0 same)) ∙ planned
planned_test ps f n planned false other = refl

pub planned_rows : (ps : ℕ → List Lookup) (f : Sym) (rows : List semantics.Row) → list_any (is_lookup Alone) (ps f.0) ≡ true → bucket_rows (Symbol f) ps rows ≡ filter (λ (c : semantics.Row). f.0 == c.1.sym) rows
planned_rows ps f rows planned = ap (λ (p : semantics.Row → Bool). filter p rows) (fun_ext (λ c. planned_test ps f.0 c.1.sym planned (f.0 == c.1.sym) refl))

-- one head less
quiet_next : (rows : List semantics.Row) (place own from j k : ℕ) (heads : List Head) → QuietFrom rows place own from j (drop k heads) → QuietFrom rows place own from (j + 1) (drop (suc k) heads)
quiet_next rows place own from j k [] q = tt
quiet_next rows place own from j zero (x ∷ heads) q = q.1
quiet_next rows place own from j (suc k) (x ∷ heads) q = quiet_next rows place own from j k heads q

quiet_later : (rows : List semantics.Row) (heads : List Head) (place own from quiet d : ℕ) → QuietFrom rows place own from quiet (drop quiet heads) → QuietFrom rows place own from (quiet + d) (drop (quiet + d) heads)
quiet_later rows heads place own from quiet zero q =
    let same : quiet ≡ quiet + 0 = omega arith in
    subst (λ (k : ℕ). QuietFrom rows place own from k (drop k heads)) same q
quiet_later rows heads place own from quiet (suc d) q =
    let one : suc (quiet + d) ≡ (quiet + d) + 1 = omega arith in
    let next : (quiet + d) + 1 ≡ quiet + suc d = omega arith in
    subst (λ (k : ℕ). QuietFrom rows place own from k (drop k heads)) next
    (subst (λ (k : ℕ). QuietFrom rows place own from ((quiet + d) + 1) (drop k heads)) one
    (quiet_next rows place own from (quiet + d) (quiet + d) heads (quiet_later rows heads place own from quiet d q)))

-- from the head on and from each one after it
pub quiet_all : (rows : List semantics.Row) (heads : List Head) (place own from quiet : ℕ) → QuietFrom rows place own from quiet (drop quiet heads) → IsQuiet rows heads place own from quiet
quiet_all rows heads place own from quiet q k lt =
    let at : quiet + (k - quiet) ≡ k = omega (arith, lt) in
    subst (λ (j : ℕ). QuietFrom rows place own from j (drop j heads)) at (quiet_later rows heads place own from quiet (k - quiet) q)

-- one head more
pub quiet_more : (rows : List semantics.Row) (heads : List Head) (place own from k : ℕ) (x : Head) → slice_get heads k ≡ Some x → IsQuietAt rows place own from k x → QuietFrom rows place own from (k + 1) (drop (k + 1) heads) → QuietFrom rows place own from k (drop k heads)
quiet_more rows heads place own from k x at quiet q = subst (λ (hs : List Head). QuietFrom rows place own from k hs) (sym (drop_at heads k x at)) (quiet, q)
