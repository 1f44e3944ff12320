-- What is noted of a table: rows that are alike stay so.
use Rattle.std.proofs.Common.{◌≡◌, ◌∙◌, Bool, true, false, cond, ap, refl}
use Rattle.std.specs.Prelude.{Option}
use Rattle.chr_store.specs.declared.row.Row.{Row}
use Rattle.chr_find.specs.declared.index.Index.{Index}
use Rattle.chr_find.specs.IndexChangeView.{changed_at, rows_after}
use Rattle.chr_find.specs.IndexKeys.{IndexKey, AreKept, held, is_key_of, row_if}
use Rattle.chr_find.specs.PlanView.{lookups_of}
use Rattle.chr_find.specs.declared.index.Change.{Change}
use Rattle.chr_find.specs.declared.index_change.IndexChange.{IndexChange}
use Rattle.chr_find.specs.declared.index_change.IndexChange.TheVariants.{Changed, Replaced}
use Rattle.chr_find.specs.declared.plan.Plan.{Plan}

module _ {A : Type 0} where
  change_alike : (p : Plan A) (c : Change A) (f g : IndexKey → Option (Row A)) (q : IndexKey) → f q ≡ g q → changed_at p c f q ≡ changed_at p c g q
  change_alike p c f g q e = ap (λ (x : Option (Row A)). cond (is_key_of (lookups_of p c.row.sym.0) c.id.0 c.row q) (row_if c.is_there c.row) x) e

  pub rows_alike : (p : Plan A) (n : IndexChange A) (f g : IndexKey → Option (Row A)) (q : IndexKey) → f q ≡ g q → rows_after p n f q ≡ rows_after p n g q
  rows_alike p (Changed c) f g q e = change_alike p c f g q e
  rows_alike p (Replaced c d) f g q e = change_alike p d (changed_at p c f) (changed_at p c g) q (change_alike p c f g q e)

replaced_at : {X : Type 0} (d c : Bool) (x r new mid old : X) → mid ≡ cond c r old → (d ≡ false → new ≡ mid) → cond d x (cond c r new) ≡ cond d x (cond c r old)
replaced_at true c x r new mid old e h = refl
replaced_at false true x r new mid old e h = refl
replaced_at false false x r new mid old e h = h refl ∙ e

-- a row that was taken out, and another not wholly put there
pub replaced_again : {A : Type 0} (p : Plan A) (c d : Change A) (new mid old : Index A) → ((q : IndexKey) → held mid q ≡ changed_at p c (held old) q) → AreKept (lookups_of p d.row.sym.0) d.id.0 d.row new mid
    → (q : IndexKey) → changed_at p d (changed_at p c (held new)) q ≡ changed_at p d (changed_at p c (held old)) q
replaced_again p c d new mid old e kept q =
    replaced_at (is_key_of (lookups_of p d.row.sym.0) d.id.0 d.row q) (is_key_of (lookups_of p c.row.sym.0) c.id.0 c.row q) (row_if d.is_there d.row) (row_if c.is_there c.row) (held new q) (held mid q) (held old q) (e q) (λ out. kept q out)
