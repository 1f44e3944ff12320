-- What a table shows after a change.
use Rattle.std.proofs.Common.{◌≡◌, ◌∙◌, ℕ, Bool, true, false, cond, List, ap, refl}
use Rattle.std.specs.Prelude.{◌==◌, ◌&&◌, Option, Some, None, option_map}
use Rattle.std.proofs.lemmas.Bool.Decides.{Decides-eqb}
use Rattle.chr_semantics.specs.Program.{Atom}
use Rattle.chr_store.specs.Rows.{row_atom}
use Rattle.chr_store.specs.declared.row.Row.{Row}
use Rattle.chr_find.specs.IndexKeys.{IndexKey, in_bucket, row_if}
use Rattle.chr_find.specs.PlanView.{lookups_of}
use Rattle.chr_find.specs.Shown.{Shows, atom_in}
use Rattle.chr_find.specs.IndexChangeView.{changed_at}
use Rattle.chr_find.specs.declared.bucket.Bucket.{Bucket}
use Rattle.chr_find.specs.declared.index.Change.{Change}
use Rattle.chr_find.specs.declared.plan.Plan.{Plan}
use Rattle.chr_find.specs.declared.plan.Lookup.{Lookup}

abbrev pub atom_if : Bool → Atom → Option Atom
atom_if b a = cond b (Some a) None

module _ {A : Type 0} where
  at_row : (ps : ℕ → List Lookup) (l : Bucket) (r : Row A) (b h : Bool) → in_bucket (ps r.sym.0) (row_atom r) l ≡ h → (x : Option (Row A)) (o : Option Atom) → option_map row_atom x ≡ atom_in l ps o → o ≡ atom_if (cond b false true) (row_atom r)
      → option_map row_atom (cond h (row_if b r) x) ≡ atom_in l ps (atom_if b (row_atom r))
  at_row ps l r true true e x o s was = rw e refl
  at_row ps l r false true e x o s was = refl
  at_row ps l r true false e x o s was = s ∙ rw (was, e) refl
  at_row ps l r false false e x o s was = s ∙ rw (was, e) refl

  at_place : (p : Plan A) (c : Change A) (at : IndexKey → Option (Row A)) (f : ℕ → Option Atom) (q : IndexKey) (b : Bool) → (q.id.0 == c.id.0) ≡ b → Shows (lookups_of p) at f → f c.id.0 ≡ atom_if (cond c.is_there false true) (row_atom c.row)
      → option_map row_atom (cond (b && in_bucket (lookups_of p c.row.sym.0) (row_atom c.row) q.bucket) (row_if c.is_there c.row) (at q)) ≡ atom_in q.bucket (lookups_of p) (cond b (atom_if c.is_there (row_atom c.row)) (f q.id.0))
  at_place p c at f q false e s was = s q
  at_place p c at f q true e s was = at_row (lookups_of p) q.bucket c.row c.is_there (in_bucket (lookups_of p c.row.sym.0) (row_atom c.row) q.bucket) refl (at q) (f q.id.0) (s q) (ap f ((Decides-eqb q.id.0 c.id.0).0 e) ∙ was)

  -- a constraint that was not there is shown, or one that was there is no more
  pub shows_change : (p : Plan A) (c : Change A) (at : IndexKey → Option (Row A)) (f : ℕ → Option Atom) → Shows (lookups_of p) at f → f c.id.0 ≡ atom_if (cond c.is_there false true) (row_atom c.row)
      → Shows (lookups_of p) (changed_at p c at) (λ j. cond (j == c.id.0) (atom_if c.is_there (row_atom c.row)) (f j))
  shows_change p c at f s was q = at_place p c at f q (q.id.0 == c.id.0) refl s was
