use Rattle.std.proofs.Common.{◌≡◌, ◌∙◌, ◌&&◌, ◌==◌, Bool, Option, Some, ap, cond, false, refl, sym, true}
use Rattle.chr_semantics.specs.Program.{Atom}
use Rattle.chr_semantics.specs.State.{resolved_atom}
use Rattle.chr_store.specs.Rows.{row_atom}
use Rattle.chr_find.specs.ScopeView.{keeps_row}
use Rattle.chr_find.specs.TableView.{atom_at}
use Rattle.chr_find.proofs.snapshot_taking.add_row.Goals as goal

with_it : (b k : Bool) (x y : Option Atom) → k ≡ true → cond b x y ≡ cond (b && k) x y
with_it true k x y e = ap (λ (c : Bool). cond c x y) (sym e)
with_it false k x y e = refl

without_it : (b k : Bool) (x y : Option Atom) → k ≡ false → y ≡ cond (b && k) x y
without_it true k x y e = ap (λ (c : Bool). cond c x y) (sym e)
without_it false k x y e = refl

pub returns-in_ok-put_row : goal.returns-in_ok-put_row
returns-in_ok-put_row g c = λ i.
    let id = c.args.id.0 in
    let a : Atom = resolved_atom c.args.bindings.now.subst (row_atom c.args.row.now) in
    let kept : keeps_row c.args.scope (id, a) ≡ true = sym (c.has_row.ensures id ∙ ap (λ (b : Atom). keeps_row c.args.scope (id, b)) c.in_ok-row.ensures) ∙ c.if-has_row.true in
    c.in_ok-put_row.ensures i
    ∙ (ap (λ (b : Atom). cond (i == id) (Some b) (atom_at c.args.table.now i)) c.in_ok-row.ensures
    ∙ with_it (i == id) (keeps_row c.args.scope (id, a)) (Some a) (atom_at c.args.table.now i) kept)

pub returns-else-has_row : goal.returns-else-has_row
returns-else-has_row g c = λ i.
    let id = c.args.id.0 in
    let a : Atom = resolved_atom c.args.bindings.now.subst (row_atom c.args.row.now) in
    without_it (i == id) (keeps_row c.args.scope (id, a)) (Some a) (atom_at c.args.table.now i) (sym (c.has_row.ensures id ∙ ap (λ (b : Atom). keeps_row c.args.scope (id, b)) c.in_ok-row.ensures) ∙ c.if-has_row.false)
