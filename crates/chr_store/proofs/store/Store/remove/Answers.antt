use Rattle.std.proofs.Common.{◌≡◌, ◌<◌, ◌∙◌, ◌+◌, ◌==◌, ◌&&◌, Some, cond, nat_lt, length, ℕ, ap, sym, subst, refl, arith}
use Rattle.std.specs.Prelude.{is_some, option_map}
use Rattle.std.proofs.Math.Path.{fun_ext}
use Rattle.chr_semantics.specs.Changes.{Store, removed_as}
use Rattle.chr_semantics.specs.Search.{atom_of}
use Rattle.chr_term.specs.TermView.{atom_over}
use Rattle.chr_store.specs.Counts.{count_at, has_stamp, last_at}
use Rattle.chr_store.specs.Looks.{AreLooksOf, ids_under}
use Rattle.chr_store.specs.Rows.{row_atom}
use Rattle.chr_store.specs.SlotsView.{rows_in}
use Rattle.chr_store.specs.StoreView.{store_view}
use Rattle.chr_store.proofs.SlotRows.{Ascends-rows}
use Rattle.chr_store.proofs.Listed.{AreListed-taken}
use Rattle.chr_store.proofs.Stamped.{count_raised, last_raised, stamped_at, stamped_without}
use Rattle.chr_store.proofs.store.Store.remove.Goals as goal

pub raise-requires : goal.raise-requires
raise-requires g c =
    let at : atom_of (rows_in c.args.self.now.slots) c.args.id.0 ≡ Some (row_atom c.in-Some.row) = sym c.take.ensures.row ∙ ap (option_map row_atom) c.in-Some.is in
    record { room = ap (has_stamp c.args.self.now.stamps.stamps.items) c.from.ensures ∙ stamped_at c.args.self.now.stamps.stamps.items (rows_in c.args.self.now.slots) c.args.id.0 (row_atom c.in-Some.row) c.args.self.now.stamped at }

pub invariant_of-self-2 : goal.invariant_of-self-2
invariant_of-self-2 g c =
    let at : atom_of (rows_in c.args.self.now.slots) c.args.id.0 ≡ Some (row_atom c.in-Some.row) = sym c.take.ensures.row ∙ ap (option_map row_atom) c.in-Some.is in
    let looks : AreLooksOf (row_atom c.in-Some.row) c.of.result = subst (λ l. AreLooksOf (atom_over c.in-Some.row.sym l) c.of.result) c.as_slice.ensures.value c.of.ensures in
    let less : (n : ℕ) → last_at c.args.self.now.stamps.stamps.items n < c.args.self.now.changes + 1 = λ n. omega (arith, c.args.self.now.up_to n) in
    record {
      listed = rw c.take.ensures.rows (AreListed-taken (rows_in c.args.self.now.slots) c.args.id.0 (row_atom c.in-Some.row) c.of.result 1 (1 + length c.args.self.now.slots.items.items) (ids_under c.args.self.now.lists) (ids_under c.take_out.new.self) looks (Ascends-rows 1 c.args.self.now.slots.items.items) at c.args.self.now.listed c.take_out.ensures);
      stamped = rw c.take.ensures.rows (stamped_without c.args.self.now.stamps.stamps.items c.raise.new.self.stamps.items (rows_in c.args.self.now.slots) c.args.id.0 c.args.self.now.stamped (λ n has. c.raise.ensures.kept n ∙ has));
      up_to = λ n. last_raised (c.in-Some.row.sym.0 == n && nat_lt (last_at c.args.self.now.stamps.stamps.items n) (c.args.self.now.changes + 1)) (last_at c.args.self.now.stamps.stamps.items n) (c.args.self.now.changes + 1) (last_at c.raise.new.self.stamps.items n) (less n) (rw c.from.ensures at (c.raise.ensures.lasts n));
      given = omega (arith, c.take.ensures.next, c.args.self.now.given);
      few = omega arith;
    }

pub returns : goal.returns
returns g c =
    let at : atom_of (rows_in c.args.self.now.slots) c.args.id.0 ≡ Some (row_atom c.in-Some.row) = sym c.take.ensures.row ∙ ap (option_map row_atom) c.in-Some.is in
    let less : (n : ℕ) → last_at c.args.self.now.stamps.stamps.items n < c.args.self.now.changes + 1 = λ n. omega (arith, c.args.self.now.up_to n) in
    let counts : (n : ℕ) → count_at c.raise.new.self.stamps.items n ≡ count_at c.args.self.now.stamps.stamps.items n + cond (c.in-Some.row.sym.0 == n) 1 0 =
    λ n. count_raised c.in-Some.row.sym.0 n (count_at c.args.self.now.stamps.stamps.items n) (count_at c.args.self.now.stamps.stamps.items n) (last_at c.args.self.now.stamps.stamps.items n) (c.args.self.now.changes + 1) (count_at c.raise.new.self.stamps.items n) refl (less n) (rw c.from.ensures at (c.raise.ensures.counts n)) in
    let old : Store = store_view c.args.self.now in
    record {
      store = (λ i. record { rows = c.take.ensures.rows i; next_id = c.take.ensures.next i; stamps = fun_ext counts i; changes = c.args.self.now.changes + 1 }) ∙ ap (removed_as old c.args.id.0) (sym at);
      there = sym (ap is_some at);
    }
