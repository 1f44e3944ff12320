use Rattle.std.proofs.Common.{◌≡◌, ◌<◌, ◌∙◌, ◌+◌, ◌++◌, ◌∷◌, ◌==◌, ◌&&◌, [], cond, nat_lt, length, ℕ, ap, subst, refl, arith}
use Rattle.std.proofs.Math.Path.{fun_ext}
use Rattle.chr_semantics.specs.Program.{Atom}
use Rattle.chr_term.specs.TermView.{atom_over}
use Rattle.chr_store.specs.Counts.{count_at, last_at}
use Rattle.chr_store.specs.Looks.{AreLooksOf, ids_under, is_at}
use Rattle.chr_store.specs.Rows.{rows_from}
use Rattle.chr_store.specs.SlotsView.{next_in, rows_in}
use Rattle.chr_store.specs.declared.lists.Look.{Look}
use Rattle.chr_store.proofs.SlotRows.{Ascends-rows}
use Rattle.chr_store.proofs.Listed.{All-listed, AreListed-put}
use Rattle.chr_store.proofs.Stamped.{count_raised, last_raised, stamped_put}
use Rattle.chr_store.proofs.store.Store.add.Goals as goal

pub put_reserved-requires-clause-greatest : goal.put_reserved-requires-clause-greatest
put_reserved-requires-clause-greatest g c =
    let next : 1 + length c.args.self.now.slots.items.items ≡ c.push_reserved-id.result.0 = omega (arith, c.push_reserved-id.ensures.id, ap length c.make_room.ensures.slots) in
    λ look.
    All-listed 1 (1 + length c.args.self.now.slots.items.items) c.push_reserved-id.result.0 (rows_in c.args.self.now.slots) look (ids_under c.make_room.new.lists look) (Ascends-rows 1 c.args.self.now.slots.items.items) next (c.make_room.ensures.lists look ∙ c.args.self.now.listed look)

pub invariant_of-self-2 : goal.invariant_of-self-2
invariant_of-self-2 g c =
    let a : Atom = atom_over c.args.sym c.args.args in
    let next : c.push_reserved-id.result.0 ≡ next_in c.args.self.now.slots = omega (arith, c.push_reserved-id.ensures.id, ap length c.make_room.ensures.slots) in
    let rows : rows_in c.push_reserved-id.new.self ≡ rows_in c.args.self.now.slots ++ (next_in c.args.self.now.slots, a) ∷ [] = c.push_reserved-id.ensures.rows ∙ ap (λ l. rows_from 1 l ++ (length l + 1, a) ∷ []) c.make_room.ensures.slots in
    let looks : AreLooksOf a c.of-at.result = subst (λ l. AreLooksOf (atom_over c.args.sym l) c.of-at.result) c.as_slice.ensures.value c.of-at.ensures in
    let less : (n : ℕ) → last_at c.make_room.new.stamps.stamps.items n < c.args.self.now.changes + 1 = λ n. omega (arith, c.make_room.ensures.lasts n, c.args.self.now.up_to n) in
    let put : (look : Look) → ids_under c.put_reserved.new.self look ≡ ids_under c.args.self.now.lists look ++ cond (is_at c.of-at.result look) (next_in c.args.self.now.slots ∷ []) [] =
    λ look. c.put_reserved.ensures look ∙ rw (c.make_room.ensures.lists look, next) refl in
    record {
      listed = rw rows (AreListed-put (rows_in c.args.self.now.slots) (next_in c.args.self.now.slots) a c.of-at.result (ids_under c.args.self.now.lists) (ids_under c.put_reserved.new.self) looks c.args.self.now.listed put);
      stamped = rw rows (stamped_put c.args.self.now.stamps.stamps.items c.raise.new.self.stamps.items (rows_in c.args.self.now.slots) (next_in c.args.self.now.slots, a) c.args.self.now.stamped (λ n has. c.raise.ensures.kept n ∙ c.make_room.ensures.kept n has) (c.raise.ensures.kept c.args.sym.0 ∙ rw (← looks.sym) c.in_default.ensures.stamp));
      up_to = λ n. last_raised (c.args.sym.0 == n && nat_lt (last_at c.make_room.new.stamps.stamps.items n) (c.args.self.now.changes + 1)) (last_at c.make_room.new.stamps.stamps.items n) (c.args.self.now.changes + 1) (last_at c.raise.new.self.stamps.items n) (less n) (rw c.from.ensures at (c.raise.ensures.lasts n));
      given = omega (arith, c.push_reserved-id.ensures.next, ap length c.make_room.ensures.slots, c.args.self.now.given);
      few = omega arith;
    }

pub returns-clause-ok : goal.returns-clause-ok
returns-clause-ok g c =
    let a : Atom = atom_over c.args.sym c.args.args in
    let rows : rows_in c.push_reserved-id.new.self ≡ rows_in c.args.self.now.slots ++ (next_in c.args.self.now.slots, a) ∷ [] = c.push_reserved-id.ensures.rows ∙ ap (λ l. rows_from 1 l ++ (length l + 1, a) ∷ []) c.make_room.ensures.slots in
    let next : next_in c.push_reserved-id.new.self ≡ next_in c.args.self.now.slots + 1 = omega (arith, c.push_reserved-id.ensures.next, ap length c.make_room.ensures.slots) in
    let less : (n : ℕ) → last_at c.make_room.new.stamps.stamps.items n < c.args.self.now.changes + 1 = λ n. omega (arith, c.make_room.ensures.lasts n, c.args.self.now.up_to n) in
    let counts : (n : ℕ) → count_at c.raise.new.self.stamps.items n ≡ count_at c.args.self.now.stamps.stamps.items n + cond (c.args.sym.0 == n) 1 0 =
    λ n. count_raised c.args.sym.0 n (count_at c.args.self.now.stamps.stamps.items n) (count_at c.make_room.new.stamps.stamps.items n) (last_at c.make_room.new.stamps.stamps.items n) (c.args.self.now.changes + 1) (count_at c.raise.new.self.stamps.items n) (c.make_room.ensures.counts n) (less n) (rw c.from.ensures at (c.raise.ensures.counts n)) in
    λ i. record { rows = rows i; next_id = next i; stamps = fun_ext counts i; changes = c.args.self.now.changes + 1 }
