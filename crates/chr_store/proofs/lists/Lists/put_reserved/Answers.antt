use Rattle.std.proofs.Common.{◌≡◌, ◌++◌, ◌∷◌, [], cond, sym, refl}
use Rattle.std.proofs.lemmas.List.{append-nil}
use Rattle.std.specs.Vec.{with_item}
use Rattle.chr_store.specs.declared.lists.Look.TheVariants.{Symbol, Keyed, Open}
use Rattle.chr_store.proofs.Looked.{has_lists, look_each}
use Rattle.chr_store.proofs.Places.{read}
use Rattle.chr_store.proofs.lists.Lists.put_reserved.Goals as goal

pub put-requires-clause-greatest_of_all : goal.put-requires-clause-greatest_of_all
put-requires-clause-greatest_of_all g c =
    let at = read c.args.self.now.by_symbol.items c.args.at.sym.0 c.args.at.sym.0 c.index_mut.result.now (has_lists _ _ c.requires.room.symbol) c.index_mut.ensures.value refl in
    rw at at (c.requires.greatest (Symbol c.args.at.sym))

pub put-requires-clause-greatest : goal.put-requires-clause-greatest
put-requires-clause-greatest g c =
    let at = read c.args.self.now.by_symbol.items c.args.at.sym.0 c.args.at.sym.0 c.index_mut.result.now (has_lists _ _ c.requires.room.symbol) c.index_mut.ensures.value refl in
    rw at at (c.requires.greatest (Keyed c.args.at.sym c.args.at.key))

pub push_reserved-requires-clause-greatest : goal.push_reserved-requires-clause-greatest
push_reserved-requires-clause-greatest g c = c.requires.greatest Open

pub returns-then-at : goal.returns-then-at
returns-then-at g c = look_each (λ b old new. new ≡ old ++ cond b (c.args.id.0 ∷ []) []) c.args.self.now (record { by_symbol = with_item c.args.self.now.by_symbol c.args.at.sym.0 c.put.new.self; «open» = c.push_reserved.new.self; alloc = c.args.self.now.alloc }) c.args.at c.index_mut.result.now c.put.new.self (has_lists _ _ c.requires.room.symbol) c.index_mut.ensures.value refl c.put.ensures.all c.put.ensures.keyed (rw c.if-at.true c.push_reserved.ensures) (λ ids. sym (append-nil ids))

pub returns-else-at : goal.returns-else-at
returns-else-at g c = look_each (λ b old new. new ≡ old ++ cond b (c.args.id.0 ∷ []) []) c.args.self.now (record { by_symbol = with_item c.args.self.now.by_symbol c.args.at.sym.0 c.put.new.self; «open» = c.args.self.now.«open»; alloc = c.args.self.now.alloc }) c.args.at c.index_mut.result.now c.put.new.self (has_lists _ _ c.requires.room.symbol) c.index_mut.ensures.value refl c.put.ensures.all c.put.ensures.keyed (rw c.if-at.false (sym (append-nil _))) (λ ids. sym (append-nil ids))
