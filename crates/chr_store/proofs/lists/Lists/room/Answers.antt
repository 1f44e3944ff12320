use Rattle.std.proofs.Common.{◌≡◌, ◌∙◌, true≢false, arith, refl, sym}
use Rattle.std.specs.Vec.{with_item}
use Rattle.chr_store.proofs.Looked.{look_each, room_at}
use Rattle.chr_store.proofs.lists.Lists.room.Goals as goal

pub returns-in_err-room-clause-same : goal.returns-in_err-room-clause-same
returns-in_err-room-clause-same g c = λ look.
    look_each (λ b old new. new ≡ old) c.room_for.new.self (record { by_symbol = with_item c.room_for.new.self.by_symbol c.args.at.sym.0 c.room.new.self; «open» = c.room_for.new.self.«open»; alloc = c.room_for.new.self.alloc }) c.args.at c.index_mut.result.now c.room.new.self
    (omega (arith, c.in_ok-room_for.ensures.there, c.room_for.new.self.by_symbol.ok.0)) c.index_mut.ensures.value refl c.room.ensures.all c.room.ensures.keyed refl (λ ids. refl) look
    ∙ c.room_for.ensures.same look

pub returns-then-at-clause-same : goal.returns-then-at-clause-same
returns-then-at-clause-same g c = λ look.
    look_each (λ b old new. new ≡ old) c.room_for.new.self (record { by_symbol = with_item c.room_for.new.self.by_symbol c.args.at.sym.0 c.room.new.self; «open» = c.room-then-at.new.self; alloc = c.room_for.new.self.alloc }) c.args.at c.index_mut.result.now c.room.new.self
    (omega (arith, c.in_ok-room_for.ensures.there, c.room_for.new.self.by_symbol.ok.0)) c.index_mut.ensures.value refl c.room.ensures.all c.room.ensures.keyed c.room-then-at.ensures.ids (λ ids. refl) look
    ∙ c.room_for.ensures.same look

pub returns-clause-same : goal.returns-clause-same
returns-clause-same g c = λ look.
    look_each (λ b old new. new ≡ old) c.room_for.new.self (record { by_symbol = with_item c.room_for.new.self.by_symbol c.args.at.sym.0 c.room.new.self; «open» = c.room_for.new.self.«open»; alloc = c.room_for.new.self.alloc }) c.args.at c.index_mut.result.now c.room.new.self
    (omega (arith, c.in_ok-room_for.ensures.there, c.room_for.new.self.by_symbol.ok.0)) c.index_mut.ensures.value refl c.room.ensures.all c.room.ensures.keyed refl (λ ids. refl) look
    ∙ c.room_for.ensures.same look

pub returns-clause-room : goal.returns-clause-room
returns-clause-room g c =
    room_at c.room_for.new.self (record { by_symbol = with_item c.room_for.new.self.by_symbol c.args.at.sym.0 c.room.new.self; «open» = c.room_for.new.self.«open»; alloc = c.room_for.new.self.alloc }) c.args.at c.room.new.self
    (omega (arith, c.in_ok-room_for.ensures.there, c.room_for.new.self.by_symbol.ok.0)) refl c.in_ok-room.ensures.room_in_all c.in_ok-room.ensures.room (λ some. absurd (true≢false (sym some ∙ c.if-at.false)))
