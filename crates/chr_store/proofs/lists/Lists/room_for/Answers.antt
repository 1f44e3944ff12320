use Rattle.std.proofs.Common.{◌≡◌, ◌∙◌, refl, rules}
use Rattle.chr_store.proofs.Looked.{look_more, look_same}
use Rattle.chr_store.proofs.lists.Lists.room_for.Goals as goal

pub returns-in_err-push-clause-same : goal.returns-in_err-push-clause-same
returns-in_err-push-clause-same g c =
    let same : c.push.new.self.items ≡ c.loop-self.self.by_symbol.items = search rules in
    λ look. look_same (record { by_symbol = c.push.new.self; «open» = c.loop-self.self.«open»; alloc = c.loop-self.self.alloc }) c.loop-self.self same refl look ∙ c.loop-self.invariant look

pub loop-self-preserved : goal.loop-self-preserved
loop-self-preserved g c = λ look.
    look_more c.loop-self.self (record { by_symbol = c.push.new.self; «open» = c.loop-self.self.«open»; alloc = c.loop-self.self.alloc }) c.new.result c.in_ok-push.ensures.items c.new.ensures.all c.new.ensures.keyed refl look ∙ c.loop-self.invariant look
