use Rattle.std.proofs.Common.{◌≡◌, ◌∙◌, [], Option, Some, None, ap, refl, arith}
use Rattle.std.specs.Prelude.{unwrap_or}
use Rattle.indexmap.specs.IndexMap.{get}
use Rattle.chr_store.specs.IdsValue.{IdsValue}
use Rattle.chr_store.specs.Looks.{ids_in, same_key}
use Rattle.chr_store.proofs.SameKey.{each_key, list_of-same}
use Rattle.chr_store.proofs.lists.OfSymbol.room.Goals as goal

-- a list that was there, or a new one
made : (o : Option IdsValue) (v w : IdsValue) → w.ids ≡ [] → v ≡ unwrap_or o w → v.ids ≡ ids_in o
made None v w empty e = ap (λ (x : IdsValue). x.ids) e ∙ empty
made (Some u) v w empty e = ap (λ (x : IdsValue). x.ids) e

pub returns-in_ok-self-in-Some-clause-keyed : goal.returns-in_ok-self-in-Some-clause-keyed
returns-in_ok-self-in-Some-clause-keyed g c =
    let is = c.room-in-Some.ensures.ids ∙ made (get same_key c.args.self.now.keyed c.in-Some.key) c.or_insert.result.now c.new.result c.new.ensures (c.or_insert.ensures.value ∙ ap (λ (o : Option IdsValue). unwrap_or o c.new.result) c.in_ok-self-in-Some.ensures.value) in
    each_key _ refl (λ other. grind (arith, is, c.in_ok-self-in-Some.ensures.update.0 c.room-in-Some.new.self, list_of-same c.args.self.now.keyed c.in-Some.key other))
