use Rattle.std.proofs.Common.{◌≡◌, [], ap, refl}
use Rattle.chr_store.specs.Looks.{ids_under}
use Rattle.chr_store.specs.declared.lists.Look.TheVariants.{Symbol, Keyed, Open}
use Rattle.chr_store.proofs.lists.Lists.new.Goals as goal

pub returns : goal.returns
returns g c = λ look. elim look as (λ k. ids_under (record { by_symbol = c.new.result; «open» = c.new-2.result; alloc = c.args.alloc }) k ≡ []) [ Symbol f ↦ rw c.new.ensures.items refl | Keyed f k ↦ rw c.new.ensures.items refl | Open ↦ c.new-2.ensures ]
