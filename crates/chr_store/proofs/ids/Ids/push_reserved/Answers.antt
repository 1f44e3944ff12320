use Rattle.std.proofs.Common.{◌≡◌, ◌++◌, ◌∷◌, [], List, drop, ap, ◌∙◌, arith}
use Rattle.chr_store.specs.Numbers.{numbers}
use Rattle.chr_store.specs.IdsValue.{IdsValue}
use Rattle.chr_store.proofs.Ascending.{increasing_push, numbers_push}
use Rattle.chr_store.proofs.ids.Ids.push_reserved.Goals as goal

pub invariant_of-self : goal.invariant_of-self
invariant_of-self g c =
    let within = c.self.invariant.1 in
    let pushed : numbers (drop c.self.inside.start c.push_reserved.new.self.items) ≡ numbers (drop c.self.inside.start c.self.inside.items.items) ++ c.args.id.0 ∷ [] =
    ap (λ (l : List _). numbers (drop c.self.inside.start l)) c.push_reserved.ensures.items ∙ numbers_push c.self.inside.items.items c.self.inside.start c.args.id (omega (arith, within, c.self.inside.items.ok.0)) in
    let view : numbers (drop c.self.inside.start c.self.inside.items.items) ≡ c.args.self.now.ids = ap (λ (v : IdsValue). v.ids) c.self.view_is in
    (rw pushed (increasing_push _ _ c.self.invariant.0 (rw view c.requires.greatest)), omega (arith, within, c.push_reserved.ensures.len))
