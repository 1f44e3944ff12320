use Rattle.std.proofs.Common.{◌∙◌, ap}
use Rattle.chr_bind.specs.Chains.{changed_links, links_before}
use Rattle.chr_bind.proofs.Changed.{links_before-append}
use Rattle.chr_bind.proofs.unification.bind.Goals as goal

pub returns-clause-undone : goal.returns-clause-undone
returns-clause-undone g c =
    let before = c.reserve-2.new.self.items in
    ap (λ es. links_before es c.attach-changed.new.links) c.remember.ensures ∙ links_before-append before (changed_links c.attach-changed.result) c.attach-changed.new.links ∙ ap (links_before before) c.attach-changed.ensures.undone
    ∙ ap (λ es. links_before es c.args.links.now) c.reserve-2.ensures.items
