use Rattle.std.proofs.Common.{◌∙◌, ap, sym}
use Rattle.chr_bind.specs.Chains.{links_before}
use Rattle.chr_bind.proofs.Changed.{set_beyond, links_before-last}
use Rattle.chr_bind.proofs.unification.undo.Goals as goal

pub loop-place-preserved-then-place-links : goal.loop-place-preserved-then-place-links
loop-place-preserved-then-place-links g c =
    sym (links_before-last c.pop.new.self.items (c.in-Some.place, c.in-Some.link) c.loop-place.links) ∙ sym (ap (λ es. links_before es c.loop-place.links) c.in-Some.ensures.items) ∙ c.loop-place.invariant

pub loop-place-preserved : goal.loop-place-preserved
loop-place-preserved g c =
    ap (links_before c.pop.new.self.items) (sym (set_beyond c.loop-place.links c.in-Some.place c.in-Some.link c.if-place-links.false)) ∙ sym (links_before-last c.pop.new.self.items (c.in-Some.place, c.in-Some.link) c.loop-place.links)
    ∙ sym (ap (λ es. links_before es c.loop-place.links) c.in-Some.ensures.items) ∙ c.loop-place.invariant
