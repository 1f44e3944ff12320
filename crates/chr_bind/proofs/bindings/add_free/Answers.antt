use Rattle.std.proofs.Common.{◌≡◌, ◌∙◌, arith, length}
use Rattle.chr_bind.proofs.Fresh.{fresh_free}
use Rattle.chr_bind.proofs.bindings.add_free.Goals as goal

pub loop-preserved : goal.loop-preserved
loop-preserved g c =
    let name : c.len-name.result ≡ length c.loop.links.items = c.len-name.ensures ∙ c.loop.links.ok.0 in
    rw (c.push_reserved.ensures.items, name) ((λ pairs h. fresh_free c.loop.links.items pairs 1 (c.loop.invariant.0 pairs h)), (omega (arith, c.push_reserved.ensures.len, c.loop.invariant.1)), c.push_reserved.ensures.capacity ∙ c.loop.invariant.2)
