use Rattle.std.proofs.Common.{◌≡◌, ◌↔◌, IsTrue}
use Rattle.chr_semantics.specs.Subst.{value_at}
use Rattle.chr_semantics.specs.Tree.{var}
use Rattle.chr_trace.proofs.Bound.{bound_where}
use Rattle.chr_trace.proofs.scribe.Scribe.is_bound.Goals as goal

pub returns : goal.returns
returns g c =
    let s = c.args.self.now.bindings.now.subst in
    let stays : IsTrue c.resolves_to.result ↔ (value_at s c.args.var ≡ var c.args.var) =
    c.resolves_to.ensures in
    bound_where s c.args.var c.resolves_to.result c.len.ensures.solved stays
