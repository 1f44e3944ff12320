use Rattle.chr_map.proofs.Parts.{seen_alike}
use Rattle.chr_map.proofs.node.NodeClone.clone.Goals as goal

pub returns : goal.returns
returns g c = record { cases = seen_alike _ c.args.self.now c.in_ok-share_subtree.ensures c.in_ok-share_branches.ensures }
