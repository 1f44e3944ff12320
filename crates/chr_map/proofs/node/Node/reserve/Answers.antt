use Rattle.std.proofs.Common.{refl, arith}
use Rattle.chr_map.proofs.Clauses.{ok_leads}
use Rattle.chr_map.proofs.Parts.{rolled_free, rolled_same}
use Rattle.chr_map.proofs.node.Node.reserve.Goals as goal

pub returns-clause-same : goal.returns-clause-same
returns-clause-same g c = rolled_same _ c.args.self.now refl c.reserve.ensures.items c.reserve.ensures.len

pub returns-clause-room : goal.returns-clause-room
returns-clause-room g c = ok_leads _ _ c.reserve.result c.reserve.ensures.ok (λ h. rolled_free _ (omega arith))
