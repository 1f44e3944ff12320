use Rattle.std.proofs.Common.{◌∙◌, ◌<◌, length, arith}
use Rattle.chr_map.proofs.Changed.{cut_in_two, resized}
use Rattle.chr_map.proofs.Parts.{rolled}
use Rattle.chr_map.proofs.putting.cut_off.Goals as goal

pub returns : goal.returns
returns g c =
    let some : 0 < length c.in-Ok.branches.items = omega (arith, c.in-Ok.ensures.tail_len, c.in-Ok.branches.ok.0) in
    cut_in_two c.args.node.now 8 c.split_off.new.self.items c.in-Ok.branches.items c.remove-middle.new.self.items c.remove-middle.result _ _ c.in-Ok.ensures.items c.in-Ok.ensures.tail some c.remove-middle.ensures.value c.remove-middle.ensures.items (resized _ _ ∙ rolled _) (rolled _)
