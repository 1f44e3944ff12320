use Rattle.std.proofs.Common.{◌≡◌, ◌∙◌, ◌++◌, ◌∷◌, [], ap, arith, length, sym}
use Rattle.chr_map.proofs.Changed.{popped, resized}
use Rattle.chr_map.proofs.Parts.{spans}
use Rattle.chr_map.specs.Places.{branch_count}
use Rattle.chr_map.proofs.taking.pop.Goals as goal

pub returns : goal.returns
returns g c =
    let n = c.args.node.now in
    let at_last : branch_count n ≡ length (spans n).branches.items = omega (arith, (spans n).branches.ok.0) in
    popped n _ (branch_count n) c.pop.new.self c.in_ok-branch.branch c.in_ok-branch.ensures.items at_last c.requires ∙ ap (λ es. es ++ (c.in_ok-branch.branch.key, c.in_ok-branch.branch.value) ∷ []) (sym (resized _ _))
