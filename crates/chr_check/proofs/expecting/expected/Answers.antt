use Rattle.chr_check.proofs.Standing.{one_more_stands}
use Rattle.chr_check.proofs.expecting.expected.Goals as goal
use Rattle.chr_check.proofs.expecting.expected.Goals.{then-branch+in_ok-push, else-branch}

pub loop-candidate-preserved : goal.loop-candidate-preserved
loop-candidate-preserved g c =
    let before = c.loop-candidate.invariant in
    record {
      parted = before.parted;
      standing = elim c.if-branch.branch [
        | then-branch+in_ok-push w ↦
            let goes_on = rw c.as_slice.ensures.value at (c.in_ok-is_found.ensures w.if-branch.true) in
            rw w.found-is (rw w.in_ok-push.ensures.items (one_more_stands _ _ _ _ before.standing (c.in_ok-text.text.items, before.parted, goes_on)))
        | else-branch w ↦ rw w.found-is before.standing
      ];
    }
