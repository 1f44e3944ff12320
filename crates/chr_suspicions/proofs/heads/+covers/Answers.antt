use Rattle.std.proofs.Common.{◌+◌, arith}
use Rattle.chr_semantics.specs.Bounds.{AreBelow}
use Rattle.chr_semantics.specs.declared.limits.TheConstants.{MAX_RULE_VARIABLES}
use Rattle.chr_term.specs.TermView.{trees_view}
use Rattle.chr_bind.proofs.Marked.{marks_covered}
use Rattle.chr_suspicions.proofs.Covered.{agrees_again, covers_first, covers_later, first_of, keeps_again, rest_of, same_again}
use Rattle.chr_suspicions.proofs.heads.+covers.Goals as goal

pub covers-covers_with-requires : goal.covers-covers_with-requires
covers-covers_with-requires g t c κs within =
    let shorter = c.in-Some-Some.ensures'.cases.1 in
    let small = first_of (λ h. AreBelow MAX_RULE_VARIABLES (trees_view h.1.items)) c.args.patterns.now c.in-Some-Some.pattern.now c.in-Some-Some.others.now c.in-Some-Some.ensures.cases.0 c.requires in
    let others = rest_of (λ h. AreBelow MAX_RULE_VARIABLES (trees_view h.1.items)) c.args.patterns.now c.in-Some-Some.pattern.now c.in-Some-Some.others.now c.in-Some-Some.ensures.cases.0 c.requires in
    (omega (arith, shorter, c.decreases), (within, (omega arith, (small, others))))

pub covers-returns-then-covers_with-clause-covers : goal.covers-returns-then-covers_with-clause-covers
covers-returns-then-covers_with-clause-covers g t c m fs gs i j agrees =
    covers_first fs gs i j c.args.patterns.now c.in-Some-Some.pattern.now c.in-Some-Some.others.now c.args.heads.now c.in-Some-Some.head.now c.in-Some-Some.heads.now c.in-Some-Some.ensures.cases.0 c.in-Some-Some.ensures'.cases.0 m
    (c.if-covers_with.ensures.covers m fs gs (i + 1) (j + 1) agrees)

pub covers-back_to-requires : goal.covers-back_to-requires
covers-back_to-requires g t c = (omega arith, marks_covered c.args.matching.now c.covers_with.new.matching c.marks-marks.result c.marks-marks.ensures c.covers_with.ensures.kept)

pub covers-returns-else-covers_with-clause-covers : goal.covers-returns-else-covers_with-clause-covers
covers-returns-else-covers_with-clause-covers g t c m fs gs i j agrees =
    let same = same_again c.marks-marks.result c.args.matching.now c.covers_with.new.matching c.back_to.new.self c.back_to.ensures c.marks-marks.ensures c.covers_with.ensures.kept in
    covers_later fs gs i j c.args.patterns.now c.in-Some-Some.pattern.now c.in-Some-Some.others.now c.args.heads.now c.in-Some-Some.head.now c.in-Some-Some.heads.now c.in-Some-Some.ensures.cases.0 c.in-Some-Some.ensures'.cases.0 m c.covers.result
    (c.if-covers_with.ensures.covers m fs gs (i + 1) (j + 1) agrees) (c.covers.ensures.covers m fs gs i (j + 1) (agrees_again c.args.matching.now c.back_to.new.self m same agrees))

pub covers-returns-else-covers_with-clause-kept : goal.covers-returns-else-covers_with-clause-kept
covers-returns-else-covers_with-clause-kept g t c =
    let same = same_again c.marks-marks.result c.args.matching.now c.covers_with.new.matching c.back_to.new.self c.back_to.ensures c.marks-marks.ensures c.covers_with.ensures.kept in
    keeps_again c.args.matching.now c.back_to.new.self c.covers.new.matching same c.covers.ensures.kept
