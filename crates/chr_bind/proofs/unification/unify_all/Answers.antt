use Rattle.std.proofs.Common.{Some, ◌∙◌, ap, subst, sym}
use Rattle.chr_term.specs.TermView.{view}
use Rattle.chr_bind.specs.Chains.{owned_pairs, solution}
use Rattle.chr_bind.specs.Unified.{IsUnification, IsUnified}
use Rattle.chr_bind.proofs.Eliminations.{length-owned, owned_pairs-append, unified_as}
use Rattle.chr_bind.proofs.unification.unify_all.Goals as goal

pub returns-clause-unified : goal.returns-clause-unified
returns-clause-unified g c =
    let made = owned_pairs c.args.made.now.items in
    let more = owned_pairs c.in-Some.added.pairs.items in
    let left = view c.args.left.now in
    let right = view c.args.right.now in
    let lent = subst (IsUnification c.args.links.now c.add_bindings.new.links (owned_pairs c.as_slice.result.now) left right) c.in-Some.is c.in_ok-add_bindings.ensures.unified in
    let added = subst (λ es. IsUnification c.args.links.now c.add_bindings.new.links (owned_pairs es) left right (Some c.in-Some.added)) c.as_slice.ensures.value lent in
    let all = ap owned_pairs c.in_ok-take_over.ensures.made ∙ owned_pairs-append c.args.made.now.items c.in-Some.added.pairs.items in
    subst (λ es. IsUnified left right (solution made) (solution es) c.answer_of-answer.result) (sym all) (unified_as made more left right _ c.answer_of-answer.result c.requires.sound.solved added.1 (length-owned c.in-Some.added.pairs.items) c.answer_of-answer.ensures)
