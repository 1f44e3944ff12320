use Rattle.std.proofs.Common.{◌∙◌}
use Rattle.chr_map.proofs.Changed.{opened_is}
use Rattle.chr_map.proofs.Clauses.{none_leads, some_more}
use Rattle.chr_map.proofs.Runs.{zero_of}
use Rattle.chr_map.proofs.span.+opened.Goals as goal

pub returns-clause-same : goal.returns-clause-same
returns-clause-same g t c =
    let none = zero_of _ c.is_empty.result c.if-not-is_empty.false c.is_empty.ensures in
    let all = opened_is c.args.first.now c.args.branches.now c.as_slice.result.now c.in-Some.node c.deref-node.result.now none c.in-Some.is c.deref-node.ensures c.as_slice.ensures.value in
    some_more _ _ c.opened.result c.opened.ensures.same (λ parts h. all ∙ h)

pub returns-clause-none : goal.returns-clause-none
returns-clause-none g t c =
    let none = zero_of _ c.is_empty.result c.if-not-is_empty.false c.is_empty.ensures in
    let all = opened_is c.args.first.now c.args.branches.now c.as_slice.result.now c.in-Some.node c.deref-node.result.now none c.in-Some.is c.deref-node.ensures c.as_slice.ensures.value in
    none_leads _ _ c.opened.result c.opened.ensures.none (λ h. all ∙ h)
