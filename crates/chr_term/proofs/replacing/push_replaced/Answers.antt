use Rattle.std.proofs.Common.{◌∙◌, ◌++◌, ◌∷◌, [], ap, sym, take}
use Rattle.chr_term.specs.Replaced.{list_by, tree_at}
use Rattle.chr_term.proofs.Replaced.{at_kept, at_replaced, next_kept, pushed}
use Rattle.chr_term.proofs.replacing.push_replaced.Goals as goal

pub returns-in-None-made : goal.returns-in-None-made
returns-in-None-made g c = rw (c.in-None.is, c.in-None-made.is) (next_kept c.args.terms.now c.args.place c.requires)

pub returns-in_ok-push-in-Some-made : goal.returns-in_ok-push-in-Some-made
returns-in_ok-push-in-Some-made g c =
    let at = at_kept c.args.terms.now c.args.place c.index-terms-place.result c.requires c.index-terms-place.is in
    pushed c.args.terms.now c.args.place c.args.made.now c.in-Some-made.items.items _ c.in_ok-copy-in-Some-made.field-0 c.args.replaced
    (ap (list_by (take c.args.place c.args.terms.now)) c.in-Some-made.is) c.in_ok-push-in-Some-made.ensures.items
    (ap (tree_at c.args.terms.now c.args.place) c.in-None.is ∙ at ∙ ap (λ t. t ∷ []) (sym c.in_ok-copy-in-Some-made.ensures))

pub returns-in_ok-begun_with-in-None-made-2 : goal.returns-in_ok-begun_with-in-None-made-2
returns-in_ok-begun_with-in-None-made-2 g c =
    let old = ap (list_by (take c.args.place c.args.terms.now)) c.in-None-made-2.is in
    let at = ap (tree_at c.args.terms.now c.args.place) c.in-Some.is ∙ at_replaced c.args.terms.now c.args.place c.in-Some.term c.requires in
    c.in_ok-begun_with-in-None-made-2.ensures ∙ (λ k. sym old k ++ sym at k)

pub returns-in_ok-push-in-Some-made-2 : goal.returns-in_ok-push-in-Some-made-2
returns-in_ok-push-in-Some-made-2 g c =
    pushed c.args.terms.now c.args.place c.args.made.now c.in-Some-made-2.items.items _ c.in-Some.term c.args.replaced
    (ap (list_by (take c.args.place c.args.terms.now)) c.in-Some-made-2.is) c.in_ok-push-in-Some-made-2.ensures.items
    (ap (tree_at c.args.terms.now c.args.place) c.in-Some.is ∙ at_replaced c.args.terms.now c.args.place c.in-Some.term c.requires)
