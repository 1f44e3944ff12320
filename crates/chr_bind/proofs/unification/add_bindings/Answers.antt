use Rattle.std.proofs.Common.{Ok, ◌++◌, ◌∙◌, ap, subst, sym}
use Rattle.chr_term.specs.TermView.{view}
use Rattle.chr_bind.specs.Agenda.{Eliminates}
use Rattle.chr_bind.specs.Chains.{IsSound, owned_pairs, links_before}
use Rattle.chr_bind.proofs.Eliminations.{elimination_none, elimination_unifier}
use Rattle.chr_bind.proofs.unification.add_bindings.Goals as goal

pub returns-in_ok-keep-in-Ok-true-clause-unified : goal.returns-in_ok-keep-in-Ok-true-clause-unified
returns-in_ok-keep-in-Ok-true-clause-unified g c =
    let kept = c.in_ok-keep-in-Ok-true.ensures.kept in
    let owned = c.in_ok-keep-in-Ok-true.ensures.pairs in
    let added = subst (Eliminates _ _ _ _ _) c.in-Ok-true.field-0-test c.in-Ok-true.ensures.added in
    let sound = subst (IsSound c.make_equal.new.links) (ap (λ es. owned_pairs c.args.made.now ++ es) (sym owned)) (c.make_equal.ensures.sound (c.in-Ok-true.is ∙ ap Ok c.in-Ok-true.field-0-test)) in (
      subst (λ ls. IsSound ls (owned_pairs c.args.made.now ++ owned_pairs c.in_ok-keep-in-Ok-true.field-0.pairs.items)) (sym kept) sound,
      elimination_unifier c.args.links.now c.args.made.now c.new.result.items c.make_equal.new.progress.added.items (view c.args.left.now) (view c.args.right.now) _ c.new.ensures.items c.requires.sound added owned,
      ap (λ es. links_before es c.keep.new.links) c.in_ok-keep-in-Ok-true.ensures.before ∙ ap (links_before c.make_equal.new.progress.before.items) kept ∙ c.make_equal.ensures.undone ∙ ap (λ es. links_before es c.args.links.now) c.new-2.ensures.items,
    )

pub returns-in-Ok-false-clause-unified : goal.returns-in-Ok-false-clause-unified
returns-in-Ok-false-clause-unified g c =
    let added = subst (Eliminates _ _ _ _ _) c.in-Ok-false.field-0-test c.in-Ok-false.ensures.added in
    (elimination_none c.args.made.now c.new.result.items c.make_equal.new.progress.added.items (view c.args.left.now) (view c.args.right.now) c.new.ensures.items added, c.undo.ensures ∙ c.make_equal.ensures.undone ∙ ap (λ es. links_before es c.args.links.now) c.new-2.ensures.items)
