use Rattle.std.proofs.Common.{Ok, ◌∙◌, ap, arith, length, subst, sym}
use Rattle.chr_semantics.specs.Mgu.{apart, elimination_from}
use Rattle.chr_semantics.specs.Subst.{apply}
use Rattle.chr_term.specs.TermView.{view}
use Rattle.chr_bind.specs.Agenda.{Differs, IsBound, rest_apart}
use Rattle.chr_bind.specs.Chains.{pairs_in, solution}
use Rattle.chr_bind.proofs.Binds.{length-last, name_free}
use Rattle.chr_bind.proofs.Eliminations.{solution_once_more, elimination_before, elimination_once_more}
use Rattle.chr_bind.proofs.unification.make_equal.Goals as goal

pub returns-clause-added : goal.returns-clause-added
returns-clause-added g c =
    let pairs = pairs_in c.args.made.now c.args.progress.now.added.items in
    let s = solution pairs in
    let b = c.in-Bind.binding in
    let all = apart (apply s (view c.args.left.now)) (apply s (view c.args.right.now)) in
    let found = subst (λ w. let r = solution (pairs_in c.args.made.now w) in Differs c.args.links.now r (apart (apply r (view c.args.left.now)) (apply r (view c.args.right.now))) c.first_difference.new.agenda.items c.in_ok-first_difference.field-0) c.as_slice-added.ensures.value c.in_ok-first_difference.ensures.step in
    let step = subst (Differs c.args.links.now s all c.first_difference.new.agenda.items) c.in-Bind.is found in
    let bound = subst (IsBound c.args.links.now c.try_bind.new.links pairs b) c.if-not-branch.false c.in_ok-try_bind.ensures.bound in
    let added = c.try_bind.ensures.added (c.in_ok-try_bind.was ∙ ap Ok c.if-not-branch.false) in
    let more = solution_once_more c.args.made.now c.args.progress.now.added.items c.try_bind.new.progress.added.items b.name b.term added in
    let free = name_free c.args.links.now pairs b.end b.name (view b.term.now) c.requires.sound step.1.end bound.1 in
    elimination_before s _ all (rest_apart _ c.first_difference.new.agenda.items) _ _ _ _ c.make_rest_equal.result
    (ap length added ∙ length-last c.args.progress.now.added.items (b.name, b.term))
    (λ m. elimination_once_more 0 s all s all c.first_difference.new.agenda.items b.name _ (λ k. ap (λ f. elimination_from f s all) (omega arith)) step.0 bound.1 free m ∙ ap (λ r. elimination_from m r (rest_apart r c.first_difference.new.agenda.items)) (sym more))
    c.make_rest_equal.ensures.added
