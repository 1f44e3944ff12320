use Rattle.std.proofs.Common.{Ok, ◌+◌, ◌∙◌, ap, arith, length, refl, subst, sym}
use Rattle.chr_semantics.specs.Mgu.{elimination_from}
use Rattle.chr_term.specs.TermView.{view}
use Rattle.chr_bind.specs.Agenda.{Differs, IsAllDone, IsBelowAgenda, IsBound, rest_apart}
use Rattle.chr_bind.specs.Chains.{IsSound, pairs_in, solution}
use Rattle.chr_bind.proofs.Binds.{length-last, name_free, pairs_in-last}
use Rattle.chr_bind.proofs.Eliminations.{solution_once_more, elimination_inside, elimination_once_more}
use Rattle.chr_bind.proofs.unification.make_rest_equal.Goals as goal

pub loop-binding-init : goal.loop-binding-init
loop-binding-init g c =
    let s = solution (pairs_in c.args.made.now c.args.progress.now.added.items) in
    (c.requires.sound, c.requires.agenda, refl, 0, (omega arith), (λ m. ap (λ f. elimination_from f s (rest_apart s c.args.agenda.now.items)) (omega arith)))

pub returns-in-None-clause-added : goal.returns-in-None-clause-added
returns-in-None-clause-added g c =
    let s = solution (pairs_in c.args.made.now c.loop-binding.progress.added.items) in
    let found = subst (λ w. Differs c.loop-binding.links (solution (pairs_in c.args.made.now w)) (rest_apart (solution (pairs_in c.args.made.now w)) c.loop-binding.agenda.items) c.next_difference.new.agenda.items c.in_ok-next_difference.field-0) c.as_slice-added.ensures.value c.in_ok-next_difference.ensures.step in
    let step = subst (Differs c.loop-binding.links s (rest_apart s c.loop-binding.agenda.items) c.next_difference.new.agenda.items) c.in-None.is found in
    let empty = subst (IsAllDone c.next_difference.new.agenda.items) c.in-None.is c.in_ok-next_difference.ensures.none in
    (c.loop-binding.invariant.3, c.loop-binding.invariant.4, (λ m. c.loop-binding.invariant.5 m ∙ ap (elimination_from m s) (step ∙ ap (rest_apart s) empty)))

pub returns-in-Clash-clause-added : goal.returns-in-Clash-clause-added
returns-in-Clash-clause-added g c =
    let s = solution (pairs_in c.args.made.now c.loop-binding.progress.added.items) in
    let found = subst (λ w. Differs c.loop-binding.links (solution (pairs_in c.args.made.now w)) (rest_apart (solution (pairs_in c.args.made.now w)) c.loop-binding.agenda.items) c.next_difference.new.agenda.items c.in_ok-next_difference.field-0) c.as_slice-added.ensures.value c.in_ok-next_difference.ensures.step in
    let step = subst (Differs c.loop-binding.links s (rest_apart s c.loop-binding.agenda.items) c.next_difference.new.agenda.items) c.in-Clash.is found in
    (c.loop-binding.invariant.3, (λ m. c.loop-binding.invariant.5 m ∙ ap (elimination_from m s) step))

pub returns-then-not-branch-clause-added : goal.returns-then-not-branch-clause-added
returns-then-not-branch-clause-added g c =
    let s = solution (pairs_in c.args.made.now c.loop-binding.progress.added.items) in
    let found = subst (λ w. Differs c.loop-binding.links (solution (pairs_in c.args.made.now w)) (rest_apart (solution (pairs_in c.args.made.now w)) c.loop-binding.agenda.items) c.next_difference.new.agenda.items c.in_ok-next_difference.field-0) c.as_slice-added.ensures.value c.in_ok-next_difference.ensures.step in
    let step = subst (Differs c.loop-binding.links s (rest_apart s c.loop-binding.agenda.items) c.next_difference.new.agenda.items) c.in-Bind.is found in
    let inside = subst (IsBound c.loop-binding.links c.try_bind.new.links (pairs_in c.args.made.now c.loop-binding.progress.added.items) c.in-Bind.binding) c.if-not-branch.true c.in_ok-try_bind.ensures.bound in
    (c.loop-binding.invariant.3, elimination_inside c.loop-binding.invariant.3 _ _ s _ _ _ _ c.loop-binding.invariant.5 step.0 inside)

pub loop-binding-preserved : goal.loop-binding-preserved
loop-binding-preserved g c =
    let pairs = pairs_in c.args.made.now c.loop-binding.progress.added.items in
    let s = solution pairs in
    let b = c.in-Bind.binding in
    let found = subst (λ w. Differs c.loop-binding.links (solution (pairs_in c.args.made.now w)) (rest_apart (solution (pairs_in c.args.made.now w)) c.loop-binding.agenda.items) c.next_difference.new.agenda.items c.in_ok-next_difference.field-0) c.as_slice-added.ensures.value c.in_ok-next_difference.ensures.step in
    let step = subst (Differs c.loop-binding.links s (rest_apart s c.loop-binding.agenda.items) c.next_difference.new.agenda.items) c.in-Bind.is found in
    let bound = subst (IsBound c.loop-binding.links c.try_bind.new.links pairs b) c.if-not-branch.false c.in_ok-try_bind.ensures.bound in
    let added = c.try_bind.ensures.added (c.in_ok-try_bind.was ∙ ap Ok c.if-not-branch.false) in
    let more = solution_once_more c.args.made.now c.loop-binding.progress.added.items c.try_bind.new.progress.added.items b.name b.term added in
    let free = name_free c.loop-binding.links pairs b.end b.name (view b.term.now) c.loop-binding.invariant.0 step.1.end bound.1 in (
      subst (IsSound c.try_bind.new.links) (sym (ap (pairs_in c.args.made.now) added ∙ pairs_in-last c.args.made.now c.loop-binding.progress.added.items (b.name, b.term))) bound.0.sound,
      subst (λ k. IsBelowAgenda k c.next_difference.new.agenda.items) (sym bound.0.len) c.next_difference.ensures.below,
      c.try_bind.ensures.undone ∙ c.loop-binding.invariant.2,
      c.loop-binding.invariant.3 + 1,
      omega (arith, ap length added, length-last c.loop-binding.progress.added.items (b.name, b.term), c.loop-binding.invariant.4),
      (λ m.
          elimination_once_more c.loop-binding.invariant.3 _ _ s _ c.next_difference.new.agenda.items b.name _ c.loop-binding.invariant.5 step.0 bound.1 free m ∙ ap (λ r. elimination_from m r (rest_apart r c.next_difference.new.agenda.items)) (sym more)),
    )
