use Rattle.std.proofs.Common.{[], false, true, ◌≡◌, ◌∙◌, subst, sym}
use Rattle.chr_semantics.specs.Subst.{apply, occurs}
use Rattle.chr_term.specs.TermView.{view}
use Rattle.chr_bind.specs.Agenda.{IsRootComparison}
use Rattle.chr_bind.specs.Chains.{pairs_in, solution}
use Rattle.chr_bind.specs.declared.unification.Binding.{Binding}
use Rattle.chr_bind.specs.declared.unification.RootComparison.TheVariants.{Bind, Clash, Same}
use Rattle.chr_bind.proofs.Eliminations.{apart_roots, bound_root, same_roots, within_root}
use Rattle.chr_bind.proofs.unification.unify_terms.Goals as goal

pub returns-in-Same-clause-unified : goal.returns-in-Same-clause-unified
returns-in-Same-clause-unified g c =
    same_roots c.args.links.now c.args.made.now.items (view c.args.left.now) (view c.args.right.now) c.requires.sound.solved
    (subst (λ es. IsRootComparison {A = g.row.A.Denot} c.args.links.now (solution (pairs_in es [])) (view c.args.left.now) (view c.args.right.now) Same) c.as_slice.ensures.value c.in-Same.ensures)

pub returns-in-Clash-clause-unified : goal.returns-in-Clash-clause-unified
returns-in-Clash-clause-unified g c =
    apart_roots c.args.links.now c.args.made.now.items (view c.args.left.now) (view c.args.right.now) c.requires.sound.solved
    (subst (λ es. IsRootComparison {A = g.row.A.Denot} c.args.links.now (solution (pairs_in es [])) (view c.args.left.now) (view c.args.right.now) Clash) c.as_slice.ensures.value c.in-Clash.ensures)

pub returns-then-occurs-clause-unified : goal.returns-then-occurs-clause-unified
returns-then-occurs-clause-unified g c =
    let d : Binding g.row.A.Denot = c.in-Bind.field-0 in
    within_root c.args.links.now c.args.made.now.items (view c.args.left.now) (view c.args.right.now) c.requires.sound.solved d
    (subst (λ es. IsRootComparison {A = g.row.A.Denot} c.args.links.now (solution (pairs_in es [])) (view c.args.left.now) (view c.args.right.now) (Bind d)) c.as_slice.ensures.value c.in-Bind.ensures)
    (subst (λ es. occurs d.name (apply (solution (pairs_in es [])) (view d.term.now)) ≡ true) c.as_slice.ensures.value (sym c.occurs.ensures ∙ c.if-occurs.true))

pub returns-in_ok-bind_alone-in-Bind-clause-unified : goal.returns-in_ok-bind_alone-in-Bind-clause-unified
returns-in_ok-bind_alone-in-Bind-clause-unified g c =
    let d : Binding g.row.A.Denot = c.in-Bind.field-0 in
    bound_root c.args.links.now c.args.made.now.items (view c.args.left.now) (view c.args.right.now) c.requires.sound.solved d
    (subst (λ es. IsRootComparison {A = g.row.A.Denot} c.args.links.now (solution (pairs_in es [])) (view c.args.left.now) (view c.args.right.now) (Bind d)) c.as_slice.ensures.value c.in-Bind.ensures)
    c.bind_alone.new.made.items _ c.in_ok-term-in-Bind.ensures c.in_ok-bind_alone-in-Bind.ensures.made
    (subst (λ es. occurs d.name (apply (solution (pairs_in es [])) (view d.term.now)) ≡ false) c.as_slice.ensures.value (sym c.occurs.ensures ∙ c.if-occurs.false))
