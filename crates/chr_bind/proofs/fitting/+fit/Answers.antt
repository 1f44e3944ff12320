use Rattle.chr_semantics.specs.declared.limits.TheConstants.{MAX_RULE_VARIABLES}
use Rattle.std.proofs.Common.{None, Option, Some, MatchBool, option_and_then, ◌+◌, ◌≡◌, ◌∙◌, ap, arith, drop, subst, sym}
use Rattle.std.proofs.lemmas.Bool.Decides.{Decides-eqb}
use Rattle.chr_semantics.specs.Match.{fit_all}
use Rattle.chr_semantics.specs.Subst.{Subst}
use Rattle.chr_semantics.specs.Tree.{node}
use Rattle.chr_term.specs.TermView.{trees_view, view}
use Rattle.chr_bind.specs.Matching.{AgreesWith}
use Rattle.chr_bind.proofs.Fits.{fit_all-at, fit_all-lengths, fit_end, fit_nodes}
use Rattle.chr_term.proofs.Lists.{below_item}
use Rattle.chr_term.proofs.Sizes.{size-item}
use Rattle.chr_bind.proofs.fitting.+fit.Goals as goal

pub fit_all-returns-then-patterns-terms : goal.fit_all-returns-then-patterns-terms
fit_all-returns-then-patterns-terms g t c = record {
  fits = λ m h. fit_all-lengths c.args.patterns.now c.args.terms.now m (λ e. c.if-patterns-terms.true (omega (arith, e)));
  kept = λ x u e. e;
}

pub fit_all-fit_term-requires : goal.fit_all-fit_term-requires
fit_all-fit_term-requires g t c κs within =
    let smaller = size-item view c.args.patterns.now c.loop-i.i c.index-patterns-i.result c.loop-i-test.true c.index-patterns-i.is in
    (omega (arith, smaller, c.decreases), (within, ((omega arith), below_item MAX_RULE_VARIABLES c.args.patterns.now c.loop-i.i c.index-patterns-i.result c.loop-i-test.true c.index-patterns-i.is c.requires)))

pub fit_all-returns-then-not-fit_term : goal.fit_all-returns-then-not-fit_term
fit_all-returns-then-not-fit_term g t c = record {
  fits = λ m h.
      let old = c.loop-i.invariant.1 m h in
      let here = fit_all-at c.args.patterns.now c.args.terms.now c.loop-i.i c.index-patterns-i.result c.index-terms-i.result old.0 c.loop-i-test.true (omega (arith, c.loop-i-test.true, c.if-patterns-terms.false)) c.index-patterns-i.is c.index-terms-i.is in
      old.2 ∙ here ∙ ap (option_and_then (fit_all (trees_view (drop (c.loop-i.i + 1) c.args.patterns.now)) (trees_view (drop (c.loop-i.i + 1) c.args.terms.now)))) (c.if-not-fit_term.ensures.fits old.0 old.1);
  kept = λ x u e. c.if-not-fit_term.ensures.kept x u (c.loop-i.invariant.0 x u e);
}

pub fit_all-loop-i-preserved : goal.fit_all-loop-i-preserved
fit_all-loop-i-preserved g t c = (
  λ x u e. c.if-not-fit_term.ensures.kept x u (c.loop-i.invariant.0 x u e),
  λ m h.
      let old = c.loop-i.invariant.1 m h in
      let here = fit_all-at c.args.patterns.now c.args.terms.now c.loop-i.i c.index-patterns-i.result c.index-terms-i.result old.0 c.loop-i-test.true (omega (arith, c.loop-i-test.true, c.if-patterns-terms.false)) c.index-patterns-i.is c.index-terms-i.is in
      let more = c.if-not-fit_term.ensures.fits old.0 old.1 in
      (more.0, more.2, old.2 ∙ here ∙ ap (option_and_then (fit_all (trees_view (drop (c.loop-i.i + 1) c.args.patterns.now)) (trees_view (drop (c.loop-i.i + 1) c.args.terms.now)))) more.1),
)

pub fit_all-returns : goal.fit_all-returns
fit_all-returns g t c = record {
  fits = λ m h.
      let old = c.loop-i.invariant.1 m h in
      (old.0, old.2 ∙ fit_end c.args.patterns.now c.args.terms.now c.loop-i.i old.0 c.loop-i-test.false (omega (arith, c.if-patterns-terms.false)), old.1);
  kept = c.loop-i.invariant.0;
}

pub fit_term-returns-then-eq : goal.fit_term-returns-then-eq
fit_term-returns-then-eq g t c = record {
  fits = λ m h.
      let pattern = ap view c.in-Node.is ∙ ap (node c.in-Node.sym.0) (sym c.as_slice.ensures.value) in
      let term = ap view c.in-Node-term.is ∙ ap (node c.in-Node-term.other.0) (sym c.as_slice-then-eq.ensures.value) in
      let same = fit_nodes _ _ _ _ _ _ m pattern term ((Decides-eqb _ _).0 (sym c.if-eq.ensures)) in
      subst (λ (o : Option Subst). MatchBool c.fit_all.result ((n : Subst) × (o ≡ Some n) × AgreesWith c.fit_all.new.matching n) (o ≡ None)) (sym same) (c.fit_all.ensures.fits m h);
  kept = c.fit_all.ensures.kept;
}
