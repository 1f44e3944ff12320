use Rattle.std.proofs.Common.{None, arith, ap, cond, subst, sym, ℕ, ◌∙◌}
use Rattle.chr_term.specs.TermView.{view}
use Rattle.chr_bind.specs.MatchedTerms.{AreFilled, is_marked, tree_at}
use Rattle.chr_bind.proofs.Marked.{put_agrees, put_filled, put_keeps}
use Rattle.chr_bind.proofs.matching.Match.put.Goals as goal

pub invariant_of-self : goal.invariant_of-self
invariant_of-self g c =
    let filled = put_filled c.args.self.now.marks.marks c.args.self.now.matched.terms c.put.new.self.terms c.args.var (view c.args.term.now) (omega (arith, c.requires.small)) c.put.ensures c.args.self.now.filled in
    record { filled = subst (λ (marks : ℕ). AreFilled marks c.put.new.self.terms) (sym c.put-2.ensures) filled }

pub returns-clause-agrees : goal.returns-clause-agrees
returns-clause-agrees g c m a x =
    ap (λ (marks : ℕ). cond (is_marked marks x) (tree_at c.put.new.self.terms x) None) c.put-2.ensures
    ∙ put_agrees c.args.self.now.marks.marks c.args.self.now.matched.terms c.put.new.self.terms c.args.var (view c.args.term.now) (omega (arith, c.requires.small)) c.put.ensures m a x

pub returns-clause-kept : goal.returns-clause-kept
returns-clause-kept g c x u e =
    ap (λ (marks : ℕ). cond (is_marked marks x) (tree_at c.put.new.self.terms x) None) c.put-2.ensures
    ∙ put_keeps c.args.self.now.marks.marks c.args.self.now.matched.terms c.put.new.self.terms c.args.var (view c.args.term.now) (omega (arith, c.requires.small)) c.put.ensures c.requires.free x u e
