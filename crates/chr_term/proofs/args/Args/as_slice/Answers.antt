use Rattle.std.proofs.Common.{◌≤◌, ◌+◌, ◌*◌, ◌∙◌, ap, subst}
use Rattle.chr_semantics.specs.Tree.{Trees}
use Rattle.chr_term.specs.Depth.{depth, depth_le-size_all}
use Rattle.chr_term.specs.Size.{size_all}
use Rattle.chr_term.specs.TermView.{trees_view}
use Rattle.chr_term.proofs.args.Args.as_slice.Goals as goal

pub returns-clause-depth : goal.returns-clause-depth
returns-clause-depth g c =
    let same = ap trees_view (c.as_slice.ensures.value ∙ ap (λ v. v.items) c.deref.ensures) ∙ c.self.view_is in
    subst (λ (ts : Trees). depth g.A.Allocator c.as_slice.result.now ≤ 2 * size_all ts + 1) same (depth_le-size_all g.A.Allocator c.as_slice.result.now)
